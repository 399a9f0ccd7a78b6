-- The invariant of the loop in `worth_of_parcels`.
use Rattle.std.proofs.Common.{◌≡◌, take}
use Rattle.count.specs.Inside.Holdings.{total_of}
use Rattle.count.proofs.parcel_figures.worth_of_parcels.Given as goal

abbrev pub invariant-loop-parcel : goal.invariant-loop-parcel
invariant-loop-parcel l = l.sum ≡ total_of (λ rest v. v) (take l.parcel-index l.parcels)
