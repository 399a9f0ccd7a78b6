-- The invariant of the loop in `worth`.
use Rattle.std.proofs.Common.{◌≡◌, take}
use Rattle.count.specs.Inside.Holdings.{worth}
use Rattle.count.proofs.parcel_figures.worth.Given as goal

abbrev pub invariant-loop-holding : goal.invariant-loop-holding
invariant-loop-holding l = l.sum ≡ worth (take l.holding-index l.holdings)
