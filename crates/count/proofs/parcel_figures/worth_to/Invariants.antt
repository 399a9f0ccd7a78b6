-- The invariant of the loop in `worth_to`.
use Rattle.std.proofs.Common.{◌≡◌, take}
use Rattle.count.specs.Inside.Holdings.{worth_to}
use Rattle.count.proofs.parcel_figures.worth_to.Given as goal

abbrev pub invariant-loop-holding : goal.invariant-loop-holding
invariant-loop-holding l = l.sum ≡ worth_to l.holder (take l.holding-index l.holdings)
