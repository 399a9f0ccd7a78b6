-- The invariant of the loop in `with_lots`: the lots so far, with the remaining ones added, are all lots.
use Rattle.std.proofs.Common.{◌≡◌, drop}
use Rattle.checker.specs.Counts.{with_lots}
use Rattle.checker.proofs.lots.with_lots.Given as goal

abbrev pub invariant-loop-lot : goal.invariant-loop-lot
invariant-loop-lot l = with_lots l.lots.items (drop l.lot-index l.more) ≡ with_lots l.fn.lots.items l.more
