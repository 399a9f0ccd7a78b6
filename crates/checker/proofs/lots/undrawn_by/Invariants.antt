-- The invariant of the loop in `undrawn_by`: the lots so far are drawn.
use Rattle.std.proofs.Common.{◌≡◌, drop}
use Rattle.checker.specs.Checks.{undrawn_by}
use Rattle.checker.proofs.lots.undrawn_by.Given as goal

abbrev pub invariant-loop-lot : goal.invariant-loop-lot
invariant-loop-lot l = undrawn_by l.dues (drop l.lot-index l.lots) ≡ undrawn_by l.dues l.lots
