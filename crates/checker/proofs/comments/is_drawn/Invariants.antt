-- The invariant of the loop in `is_drawn`: none of the lots so far is for the stage.
use Rattle.std.proofs.Common.{◌≡◌, drop}
use Rattle.checker.specs.BallotsComments.{is_drawn}
use Rattle.checker.proofs.comments.is_drawn.Given as goal

abbrev pub invariant-loop-lot : goal.invariant-loop-lot
invariant-loop-lot l = is_drawn l.stage (drop l.lot-index l.lots) ≡ is_drawn l.stage l.lots
