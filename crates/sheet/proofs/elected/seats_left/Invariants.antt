-- The invariant of the loop in `seats_left`.
use Rattle.std.proofs.Common.{◌≡◌, drop}
use Rattle.sheet.specs.Page.{seats_left}
use Rattle.sheet.proofs.elected.seats_left.Given as goal

abbrev pub invariant-loop-stage : goal.invariant-loop-stage
invariant-loop-stage l = seats_left l.left (drop l.stage-index l.stages) ≡ seats_left l.seats l.stages
