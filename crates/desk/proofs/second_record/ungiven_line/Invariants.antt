-- The invariant of the loop in `ungiven_line`: the steps so far send given requests.
use Rattle.std.proofs.Common.{◌≡◌, drop}
use Rattle.desk.specs.Seconds.{first_ungiven}
use Rattle.desk.proofs.second_record.ungiven_line.Given as goal

abbrev pub invariant-loop-turn : goal.invariant-loop-turn
invariant-loop-turn l = first_ungiven l.turns ≡ first_ungiven (drop l.turn-index l.turns)
