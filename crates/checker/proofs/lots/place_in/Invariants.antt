-- The invariant of the loop in `place_in`: none of the lots so far is for a later stage.
use Rattle.std.proofs.Common.{◌≡◌, ◌+◌, drop}
use Rattle.checker.specs.Counts.{place_in}
use Rattle.checker.proofs.lots.place_in.Given as goal

abbrev pub invariant-loop-i : goal.invariant-loop-i
invariant-loop-i l = place_in l.stage (drop l.i l.lots) + l.i ≡ place_in l.stage l.lots
