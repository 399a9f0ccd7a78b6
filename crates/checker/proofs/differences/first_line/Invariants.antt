-- The invariant of the loop in `first_line`: the bytes read so far belong to the first line.
use Rattle.std.proofs.Common.{◌≡◌, ◌++◌, take, drop}
use Rattle.checker.specs.Differences.{first_line}
use Rattle.checker.proofs.differences.first_line.Given as goal

abbrev pub invariant-loop-i : goal.invariant-loop-i
invariant-loop-i l = take l.i l.text ++ first_line (drop l.i l.text) ≡ first_line l.text
