-- The invariant of the loop in `common`: the bytes read so far, followed by the common prefix of the remaining ones, are the common prefix.
use Rattle.std.proofs.Common.{◌≡◌, ◌++◌, take, drop}
use Rattle.checker.specs.Differences.{common}
use Rattle.checker.proofs.differences.common.Given as goal

abbrev pub invariant-loop-i : goal.invariant-loop-i
invariant-loop-i l = take l.i l.text ++ common (drop l.i l.text) (drop l.i l.other) ≡ common l.text l.other
