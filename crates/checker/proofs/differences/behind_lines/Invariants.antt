-- The invariant of the loop in `behind_lines`: the result is what follows the remaining lines in the remaining bytes.
use Rattle.std.proofs.Common.{◌≡◌, drop}
use Rattle.checker.specs.Differences.{behind_lines}
use Rattle.checker.proofs.differences.behind_lines.Given as goal

abbrev pub invariant-loop-i : goal.invariant-loop-i
invariant-loop-i l = behind_lines l.left (drop l.i l.text) ≡ behind_lines l.lines l.text
