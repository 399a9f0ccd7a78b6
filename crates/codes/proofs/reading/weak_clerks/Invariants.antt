-- The invariant of the loop in `weak_clerks`: the weak clerks so far, followed by those in the remaining lines, are the weak clerks in all lines.
use Rattle.std.proofs.Common.{◌≡◌, ◌++◌, drop, map}
use Rattle.codes.specs.Files.{code_entry, weak_clerks}
use Rattle.codes.proofs.reading.weak_clerks.Given as goal

abbrev pub invariant-loop-line : goal.invariant-loop-line
invariant-loop-line l = l.weak.items ++ weak_clerks (map code_entry (drop l.line-index l.lines)) ≡ weak_clerks (map code_entry l.lines)
