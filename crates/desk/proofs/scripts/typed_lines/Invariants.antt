-- The invariant of the loop in `typed_lines`: the lines read so far, followed by the remaining ones, are all the lines.
use Rattle.std.proofs.Common.{◌≡◌, ◌++◌, map, drop}
use Rattle.desk.specs.Lexing.{line_entry, typed_line_entry}
use Rattle.desk.specs.Scripts.{typed_line}
use Rattle.desk.proofs.scripts.typed_lines.Given as goal

abbrev pub invariant-loop-line : goal.invariant-loop-line
invariant-loop-line l = map typed_line_entry l.all.items ++ map typed_line (map line_entry (drop l.line-index l.lines)) ≡ map typed_line (map line_entry l.lines)
