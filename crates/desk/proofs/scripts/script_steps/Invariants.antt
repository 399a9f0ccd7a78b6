-- The invariant of the loop in `script_steps`: the lines read so far mean the steps so far.
use Rattle.std.proofs.Common.{map, take}
use Rattle.desk.specs.Lexing.{typed_line_entry}
use Rattle.desk.specs.Scripts.{AreTurns}
use Rattle.desk.proofs.scripts.script_steps.Given as goal

abbrev pub invariant-loop-line : goal.invariant-loop-line
invariant-loop-line l = AreTurns (map typed_line_entry (take l.line-index l.lines)) l.turns.items
