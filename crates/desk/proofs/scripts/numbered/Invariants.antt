-- The invariant of the loop in `numbered`: the lines read so far, followed by the numbered remaining ones, are the numbered lines of the text.
use Rattle.std.proofs.Common.{◌≡◌, ◌+◌, ◌++◌, map, drop}
use Rattle.desk.specs.Lexing.{line_entry}
use Rattle.desk.specs.Scripts.{numbered_from}
use Rattle.desk.proofs.scripts.numbered.Given as goal

abbrev pub invariant-loop-i : goal.invariant-loop-i
invariant-loop-i l =
    map line_entry l.lines.items ++ numbered_from (l.i + 1) (map (λ line. line.items) (drop l.i l.all)) ≡ numbered_from 1 (map (λ line. line.items) l.all)
