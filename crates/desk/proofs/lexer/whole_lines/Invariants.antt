-- The invariant of the loop in `whole_lines`: the whole lines read so far end at `end`.
use Rattle.desk.proofs.WholeLineLemmas.{AreRead}
use Rattle.desk.proofs.lexer.whole_lines.Given as goal

abbrev pub invariant-loop-i : goal.invariant-loop-i
invariant-loop-i l = AreRead l.text l.end l.i
