-- The invariant of the loop in `action_in`.
use Rattle.std.proofs.Common.{◌≡◌, ℕ, map, drop}
use Rattle.count.specs.Inside.Reading.{action_shown}
use Rattle.count.specs.declared.figures.Figure.{Figure}
use Rattle.count.proofs.figures.action_in.Given as goal

abbrev pub invariant-loop-i : goal.invariant-loop-i
invariant-loop-i l = (f : ℕ → Figure) → l.figures ≡ map f l.c-items → action_shown f l.c-items ≡ action_shown f (drop l.i l.c-items)
