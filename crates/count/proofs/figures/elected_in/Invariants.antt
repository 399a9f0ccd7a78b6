-- The invariant of the loop in `elected_in`.
use Rattle.std.proofs.Common.{◌≡◌, ℕ, map, take}
use Rattle.count.specs.Inside.Reading.{elected_shown}
use Rattle.count.specs.declared.figures.Figure.{Figure}
use Rattle.count.proofs.figures.elected_in.Given as goal

abbrev pub invariant-loop-i : goal.invariant-loop-i
invariant-loop-i l = (f : ℕ → Figure) → l.figures ≡ map f l.c-items → l.chosen ≡ elected_shown f (take l.i l.c-items)
