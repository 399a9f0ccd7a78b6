-- The invariant of the loop in `votes_in`.
use Rattle.std.proofs.Common.{◌≡◌, ℕ, map, take, length}
use Rattle.paper.specs.Columns.{max_candidates}
use Rattle.count.specs.Inside.Reading.{votes_shown}
use Rattle.count.specs.declared.figures.Figure.{Figure}
use Rattle.count.proofs.figures.votes_in.Given as goal

abbrev pub invariant-loop-i : goal.invariant-loop-i
invariant-loop-i l = record {
  size : length l.votes ≡ max_candidates;
  so_far : (f : ℕ → Figure) → l.figures ≡ map f l.c-items → l.votes ≡ votes_shown f (take l.i l.c-items);
}
