-- The invariant of the loop in `draw_letters`: the letters so far are those that the bytes read so far select.
use Rattle.std.proofs.Common.{◌≡◌, ◌*◌, ◌≤◌, length}
use Rattle.codes.proofs.DrawingLemmas.{IsDrawing}
use Rattle.codes.proofs.random_letters.draw_letters.Given as goal

abbrev pub invariant-loop-letters : goal.invariant-loop-letters
invariant-loop-letters g l = record {
  drawing : IsDrawing (g.D.RandomSource.drawn l.fn.draws) (g.D.RandomSource.drawn l.draws) l.letters.items (100 * l.count) l.left;
  failed : g.D.RandomSource.failed l.draws ≡ g.D.RandomSource.failed l.fn.draws;
  bound : length l.letters.items ≤ l.count;
}

abbrev pub decreases-loop-letters : goal.decreases-loop-letters
decreases-loop-letters g l = l.left
