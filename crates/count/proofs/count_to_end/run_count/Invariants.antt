-- The invariant and the variant of the loop in `run_count`.
use Rattle.std.proofs.Common.{◌≡◌, ◌+◌, ◌-◌, ◌*◌, length}
use Rattle.count.specs.Law.Right.{IsRight, IsBeginning}
use Rattle.count.proofs.count_to_end.run_count.Given as goal

abbrev pub invariant-stages : goal.invariant-stages
invariant-stages g l = record {
  same : g.B.CountBook.contest l.book ≡ g.B.CountBook.contest l.fn.book;
  right : IsRight (g.B.CountBook.contest l.fn.book) l.lots (g.B.CountBook.history l.book);
  begun : IsBeginning (g.B.CountBook.history l.fn.book) (g.B.CountBook.history l.book);
}

abbrev pub decreases-stages : goal.decreases-stages
decreases-stages g l = 2 * length (g.B.CountBook.contest l.book).candidates + 2 - length (g.B.CountBook.history l.book)
