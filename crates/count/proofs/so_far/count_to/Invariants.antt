-- The invariant of the loop in `count_to`.
use Rattle.std.proofs.Common.{◌≡◌}
use Rattle.count.specs.Law.Count.{stages_to}
use Rattle.count.proofs.so_far.count_to.Given as goal

abbrev pub invariant-loop : goal.invariant-loop
invariant-loop g l = record {
  same : g.B.CountBook.contest l.book ≡ g.B.CountBook.contest l.fn.book;
  counted : g.B.CountBook.history l.book ≡ stages_to (g.B.CountBook.contest l.fn.book) l.lots l.counter;
}
