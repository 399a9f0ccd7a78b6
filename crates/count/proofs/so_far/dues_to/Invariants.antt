-- The invariant of the loop in `dues_to`.
use Rattle.std.proofs.Common.{◌≡◌, map}
use Rattle.std.specs.List.{range_with_len}
use Rattle.count.specs.Law.Due.{due_after}
use Rattle.count.specs.Law.Count.{stages_to}
use Rattle.count.proofs.so_far.dues_to.Given as goal

abbrev pub invariant-loop : goal.invariant-loop
invariant-loop g l = record {
  same : g.B.CountBook.contest l.book ≡ g.B.CountBook.contest l.fn.book;
  counted : g.B.CountBook.history l.book ≡ stages_to (g.B.CountBook.contest l.fn.book) l.lots l.counter;
  all : l.dues.items ≡ map (λ k. due_after (g.B.CountBook.contest l.fn.book) (stages_to (g.B.CountBook.contest l.fn.book) l.lots k)) (range_with_len 0 l.counter);
}
