-- The invariant of the loop in `all_paired`.
use Rattle.std.proofs.Common.{◌≡◌, map}
use Rattle.store.specs.Overviews.{batch_view}
use Rattle.store.specs.Piles.{read_view, numbers_under, all_paired}
use Rattle.store.proofs.overviews.piles.all_paired.Given as goal

abbrev pub invariant-loop-batch : goal.invariant-loop-batch
invariant-loop-batch l = record {
  goes : (goal.iterator-loop-batch).can_next l.batch-iterator × (goal.iterator-loop-batch).is_finite l.batch-iterator;
  all : map batch_view l.found.items ≡ all_paired (numbers_under l.numbers) (map read_view l.yielded);
}
