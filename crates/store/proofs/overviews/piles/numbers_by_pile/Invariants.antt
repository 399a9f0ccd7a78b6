-- The invariant of the loop in `numbers_by_pile`.
use Rattle.std.proofs.Common.{◌≡◌, ℕ, List, map, take}
use Rattle.store.specs.Piles.{read_view, numbers_under, numbers_with}
use Rattle.store.proofs.overviews.piles.numbers_by_pile.Given as goal

abbrev pub invariant-loop-batch : goal.invariant-loop-batch
invariant-loop-batch l = (q : List ℕ) → numbers_under l.numbers q ≡ numbers_with (take l.batch-index (map read_view l.batches)) q
