-- Proof that `overviews_among` meets its contract.
use Rattle.std.proofs.Common.{map}
use Rattle.store.specs.Overviews.{batch_view}
use Rattle.store.specs.Piles.{read_view, numbers_under}
use Rattle.store.proofs.PileLemmas.{overviews_told}
use Rattle.store.proofs.overviews.batches.overviews_among.Goals as goal

pub returns-clause-is : goal.returns-clause-is
returns-clause-is c = λ s ward told.
    overviews_told s ward (numbers_under c.in-Ok.numbers) (map read_view c.args.read.items) (map batch_view c.in-Ok-all_paired.found.items)
    (rw c.deref.ensures.value at c.in-Ok.ensures) c.in-Ok-all_paired.ensures told
