-- Proof that `forget` meets its contract.
use Rattle.std.proofs.Common.{◌≡◌, ◌==◌, false, true, [], refl, sym, ap, subst, ◌∙◌}
use Rattle.register.specs.Offices.{BatchEntry}
use Rattle.register.specs.Effects.{effect_entry}
use Rattle.store.specs.declared.batch_cache.CachedBatch.{CachedBatch}
use Rattle.store.specs.declared.batch_cache.AffectedBatches.{AffectedBatches}
use Rattle.store.specs.declared.batch_cache.AffectedBatches.TheVariants.{Nothing, Batch, Ward}
use Rattle.store.specs.Memories.{concerns, is_about, row_of}
use Rattle.store.proofs.MemoryLemmas.{left_known, all_left}
use Rattle.store.proofs.batch_cache.forget.Goals as goal

pub returns-in-Nothing : goal.returns-in-Nothing
returns-in-Nothing c s r are =
    all_left s (effect_entry c.args.effect.now) r (λ b. c.affected_batches.ensures b (ap (λ (it : AffectedBatches). concerns it b) c.in-Nothing.is)) c.args.known.now.items are

pub returns-in-Batch : goal.returns-in-Batch
returns-in-Batch c s r are =
    rw c.forget_batch.ensures
    (left_known s (effect_entry c.args.effect.now) r (λ (k : CachedBatch). k.overview.batch.number == c.in-Batch.number)
    (λ k apart. c.affected_batches.ensures (row_of k) (ap (λ (it : AffectedBatches). concerns it (row_of k)) c.in-Batch.is ∙ apart)) c.args.known.now.items are)

pub returns-in-Ward : goal.returns-in-Ward
returns-in-Ward c s r are =
    rw c.forget_ward.ensures
    (left_known s (effect_entry c.args.effect.now) r (λ (k : CachedBatch). k.overview.batch.ward == c.in-Ward.ward)
    (λ k apart. c.affected_batches.ensures (row_of k) (ap (λ (it : AffectedBatches). concerns it (row_of k)) c.in-Ward.is ∙ apart)) c.args.known.now.items are)
