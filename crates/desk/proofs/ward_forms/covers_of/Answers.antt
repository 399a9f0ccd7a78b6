-- Proof that `covers_of` meets its contract.
use Rattle.std.proofs.Common.{refl}
use Rattle.store.specs.Overviews.{batch_view}
use Rattle.forms.specs.Covers.{cover_entry}
use Rattle.desk.specs.Forms.{cover_of}
use Rattle.desk.proofs.FormLemmas.{entry_more}
use Rattle.desk.proofs.ward_forms.covers_of.Goals as goal

pub loop-overview-preserved : goal.loop-overview-preserved
loop-overview-preserved c =
    entry_more cover_entry cover_of batch_view c.args.batches.now c.loop-overview.overview-index c.overview-item.result _ c.push.new.self.items _ _ c.loop-overview-test.true c.overview-item.is
    c.in_ok-push.ensures.items refl c.loop-overview.invariant
