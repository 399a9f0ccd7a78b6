-- Proof that `rows_of` meets its contract.
use Rattle.std.proofs.Common.{refl}
use Rattle.store.specs.Overviews.{doubtful_view}
use Rattle.forms.specs.Verdicts.{doubtful_entry}
use Rattle.desk.specs.Forms.{doubtful_of}
use Rattle.desk.proofs.FormLemmas.{entry_more}
use Rattle.desk.proofs.ward_forms.rows_of.Goals as goal

pub loop-paper-preserved : goal.loop-paper-preserved
loop-paper-preserved c =
    entry_more doubtful_entry doubtful_of doubtful_view c.args.papers.now c.loop-paper.paper-index c.paper-item.result _ c.push.new.self.items _ _ c.loop-paper-test.true c.paper-item.is
    c.in_ok-push.ensures.items refl c.loop-paper.invariant
