-- Parts of the proof of `those` that are done by hand.
use Rattle.std.proofs.Common.{◌∙◌, sym, subst, slice_index}
use Rattle.paper.specs.Columns.{IsCandidateSet}
use Rattle.count.proofs.ColumnLemmas.{chosen-yes, chosen-no}
use Rattle.count.proofs.elected.those.Goals as goal
use Rattle.count.proofs.elected.those.Goals.{then-passes, else-passes}

pub loop-c-preserved : goal.loop-c-preserved
loop-c-preserved g c = λ test agrees.
    let xs = c.as_slice-c-items.result.now in
    let i = c.loop-c.c-index in
    let set : IsCandidateSet xs = subst IsCandidateSet (sym c.as_slice-c-items.ensures.is) c.as_slice-c-items.ensures.set in
    let known = set.within i c.loop-c-test.true in
    let told = agrees (slice_index xs i) c.passes.result known.0 known.1 c.passes.ensures in
    elim c.if-passes.branch [
      | then-passes w ↦ w.chosen-is ∙ chosen-yes test xs c.loop-c.chosen w.with-chosen.result i set c.loop-c-test.true (sym told ∙ w.if-passes.true)
          (c.loop-c.invariant test agrees) w.with-chosen.ensures.last
      | else-passes w ↦ w.chosen-is ∙ chosen-no test xs c.loop-c.chosen i c.loop-c-test.true (sym told ∙ w.if-passes.false) (c.loop-c.invariant test agrees)
    ]
