-- Parts of the proof of `elected_in` that are done by hand.
use Rattle.std.proofs.Common.{◌∙◌, ap, sym, subst}
use Rattle.paper.specs.Columns.{IsCandidateSet}
use Rattle.count.specs.declared.figures.Figure.{Figure}
use Rattle.count.proofs.ReadingLemmas.{figure-at, elected-yes, elected-no}
use Rattle.count.proofs.figures.elected_in.Goals as goal
use Rattle.count.proofs.figures.elected_in.Goals.{then-is_elected_mark, else-is_elected_mark}

pub loop-i-preserved : goal.loop-i-preserved
loop-i-preserved c = λ f is.
    let set : IsCandidateSet c.as_slice-c-items.result.now = subst IsCandidateSet (sym c.as_slice-c-items.ensures.is) c.as_slice-c-items.ensures.set in
    let mark = ap (λ (g : Figure). g.mark) (figure-at f c.as_slice-c-items.result.now c.args.figures.now c.loop-i.i _ is c.loop-i-test.true) in
    elim c.if-is_elected_mark.branch [
      | then-is_elected_mark w ↦
          w.chosen-is
          ∙ elected-yes f c.as_slice-c-items.result.now c.loop-i.chosen w.with-chosen.result c.loop-i.i _ set c.loop-i-test.true mark
          (sym c.is_elected_mark.ensures ∙ w.if-is_elected_mark.true) (c.loop-i.invariant f is) w.with-chosen.ensures.last
      | else-is_elected_mark w ↦
          w.chosen-is ∙ elected-no f c.as_slice-c-items.result.now c.loop-i.chosen c.loop-i.i _ c.loop-i-test.true mark (sym c.is_elected_mark.ensures ∙ w.if-is_elected_mark.false)
          (c.loop-i.invariant f is)
    ]
