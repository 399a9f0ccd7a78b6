-- Parts of the proof of `action_in` that are done by hand.
use Rattle.std.proofs.Common.{◌≡◌, ◌∙◌, ap, sym, map}
use Rattle.count.specs.declared.figures.Figure.{Figure}
use Rattle.count.specs.Inside.Reading.{action_shown}
use Rattle.count.proofs.ReadingLemmas.{figure-at, action-none, action-some}
use Rattle.count.proofs.figures.action_in.Goals as goal

pub returns-in-Some : goal.returns-in-Some
returns-in-Some c = λ f is.
    let items : c.as_slice-c-items.result.now ≡ c.args.candidates.now = c.as_slice-c-items.ensures.is in
    let are : c.args.figures.now ≡ map f c.as_slice-c-items.result.now = is ∙ ap (map f) (sym items) in
    let at = figure-at f c.as_slice-c-items.result.now c.args.figures.now c.loop-i.i _ are c.loop-i-test.true in
    sym (ap (action_shown f) (sym items) ∙ c.loop-i.invariant f are
    ∙ action-some f c.as_slice-c-items.result.now c.loop-i.i _ c.in-Some.action c.loop-i-test.true (ap (λ (g : Figure). g.mark) at) (sym c.action_by.ensures ∙ c.in-Some.is))

pub loop-i-preserved : goal.loop-i-preserved
loop-i-preserved c = λ f is.
    let at = figure-at f c.as_slice-c-items.result.now c.args.figures.now c.loop-i.i _ is c.loop-i-test.true in
    c.loop-i.invariant f is
    ∙ action-none f c.as_slice-c-items.result.now c.loop-i.i _ c.loop-i-test.true (ap (λ (g : Figure). g.mark) at) (sym c.action_by.ensures ∙ c.in-None.is)
