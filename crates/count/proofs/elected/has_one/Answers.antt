-- Parts of the proof of `has_one` that are done by hand.
use Rattle.std.proofs.Common.{◌∙◌, ◌||◌, Bool, sym, ap, ap₂, subst, slice_index}
use Rattle.std.specs.List.{list_any}
use Rattle.std.proofs.lemmas.List.{take_all}
use Rattle.std.proofs.lemmas.List.Folds.{list_any_at, list_any_more}
use Rattle.paper.specs.Columns.{IsCandidateSet}
use Rattle.count.proofs.elected.has_one.Goals as goal

pub loop-c-preserved : goal.loop-c-preserved
loop-c-preserved g c = λ test agrees.
    let xs = c.as_slice-c-items.result.now in
    let i = c.loop-c.c-index in
    let set : IsCandidateSet xs = subst IsCandidateSet (sym c.as_slice-c-items.ensures.is) c.as_slice-c-items.ensures.set in
    let known = set.within i c.loop-c-test.true in
    let fails = sym (agrees (slice_index xs i) c.passes.result known.0 known.1 c.passes.ensures) ∙ c.if-passes.false in
    list_any_more test xs i 0 c.loop-c-test.true ∙ ap₂ (λ (a b : Bool). a || b) (c.loop-c.invariant test agrees) fails

pub returns-then-passes : goal.returns-then-passes
returns-then-passes g c = λ test agrees.
    let xs = c.as_slice-c-items.result.now in
    let i = c.loop-c.c-index in
    let set : IsCandidateSet xs = subst IsCandidateSet (sym c.as_slice-c-items.ensures.is) c.as_slice-c-items.ensures.set in
    let known = set.within i c.loop-c-test.true in
    let passes = sym (agrees (slice_index xs i) c.passes.result known.0 known.1 c.passes.ensures) ∙ c.if-passes.true in
    sym (ap (list_any test) (sym c.as_slice-c-items.ensures.is) ∙ list_any_at test xs i 0 c.loop-c-test.true passes)

pub returns : goal.returns
returns g c = λ test agrees.
    let xs = c.as_slice-c-items.result.now in
    sym (ap (list_any test) (sym c.as_slice-c-items.ensures.is ∙ sym (take_all c.loop-c.c-index xs c.loop-c-test.false)) ∙ c.loop-c.invariant test agrees)
