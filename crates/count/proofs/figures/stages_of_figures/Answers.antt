-- Parts of the proof of `stages_of_figures` that are done by hand.
use Rattle.std.proofs.Common.{rules, ◌≡◌, ◌∙◌, ℕ, ◌+◌, List, [], ◌∷◌, length, reverse, ap, sym, subst, arith}
use Rattle.std.proofs.lemmas.Bool.{eqb-false}
use Rattle.count.specs.Law.Contest.{History}
use Rattle.count.specs.Law.Due.{lot_for}
use Rattle.count.specs.Law.Right.{IsRightForSome}
use Rattle.count.specs.Marks.{figures_at, all_figures}
use Rattle.count.proofs.ReadBackLemmas.{AreRead, none-read, read-more, all-read, none-left}
use Rattle.count.proofs.figures.stages_of_figures.Goals as goal

pub loop-rest-init : goal.loop-rest-init
loop-rest-init c = λ contest history fair right known are.
    none-read contest history c.args.figures.now c.new-stages.result.items c.empty-elected.result fair (are ∙ ap (λ (cs : List ℕ). all_figures cs history) (sym known)) (search rules) (search rules)

pub loop-rest-preserved : goal.loop-rest-preserved
loop-rest-preserved c = λ contest history fair right known are.
    let n : ℕ = c.len-size.result + 2 in
    let old : History = reverse c.loop-rest.stages.items in
    let read = c.loop-rest.invariant contest history fair right known are in
    let more =
    read-more contest (λ b t. lot_for right.lots (length b + 1)) history c.loop-rest.stages.items c.loop-rest.rest.now c.loop-rest.elected
    c.push_stage.new.elected c.push_stage.new.stages.items n right.right
    (omega (arith, c.len-size.ensures.is, ap length known)) c.loop-rest-test.true read (λ s right_to shown.
    let so_far : IsRightForSome contest (s ∷ old) = record { lots = right.lots; right = right_to } in
    let at : c.split_at.result.0.now ≡ figures_at c.args.candidates.now (s ∷ old) = c.split_at.ensures.front ∙ shown ∙ ap (λ (cs : List ℕ). figures_at cs (s ∷ old)) known in
    (c.in_ok-push_stage.ensures.stage contest s old fair so_far known at read.elected_is, c.in_ok-push_stage.ensures.elected contest s old fair so_far known at)) in
    subst (AreRead contest history c.push_stage.new.stages.items c.push_stage.new.elected) (sym c.split_at.ensures.back) more

pub returns-then-is_empty-clause-is : goal.returns-then-is_empty-clause-is
returns-then-is_empty-clause-is c = λ contest history fair right known are.
    all-read contest history c.loop-rest.stages.items c.loop-rest.elected c.loop-rest.rest.now (c.loop-rest.invariant contest history fair right known are)
    (omega (arith, c.loop-rest-test.false, c.len-size.ensures.is, ap length known))

pub returns-else-is_empty-clause-some : goal.returns-else-is_empty-clause-some
returns-else-is_empty-clause-some c = λ contest history fair right known are.
    let none : c.loop-rest.rest.now ≡ [] =
    none-left contest history c.loop-rest.stages.items c.loop-rest.elected c.loop-rest.rest.now (c.loop-rest.invariant contest history fair right known are)
    (omega (arith, c.loop-rest-test.false, c.len-size.ensures.is, ap length known)) in
    absurd (eqb-false (length c.loop-rest.rest.now) 0 (sym c.is_empty.ensures ∙ c.if-is_empty.false) (ap length none))
