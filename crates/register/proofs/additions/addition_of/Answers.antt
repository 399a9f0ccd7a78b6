-- Parts of the proof of `addition_of` that are done by hand.
use Rattle.std.proofs.Common.{◌≡◌, ℕ, List, map, refl, sym, subst, ◌∙◌}
use Rattle.std.specs.Prelude.{IsSome}
use Rattle.std.proofs.lemmas.Result.{IfOk-weaker}
use Rattle.count.specs.Books.{placed}
use Rattle.count.specs.Bundles.{Bundle}
use Rattle.count.specs.Law.Due.{next_action}
use Rattle.count.specs.Law.Places.{Place}
use Rattle.register.specs.Elections.{contest_of, stages_of}
use Rattle.register.specs.Tabulated.{addition_entries}
use Rattle.register.specs.Additions.{IsAddedTo}
use Rattle.register.specs.Walks.{all_added, moves_added}
use Rattle.register.proofs.NextLemmas.{some_due, first_added, later_added}
use Rattle.register.proofs.additions.addition_of.Goals as goal

pub returns-then-is_empty : goal.returns-then-is_empty
returns-then-is_empty c =
    let count = c.args.count.now in
    let next = c.in-Some.next in
    let told = rw c.in-Some.is at c.in_ok-next.ensures.is in
    let more = rw c.in-Some.is at c.in_ok-next.ensures.some in
    let none = rw c.stages.ensures at (sym c.is_empty.ensures ∙ c.if-is_empty.true) in
    IfOk-weaker c.first_addition.result
    (λ added. (now : List ℕ → Place) → next.places.items ≡ map (λ (b : Bundle). placed (now b.0)) count.kept.bundles
    → addition_entries added ≡ all_added c.args.ward count.kept.candidates count.kept.bundles now next.stages.items)
    (λ added. IsAddedTo c.args.ward count added)
    (λ added is e of own.
    let drawn = c.deref.ensures.value ∙ of.lots_are in
    some_due e (next_action (contest_of e) e.lots (stages_of e)) (addition_entries added)
    (subst (λ (ls : List (ℕ × ℕ)). IsSome (next_action (contest_of e) ls (stages_of e))) drawn ((more (contest_of e) (stages_of e) of.kept_is).0 refl))
    (λ action due. first_added e action c.args.ward count.kept c.deref.result.now next.places.items next.stages.items of.kept_is drawn own due
    (told (contest_of e) (stages_of e) of.kept_is) none (addition_entries added) is))
    c.first_addition.ensures

pub returns : goal.returns
returns c =
    let count = c.args.count.now in
    let next = c.in-Some.next in
    let told = rw c.in-Some.is at c.in_ok-next.ensures.is in
    let more = rw c.in-Some.is at c.in_ok-next.ensures.some in
    let some = rw c.stages.ensures at (sym c.is_empty.ensures ∙ c.if-is_empty.false) in
    IfOk-weaker c.later_addition.result
    (λ added. addition_entries added ≡ moves_added c.args.ward count.kept.candidates count.kept.bundles count.kept.places next.places.items next.stages.items)
    (λ added. IsAddedTo c.args.ward count added)
    (λ added is e of own.
    let drawn = c.deref.ensures.value ∙ of.lots_are in
    some_due e (next_action (contest_of e) e.lots (stages_of e)) (addition_entries added)
    (subst (λ (ls : List (ℕ × ℕ)). IsSome (next_action (contest_of e) ls (stages_of e))) drawn ((more (contest_of e) (stages_of e) of.kept_is).0 refl))
    (λ action due. later_added e action c.args.ward count.kept c.deref.result.now next.places.items next.stages.items of.kept_is drawn own due
    (told (contest_of e) (stages_of e) of.kept_is) some (addition_entries added) is))
    c.later_addition.ensures
