-- Parts of the proof of `next_stage` that are done by hand.
use Rattle.std.proofs.Common.{◌≡◌, ◌∙◌, List, Option, Some, None, reverse, refl, sym, ap, subst}
use Rattle.std.specs.Prelude.{IsSome}
use Rattle.count.specs.Advance.{Adds}
use Rattle.count.specs.Books.{contest_of}
use Rattle.count.specs.StoredCounts.{StoredCountEntry, IsStoredCountOf, places_after}
use Rattle.count.specs.Law.Contest.{Contest}
use Rattle.count.specs.Law.Count.{with_next}
use Rattle.count.specs.Law.Due.{next_action}
use Rattle.count.specs.Inside.Placing.{contest_on, IsDueInBook}
use Rattle.count.specs.declared.placed.Placed.{Placed}
use Rattle.count.specs.declared.stages.Action.{Action}
use Rattle.count.specs.declared.stages.Stage.{Stage}
use Rattle.count.proofs.StoredCountLemmas.{kept-tells, kept-next}
use Rattle.count.proofs.stored_count.StoredCount.next_stage.Goals as goal
use Rattle.count.proofs.stored_count.StoredCount.next_stage.Goals.{In_ok-places-in-Some}

-- no action is due if none was found,
pub returns-in-None-clause-some : goal.returns-in-None-clause-some
returns-in-None-clause-some c contest history kept =
    let none : None ≡ next_action contest c.args.lots.now history =
    kept-tells (λ k h. next_action k c.args.lots.now h) None c.self.inside.terms c.self.inside.bundles c.self.inside.places.items c.self.inside.stages.items
    c.deref.result.now c.args.self.now contest history
    c.self.view_is c.deref.ensures.value c.self.invariant c.in-None.ensures kept in
    (λ nothing. absurd (cc), λ some. subst (λ (o : Option Action). IsSome o) (sym none) some)

-- and one is due if one was found
pub returns-in_ok-places-in-Some-clause-some : goal.returns-in_ok-places-in-Some-clause-some
returns-in_ok-places-in-Some-clause-some c contest history kept =
    let one : Some c.in-Some.action ≡ next_action contest c.args.lots.now history =
    kept-tells (λ k h. next_action k c.args.lots.now h) (Some c.in-Some.action) c.self.inside.terms c.self.inside.bundles c.self.inside.places.items
    c.self.inside.stages.items c.deref.result.now c.args.self.now contest history
    c.self.view_is c.deref.ensures.value c.self.invariant c.in-Some.ensures kept in
    (λ found. subst (λ (o : Option Action). IsSome o) one refl, λ some. refl)

-- if the action is due, for the borrowed places and stages
lent : (c : In_ok-places-in-Some) → let contest : Contest = contest_on c.self.inside.terms c.self.inside.bundles in
    IsDueInBook contest (reverse c.self.inside.stages.items) c.self.inside.bundles c.self.inside.places.items c.in-Some.action →
    IsDueInBook contest (reverse c.deref-in-Some-2.result.now) c.self.inside.bundles c.deref-in-Some.result.now c.in-Some.action
lent c due =
    let contest : Contest = contest_on c.self.inside.terms c.self.inside.bundles in
    subst (λ (l : List Stage). IsDueInBook contest (reverse l) c.self.inside.bundles c.deref-in-Some.result.now c.in-Some.action) (sym c.deref-in-Some-2.ensures.value)
    (subst (λ (l : List Placed). IsDueInBook contest (reverse c.self.inside.stages.items) c.self.inside.bundles l c.in-Some.action) (sym c.deref-in-Some.ensures.value) due)

pub returns-in_ok-places-in-Some-clause-is : goal.returns-in_ok-places-in-Some-clause-is
returns-in_ok-places-in-Some-clause-is c contest history kept =
    let on : Contest = contest_on c.self.inside.terms c.self.inside.bundles in
    let next = kept-next contest history c.args.lots.now c.self.inside.terms c.self.inside.bundles c.self.inside.places.items c.in_ok-places-in-Some.places.items
    c.self.inside.stages.items c.in_ok-places-in-Some.stages.items c.in-Some.action c.self.invariant (subst (IsStoredCountOf contest history) (sym c.self.view_is) kept)
    (λ papers. c.in-Some.ensures papers ∙ ap (λ (l : List Stage). next_action (contest_of c.self.inside.terms papers) c.args.lots.now (reverse l)) c.deref.ensures.value)
    (λ due. c.in_ok-places-in-Some.ensures.places (lent c due))
    (λ due. subst (λ (l : List Stage). Adds on (reverse l) c.in-Some.action (reverse c.in_ok-places-in-Some.stages.items)) c.deref-in-Some-2.ensures.value
    (c.in_ok-places-in-Some.ensures.stage (lent c due))) in
    (next.0 ∙ ap (λ (k : StoredCountEntry). places_after contest (with_next contest c.args.lots.now history) k.bundles) c.self.view_is, next.1)
