-- Parts of the proof of `moved_places` that are done by hand.
use Rattle.std.proofs.Common.{◌∙◌, [], ◌∷◌, ap, sym, subst, reverse}
use Rattle.count.specs.Law.Contest.{Contest, History}
use Rattle.count.specs.Law.Count.{begun}
use Rattle.paper.specs.Standing.{is_continuing}
use Rattle.count.specs.StoredCounts.{places_after}
use Rattle.count.specs.Inside.Placing.{contest_on, IsDueInBook}
use Rattle.count.specs.declared.stages.Action.{Action}
use Rattle.count.proofs.PlaceLemmas.{exclude-places}
use Rattle.count.proofs.places.moved_places.Goals as goal

pub returns-in_ok-moved-in-First-clause-is : goal.returns-in_ok-moved-in-First-clause-is
returns-in_ok-moved-in-First-clause-is c due =
    let contest : Contest = contest_on c.args.terms.now c.args.bundles.now in
    let before : History = reverse c.args.stages.now in
    c.in_ok-moved-in-First.ensures.is ∙ ap (λ (a : Action). places_after contest (begun a [] ∷ before) c.args.bundles.now) (sym c.in-First.is)

pub returns-in_ok-moved-in-Surplus-clause-is : goal.returns-in_ok-moved-in-Surplus-clause-is
returns-in_ok-moved-in-Surplus-clause-is c due =
    let contest : Contest = contest_on c.args.terms.now c.args.bundles.now in
    let before : History = reverse c.args.stages.now in
    c.in_ok-moved-in-Surplus.ensures.is (subst (IsDueInBook contest before c.args.bundles.now c.args.places.now) c.in-Surplus.is due)
    ∙ ap (λ (a : Action). places_after contest (begun a [] ∷ before) c.args.bundles.now) (sym c.in-Surplus.is)

pub returns-in_ok-moved-in-Exclude-clause-is : goal.returns-in_ok-moved-in-Exclude-clause-is
returns-in_ok-moved-in-Exclude-clause-is c due =
    let contest : Contest = contest_on c.args.terms.now c.args.bundles.now in
    let before : History = reverse c.args.stages.now in
    c.in_ok-moved-in-Exclude.ensures.is
    ∙ exclude-places contest before c.in-Exclude.c (is_continuing c.standing-standing.result) c.args.places.now c.args.bundles.now c.standing-standing.ensures.is due.book.places_are
    ∙ ap (λ (a : Action). places_after contest (begun a [] ∷ before) c.args.bundles.now) (sym c.in-Exclude.is)

pub returns-in_ok-moved-in-ExcludeLast-clause-is : goal.returns-in_ok-moved-in-ExcludeLast-clause-is
returns-in_ok-moved-in-ExcludeLast-clause-is c due =
    let contest : Contest = contest_on c.args.terms.now c.args.bundles.now in
    let before : History = reverse c.args.stages.now in
    c.in_ok-moved-in-ExcludeLast.ensures.items ∙ due.book.places_are
    ∙ ap (λ (a : Action). places_after contest (begun a [] ∷ before) c.args.bundles.now) (sym c.in-ExcludeLast.is)
