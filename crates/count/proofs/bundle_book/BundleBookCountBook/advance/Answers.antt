-- Parts of the proof of `advance` that are done by hand.
use Rattle.std.proofs.Common.{◌≡◌, ◌<◌, ◌≤◌, List, length, reverse, Some, sym, subst}
use Rattle.std.specs.List.{AllByRecursion}
use Rattle.votes.specs.Units.{max_units}
use Rattle.count.specs.Advance.{Adds}
use Rattle.count.specs.Bundles.{papers_of}
use Rattle.count.specs.Law.Contest.{Contest}
use Rattle.count.specs.Law.Due.{drawn, due_after}
use Rattle.count.specs.Inside.Holdings.{newest_lost}
use Rattle.count.specs.Inside.Placing.{contest_on, IsDueInBook, IsSound}
use Rattle.count.specs.declared.placed.Placed.{Placed}
use Rattle.count.specs.declared.stages.Stage.{Stage}
use Rattle.count.proofs.BookLemmas.{drawn-due}
use Rattle.count.proofs.BundleBookLemmas.{bundled-few, adds-bundled, book-sound, book-lost}
use Rattle.count.proofs.bundle_book.BundleBookCountBook.advance.Goals as goal
use Rattle.count.proofs.bundle_book.BundleBookCountBook.advance.Goals.{In_ok-action, In-Ok}

-- the action was drawn by the lot, for the borrowed stages
was : (c : In_ok-action) → let contest : Contest = contest_on c.self.inside.terms c.self.inside.bundles.now in
    drawn contest (reverse c.self.inside.stages.items) c.args.lot (due_after contest (reverse c.self.inside.stages.items)) ≡ Some c.in_ok-action.action
was c =
    let contest : Contest = contest_on c.self.inside.terms c.self.inside.bundles.now in
    subst (λ (l : List Stage). drawn contest (reverse l) c.args.lot (due_after contest (reverse l)) ≡ Some c.in_ok-action.action) c.deref.ensures.value
    (c.in_ok-action.ensures.ok (papers_of c.self.inside.bundles.now))

pub action_by-requires : goal.action_by-requires
action_by-requires c = record {
  few = subst (λ (l : List Stage). length l < 255) (sym c.deref.ensures.value)
      (bundled-few (contest_on c.self.inside.terms c.self.inside.bundles.now) c.self.inside.stages.items c.self.inside.bundles.now c.self.inside.places.items c.self.invariant);
}

pub acted_on_bundles-requires-clause-sound : goal.acted_on_bundles-requires-clause-sound
acted_on_bundles-requires-clause-sound c =
    subst (AllByRecursion IsSound) (sym c.deref-2.ensures.value)
    (book-sound (contest_on c.self.inside.terms c.self.inside.bundles.now) (reverse c.self.inside.stages.items) c.self.inside.bundles.now c.self.inside.places.items c.self.invariant)

pub acted_on_bundles-requires-clause-lost : goal.acted_on_bundles-requires-clause-lost
acted_on_bundles-requires-clause-lost c =
    subst (λ (l : List Stage). newest_lost (reverse l) ≤ max_units) (sym c.deref-3.ensures.value)
    (book-lost (contest_on c.self.inside.terms c.self.inside.bundles.now) (reverse c.self.inside.stages.items) c.self.inside.bundles.now c.self.inside.places.items c.self.invariant)

-- the action was due in the book, for the borrowed places and stages
owed : (c : In-Ok) → let contest : Contest = contest_on c.self.inside.terms c.self.inside.bundles.now in
    drawn contest (reverse c.self.inside.stages.items) c.args.lot (due_after contest (reverse c.self.inside.stages.items)) ≡ Some c.in_ok-action.action →
    IsDueInBook contest (reverse c.deref-3.result.now) c.self.inside.bundles.now c.deref-2.result.now c.in_ok-action.action
owed c drew =
    let contest : Contest = contest_on c.self.inside.terms c.self.inside.bundles.now in
    subst (λ (l : List Stage). IsDueInBook contest (reverse l) c.self.inside.bundles.now c.deref-2.result.now c.in_ok-action.action) (sym c.deref-3.ensures.value)
    (subst (λ (l : List Placed). IsDueInBook contest (reverse c.self.inside.stages.items) c.self.inside.bundles.now l c.in_ok-action.action) (sym c.deref-2.ensures.value)
    (record { book = c.self.invariant; due = drawn-due contest (reverse c.self.inside.stages.items) c.args.lot c.in_ok-action.action drew }))

pub invariant_of-self : goal.invariant_of-self
invariant_of-self c =
    let contest : Contest = contest_on c.self.inside.terms c.self.inside.bundles.now in
    let place = goal.at.invariant_of-self c in
    let drew = was place.In_ok-action in
    let due = owed place.In-Ok drew in
    let adds = subst (λ (l : List Stage). Adds contest (reverse l) c.in_ok-action.action (reverse c.in-Ok.stages.items)) c.deref-3.ensures.value (c.in-Ok.ensures.stage due) in
    adds-bundled contest (reverse c.self.inside.stages.items) c.args.lot c.in_ok-action.action (reverse c.in-Ok.stages.items) c.self.inside.bundles.now c.self.inside.places.items c.in-Ok.places.items
    c.self.invariant drew adds (c.in-Ok.ensures.places due)
