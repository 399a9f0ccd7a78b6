-- The result of the stage that is due in a given count, and what it adds to the tabulation.
use Rattle.std.proofs.Common.{◌≡◌, ℕ, suc, ◌+◌, ◌==◌, true, false, List, [], ◌∷◌, map, length, reverse, Option, Some, None, refl, ap, ◌∙◌, arith}
use Rattle.std.specs.Prelude.{IsSome}
use Rattle.std.proofs.lemmas.Bool.{both_ways, eqb-true, eq-eqb}
use Rattle.std.proofs.lemmas.List.{reverse-reverse, length-reverse}
use Rattle.count.specs.Books.{placed}
use Rattle.count.specs.Bundles.{Bundle, bundled}
use Rattle.count.specs.StoredCounts.{StoredCountEntry, IsStoredCountOf, places_after}
use Rattle.count.specs.Marks.{figures_at}
use Rattle.count.specs.Law.Contest.{Contest, History}
use Rattle.count.specs.Law.Count.{stage_of, with_stage, with_next}
use Rattle.count.specs.Law.Due.{next_action}
use Rattle.count.specs.Law.Places.{Place, place}
use Rattle.count.specs.declared.placed.Placed.{Placed}
use Rattle.count.specs.declared.stages.Action.{Action}
use Rattle.count.specs.declared.stages.Stage.{Stage}
use Rattle.register.specs.Marks.{columns_of}
use Rattle.register.specs.Elections.{ElectionEntry, contest_of, stages_of}
use Rattle.register.specs.Tabulated.{PlacedEntry, FigureEntry, AdditionEntries, figure_at, placed_after}
use Rattle.register.specs.Additions.{moved_between, figures_added, addition_by, addition_at, addition_due}
use Rattle.register.specs.Walks.{moved_bundles, last_figures, all_added, moves_added}
use Rattle.register.proofs.MovedLemmas.{walked-moves}

-- whichever action is due, this is what it adds
pub some_due : (e : ElectionEntry) (due : Option Action) (added : AdditionEntries) → IsSome due → ((action : Action) → due ≡ Some action → added ≡ addition_at e action) → added ≡ addition_due e due
some_due e None added some each = absurd (cc)
some_due e (Some action) added some each = each action refl

-- how another stage changes what is stored, namely the places and the stages
abbrev pub IsNext : Contest → List (ℕ × ℕ) → History → StoredCountEntry → List Placed → List Stage → Type 0
IsNext contest lots history kept places stages = (places ≡ places_after contest (with_next contest lots history) kept.bundles) × (stages ≡ reverse (with_next contest lots history))

module _ (e : ElectionEntry) (action : Action) (ward : ℕ) (kept : StoredCountEntry) (lots : List (ℕ × ℕ)) (places : List Placed) (stages : List Stage)
    (of : IsStoredCountOf (contest_of e) (stages_of e) kept) (drawn : lots ≡ e.lots) (own : ward ≡ e.ward.number)
    (due : next_action (contest_of e) e.lots (stages_of e) ≡ Some action) (next : IsNext (contest_of e) lots (stages_of e) kept places stages) where
  abbrev new : Stage
  new = stage_of (contest_of e) (stages_of e) action

  counted : with_next (contest_of e) lots (stages_of e) ≡ new ∷ stages_of e
  counted = ap (λ (ls : List (ℕ × ℕ)). with_next (contest_of e) ls (stages_of e)) drawn ∙ ap (with_stage (contest_of e) (stages_of e)) due

  places_are : (before : History) → stages_of e ≡ before → places ≡ map (λ (b : Bundle). placed (place (contest_of e) (new ∷ before) b.0)) kept.bundles
  places_are before same = next.0 ∙ ap (λ (h : History). places_after (contest_of e) h kept.bundles) (counted ∙ ap (λ (h : History). new ∷ h) same)

  stages_are : (before : History) → stages_of e ≡ before → stages ≡ reverse (new ∷ before)
  stages_are before same = next.1 ∙ ap (λ (h : History). reverse h) (counted ∙ ap (λ (h : History). new ∷ h) same)

  -- the figures of the new stage
  figures_are : (before : History) → stages_of e ≡ before → last_figures ward kept.candidates stages ≡ figures_added e before new
  figures_are before same =
      let stage : length (new ∷ before) ≡ length before + 1 = omega arith in
      rw (own, of.candidates_are, stages_are before same)
      (ap (λ (k : ℕ). map (figure_at e.ward.number k) (figures_at (columns_of e.candidates) (reverse (reverse (new ∷ before))))) (length-reverse (new ∷ before) ∙ stage)
      ∙ ap (λ (h : History). map (figure_at e.ward.number (length before + 1)) (figures_at (columns_of e.candidates) h)) (reverse-reverse (new ∷ before)))

  -- as many stages are stored as have been done
  as_many : length kept.stages ≡ length (stages_of e)
  as_many = ap (λ (ss : List Stage). length ss) of.stages_are ∙ length-reverse (stages_of e)

  -- at the first stage, all bundles are added, with their places
  pub first_added : (length kept.stages == 0) ≡ true → (added : AdditionEntries)
      → ((now : List ℕ → Place) → places ≡ map (λ (b : Bundle). placed (now b.0)) kept.bundles → added ≡ all_added ward kept.candidates kept.bundles now stages) → added ≡ addition_at e action
  first_added none added is = go (stages_of e) refl
    where
      go : (before : History) → stages_of e ≡ before → added ≡ addition_by e before new
      go [] same = is (place (contest_of e) (new ∷ [])) (places_are [] same) ∙ rw (own, of.candidates_are, of.bundles_are, stages_are [] same) refl
      go (r ∷ before) same =
          let empty = eqb-true (length kept.stages) 0 none in
          let more : length (stages_of e) ≡ suc (length before) = ap (λ (h : History). length h) same in
          absurd (let many = as_many in omega (arith, empty, more, many))

  -- at a later stage, the bundles whose places have changed are added
  pub later_added : (length kept.stages == 0) ≡ false → (added : AdditionEntries) → added ≡ moves_added ward kept.candidates kept.bundles kept.places places stages → added ≡ addition_at e action
  later_added some added is = is ∙ go (stages_of e) refl
    where
      made : List PlacedEntry → List FigureEntry → AdditionEntries
      made ms fs = record { placed = []; moved = ms; figures = fs }

      go : (before : History) → stages_of e ≡ before → moves_added ward kept.candidates kept.bundles kept.places places stages ≡ addition_by e before new
      go [] same = absurd (both_ways (length kept.stages == 0) some (eq-eqb (length kept.stages) 0 (as_many ∙ ap (λ (h : History). length h) same)))
      go (r ∷ before) same =
          let was : kept.places ≡ map (λ (b : Bundle). placed (place (contest_of e) (r ∷ before) b.0)) kept.bundles =
          of.places_are ∙ ap (λ (h : History). places_after (contest_of e) h kept.bundles) same
          in
          let moved : moved_bundles ward kept.bundles kept.places places ≡ map (placed_after e (new ∷ r ∷ before)) (moved_between e (r ∷ before) (new ∷ r ∷ before)) =
          rw (own, was, places_are (r ∷ before) same, of.bundles_are) (walked-moves e.ward.number (place (contest_of e) (r ∷ before)) (place (contest_of e) (new ∷ r ∷ before))
          (bundled e.ballots.papers))
          in
          ap (λ (ms : List PlacedEntry). made ms (last_figures ward kept.candidates stages)) moved
          ∙ ap (made (map (placed_after e (new ∷ r ∷ before)) (moved_between e (r ∷ before) (new ∷ r ∷ before)))) (figures_are (r ∷ before) same)
