-- When another stage of a ward is counted, the old tabulation and what the stage adds together make up the new
-- tabulation.
use Rattle.std.proofs.Common.{◌≡◌, ℕ, suc, ◌+◌, ◌==◌, true, false, cond, not, List, [], ◌∷◌, ◌++◌, length, map, Some, refl, sym, ap, subst, ◌∙◌, append_assoc, arith}
use Rattle.std.specs.List.{flat_map}
use Rattle.std.specs.List.Sorted.{IsPermutation}
use Rattle.std.proofs.lemmas.Bool.{and_parts, and_from, not-true, ne_eqb}
use Rattle.std.proofs.lemmas.Grind.{flat_map-append}
use Rattle.std.proofs.lemmas.List.Folds.{list_all-append}
use Rattle.std.proofs.lemmas.List.Sorted.{IsPermutation-refl, IsPermutation-append_left, IsPermutation-append_comm}
use Rattle.count.specs.Bundles.{bundled}
use Rattle.count.specs.Law.Contest.{History}
use Rattle.count.specs.Law.Count.{stage_of}
use Rattle.count.specs.Law.Places.{place}
use Rattle.count.specs.declared.stages.Action.{Action}
use Rattle.count.specs.declared.stages.Stage.{Stage}
use Rattle.register.specs.Offices.{WardEntry, OfficeState, ward_at}
use Rattle.register.specs.Marks.{columns_of}
use Rattle.register.specs.Effects.{at_stage, stage_counted, with_effect}
use Rattle.register.specs.Elections.{ElectionEntry, election_of, has_count, contest_of, stages_of}
use Rattle.register.specs.StateConditions.{IsState}
use Rattle.register.specs.Tabulated.{PlacedEntry, FigureEntry, has_stages, bundles_in, figures_to, figures_in, tabulation_of, with_addition, SameTabulation, placed_after}
use Rattle.register.specs.Additions.{moved_between, figures_added, addition_by, addition_at}
use Rattle.register.proofs.SplitLemmas.{are_others, IsSplit, changed_split, flat_split}
use Rattle.register.proofs.StageLemmas.{stage_added}
use Rattle.register.proofs.ProgressLemmas.{at_stage_of}
use Rattle.register.proofs.TabulationLemmas.{bundles_of_count, told_by, wards_split}
use Rattle.register.proofs.CountLemmas.{IsStageDue}
use Rattle.register.proofs.MovedLemmas.{bundled-rise, all_moved, moved-append, of_others, of_ward, others_stay, of_it, of_no_other, moved_there}

-- ---- new entries, inserted at the front or at their proper position

pub put_between : {X : Type 0} (new front own back : List X) → IsPermutation (new ++ (front ++ (own ++ back))) (front ++ ((own ++ new) ++ back))
put_between {X} new front own back =
    let first : IsPermutation ((new ++ (front ++ own)) ++ back) (((front ++ own) ++ new) ++ back) =
    IsPermutation-append_left back (new ++ (front ++ own)) ((front ++ own) ++ new) (IsPermutation-append_comm new (front ++ own))
    in
    let from : (new ++ (front ++ own)) ++ back ≡ new ++ (front ++ (own ++ back)) = append_assoc new (front ++ own) back ∙ ap (λ (xs : List X). new ++ xs) (append_assoc front own back) in
    let to : ((front ++ own) ++ new) ++ back ≡ front ++ ((own ++ new) ++ back) = ap (λ (xs : List X). xs ++ back) (append_assoc front own new) ∙ append_assoc front (own ++ new) back in
    subst (λ xs. IsPermutation xs (front ++ ((own ++ new) ++ back))) from (subst (λ xs. IsPermutation ((new ++ (front ++ own)) ++ back) xs) to first)

-- ---- a ward's own bundles and figures

module _ (e : ElectionEntry) (held : has_count e ≡ true) (done : length (stages_of e) ≡ e.ward.done) where
  none_done : stages_of e ≡ [] → has_stages e ≡ false
  none_done is = let none : e.ward.done ≡ 0 = sym done ∙ ap (λ (s : History). length s) is in rw (held, none) refl

  some_done : (s : Stage) (before : History) → stages_of e ≡ s ∷ before → has_stages e ≡ true
  some_done s before is =
      let more : e.ward.done ≡ suc (length before) = sym done ∙ ap (λ (s : History). length s) is in
      and_from _ _ held (ap not (ne_eqb e.ward.done 0 (λ none. omega (arith, none, more))))

  -- the tabulated bundles once stages have been done
  bundles_done : (s : Stage) (before : History) → stages_of e ≡ s ∷ before → bundles_in e ≡ map (placed_after e (s ∷ before)) (bundled e.ballots.papers)
  bundles_done s before is = rw (some_done s before is) (ap (λ (stages : History). map (placed_after e stages) (bundled e.ballots.papers)) is)

  -- the tabulated figures of the completed stages, possibly none
  figures_done : (stages : History) → stages_of e ≡ stages → figures_in e ≡ figures_to e.ward.number (columns_of e.candidates) stages
  figures_done [] is = rw (none_done is) refl
  figures_done (s ∷ before) is = rw (some_done s before is) (ap (figures_to e.ward.number (columns_of e.candidates)) is)

-- ---- another stage

module _ (s : OfficeState) (n : ℕ) (w : WardEntry) (is : IsState s) (found : ward_at s n ≡ Some w) where
  abbrev own : ElectionEntry
  own = election_of s w

  split : IsSplit (λ (x : WardEntry). x.number) n w s.wards
  split = wards_split s n w is found

  -- the entries of the wards before this ward, and of those after it
  front_of : {X : Type 0} → (ElectionEntry → List X) → List X
  front_of told = flat_map (λ (x : WardEntry). told (election_of s x)) split.front

  back_of : {X : Type 0} → (ElectionEntry → List X) → List X
  back_of told = flat_map (λ (x : WardEntry). told (election_of s x)) split.back

  told_before : {X : Type 0} (told : ElectionEntry → List X) → told_by told s ≡ front_of told ++ (told own ++ back_of told)
  unfolding front_of back_of
  told_before told = flat_split (λ (x : WardEntry). x.number) n (λ (x : WardEntry). told (election_of s x)) w s.wards split

  told_after : {X : Type 0} (told : ElectionEntry → List X) (done : ℕ) → told_by told (with_effect (stage_counted n done) s) ≡ front_of told ++ (told (at_stage_of done own) ++ back_of told)
  unfolding front_of back_of
  told_after told done =
      let h : WardEntry → List _ = λ x. told (election_of s x) in
      ap (flat_map h) (changed_split (λ (x : WardEntry). x.number) n (at_stage done) w s.wards split)
      ∙ flat_map-append h split.front (at_stage done w ∷ split.back)

  -- ---- the bundles of the other wards

  of_one : (x : WardEntry) → (n == x.number) ≡ false → of_others w.number (bundles_in (election_of s x)) ≡ true
  of_one x other =
      let apart : (w.number == x.number) ≡ false = ap (λ (k : ℕ). k == x.number) (sym split.number_is) ∙ other in
      let e = election_of s x in
      elim (has_stages e) as (λ b. of_others w.number (cond b (map (placed_after e (stages_of e)) (bundled e.ballots.papers)) []) ≡ true) [
        | true ↦ of_no_other x.number w.number (place (contest_of e) (stages_of e)) (bundled e.ballots.papers) apart
        | false ↦ refl
      ]

  of_some : (xs : List WardEntry) → are_others (λ (x : WardEntry). x.number) n xs ≡ true → of_others w.number (flat_map (λ (x : WardEntry). bundles_in (election_of s x)) xs) ≡ true
  of_some [] others = refl
  of_some (x ∷ xs) others =
      let parts = and_parts (not (n == x.number)) (are_others (λ (y : WardEntry). y.number) n xs) others in
      list_all-append (λ (b : PlacedEntry). not (w.number == b.ward)) (bundles_in (election_of s x)) (flat_map (λ (y : WardEntry). bundles_in (election_of s y)) xs)
      ∙ and_from _ _ (of_one x (not-true (n == x.number) parts.0)) (of_some xs parts.1)

  -- moving bundles of this ward leaves the bundles of the other wards unchanged
  front_stays : (ms : List PlacedEntry) → of_ward w.number ms ≡ true → all_moved (front_of bundles_in) ms ≡ front_of bundles_in
  unfolding front_of
  front_stays ms moved = others_stay w.number ms (front_of bundles_in) moved (of_some split.front split.before)

  back_stays : (ms : List PlacedEntry) → of_ward w.number ms ≡ true → all_moved (back_of bundles_in) ms ≡ back_of bundles_in
  unfolding back_of
  back_stays ms moved = others_stay w.number ms (back_of bundles_in) moved (of_some split.back split.behind)

  -- ---- the stage that is due

  module _ (action : Action) (due : IsStageDue s n w action) where
    abbrev new : Stage
    new = stage_of (contest_of own) (stages_of own) action

    abbrev later : OfficeState
    later = with_effect (stage_counted n (w.done + 1)) s

    added : stages_of (at_stage_of (w.done + 1) own) ≡ new ∷ stages_of own
    added = stage_added (contest_of own) own.lots w.done action due.next

    long : length (stages_of (at_stage_of (w.done + 1) own)) ≡ w.done + 1
    long = let stages = due.stages in let more = ap (λ (h : History). length h) added in omega (arith, stages, more)

    bundles_after : (before : History) → stages_of own ≡ before → told_by bundles_in later ≡ front_of bundles_in
        ++ (map (placed_after own (new ∷ before)) (bundled own.ballots.papers) ++ back_of bundles_in)
    bundles_after before same =
        told_after bundles_in (w.done + 1)
        ∙ ap (λ (bs : List PlacedEntry). front_of bundles_in ++ (bs ++ back_of bundles_in))
        (bundles_done (at_stage_of (w.done + 1) own) due.contested long new before (added ∙ ap (λ (h : History). new ∷ h) same))

    figures_after : (before : History) → stages_of own ≡ before
        → told_by figures_in later ≡ front_of figures_in ++ ((figures_to w.number (columns_of own.candidates) before ++ figures_added own before new) ++ back_of figures_in)
    figures_after before same =
        told_after figures_in (w.done + 1)
        ∙ ap (λ (fs : List FigureEntry). front_of figures_in ++ (fs ++ back_of figures_in))
        (figures_done (at_stage_of (w.done + 1) own) due.contested long (new ∷ before) (added ∙ ap (λ (h : History). new ∷ h) same))

    -- the figures of the new stage are added to the existing ones
    figures_come : (before : History) → stages_of own ≡ before → IsPermutation (figures_added own before new ++ told_by figures_in s) (told_by figures_in later)
    figures_come before same =
        let was : told_by figures_in s ≡ front_of figures_in ++ (figures_to w.number (columns_of own.candidates) before ++ back_of figures_in) =
        told_before figures_in ∙ ap (λ (fs : List FigureEntry). front_of figures_in ++ (fs ++ back_of figures_in)) (figures_done own due.contested due.stages before same)
        in
        rw (was, figures_after before same) (put_between (figures_added own before new) (front_of figures_in) (figures_to w.number (columns_of own.candidates) before) (back_of figures_in))

    -- at the first stage, all the ward's bundles are added
    bundles_come : stages_of own ≡ [] → IsPermutation (map (placed_after own (new ∷ [])) (bundled own.ballots.papers) ++ told_by bundles_in s) (told_by bundles_in later)
    bundles_come none =
        let was : told_by bundles_in s ≡ front_of bundles_in ++ ([] ++ back_of bundles_in) =
        told_before bundles_in ∙ ap (λ (bs : List PlacedEntry). front_of bundles_in ++ (bs ++ back_of bundles_in)) (bundles_of_count.none own (none_done own due.contested due.stages none))
        in
        rw (was, bundles_after [] none) (put_between (map (placed_after own (new ∷ [])) (bundled own.ballots.papers)) (front_of bundles_in) [] (back_of bundles_in))

    -- at a later stage, bundles are moved
    bundles_move : (r : Stage) (before : History) → stages_of own ≡ r ∷ before
        → all_moved (told_by bundles_in s) (map (placed_after own (new ∷ r ∷ before)) (moved_between own (r ∷ before) (new ∷ r ∷ before))) ≡ told_by bundles_in later
    bundles_move r before same =
        let contest = contest_of own in
        let ms = map (placed_after own (new ∷ r ∷ before)) (moved_between own (r ∷ before) (new ∷ r ∷ before)) in
        let bs = map (placed_after own (r ∷ before)) (bundled own.ballots.papers) in
        let moved : of_ward w.number ms ≡ true = of_it w.number (place contest (new ∷ r ∷ before)) (moved_between own (r ∷ before) (new ∷ r ∷ before)) in
        ap (λ (xs : List PlacedEntry). all_moved xs ms) (told_before bundles_in
        ∙ ap (λ (xs : List PlacedEntry). front_of bundles_in ++ (xs ++ back_of bundles_in)) (bundles_done own due.contested due.stages r before same))
        ∙ moved-append ms (front_of bundles_in) (bs ++ back_of bundles_in)
        ∙ ap (λ (xs : List PlacedEntry). xs ++ all_moved (bs ++ back_of bundles_in) ms) (front_stays ms moved)
        ∙ ap (λ (xs : List PlacedEntry). front_of bundles_in ++ xs)
        (moved-append ms bs (back_of bundles_in)
        ∙ ap (λ (xs : List PlacedEntry). xs ++ all_moved (back_of bundles_in) ms)
        (moved_there w.number (place contest (r ∷ before)) (place contest (new ∷ r ∷ before)) (bundled own.ballots.papers) (bundled-rise own.ballots.papers))
        ∙ ap (λ (xs : List PlacedEntry). map (placed_after own (new ∷ r ∷ before)) (bundled own.ballots.papers) ++ xs) (back_stays ms moved))
        ∙ sym (bundles_after (r ∷ before) same)

    -- Applying what the stage adds to the tabulation yields the tabulation of the next state.
    pub stage_tabulated : SameTabulation (with_addition (addition_at own action) (tabulation_of s)) (tabulation_of later)
    unfolding tabulation_of
    stage_tabulated = go (stages_of own) refl
      where
        go : (before : History) → stages_of own ≡ before → SameTabulation (with_addition (addition_by own before new) (tabulation_of s)) (tabulation_of later)
        go [] same = record { bundles = bundles_come same; figures = figures_come [] same }
        go (r ∷ before) same = record {
          bundles =
              subst (IsPermutation (all_moved (told_by bundles_in s) (map (placed_after own (new ∷ r ∷ before)) (moved_between own (r ∷ before) (new ∷ r ∷ before)))))
              (bundles_move r before same) (IsPermutation-refl _);
          figures = figures_come (r ∷ before) same;
        }
