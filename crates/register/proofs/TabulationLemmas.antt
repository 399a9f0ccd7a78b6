-- Anything that leaves the counts of all wards unchanged also leaves the tabulation of the state unchanged.
use Rattle.std.proofs.Common.{◌≡◌, ℕ, true, false, cond, not, ◌==◌, List, [], ◌∷◌, ◌++◌, map, Some, refl, sym, ap, ◌∙◌}
use Rattle.std.specs.Prelude.{⊤}
use Rattle.std.specs.List.{flat_map}
use Rattle.std.proofs.lemmas.Bool.{and_parts, and_right, not-true, not_from_true}
use Rattle.std.proofs.lemmas.Grind.{flat_map-append}
use Rattle.count.specs.Bundles.{Bundle, bundled}
use Rattle.count.specs.Law.Contest.{History}
use Rattle.count.specs.Law.Places.{place}
use Rattle.register.specs.declared.phase.Phase.{Phase}
use Rattle.register.specs.Offices.{WardEntry, LotEntry, OfficeState, ward_cmp, ward_compared, ward_at}
use Rattle.register.specs.Marks.{columns_of}
use Rattle.register.specs.Elections.{ElectionEntry, election_of, has_count, contest_of, stages_of, is_uncounted}
use Rattle.register.specs.Effects.{EffectEntry, ward_added, ward_moved, stage_counted, in_phase, with_effect}
use Rattle.register.specs.StateConditions.{IsState}
use Rattle.register.specs.Tabulated.{PlacedEntry, FigureEntry, TabulationEntries, has_stages, placed_at, bundles_in, figures_to, figures_in, tabulation_of}
use Rattle.register.proofs.MapLemmas.{found_passes}
use Rattle.register.proofs.SplitLemmas.{flat_put, flat_changed, are_others, IsSplit, split_at}
use Rattle.register.proofs.ElectionLemmas.{is_sound, sound_of, uncounted_before, unsealed}
use Rattle.register.proofs.ElsewhereLemmas.{IsBeforeCount, election_elsewhere}
use Rattle.register.proofs.ProgressLemmas.{in_phase_of, with_lots}

-- ---- entries derived from a count

-- Entries derived from an election's count: there are none before the count has a stage, and they depend neither on the ward's phase nor on lots, as
-- long as the completed stages are unchanged.
pub record IsOfCount {X : Type 0} (told : ElectionEntry → List X) : Type 0 where
  pub none : (e : ElectionEntry) → has_stages e ≡ false → told e ≡ []
  pub of_phase : (e : ElectionEntry) (phase : Phase) → told (in_phase_of phase e) ≡ told e
  pub of_lots : (e : ElectionEntry) (ls : List LotEntry) → stages_of (with_lots ls e) ≡ stages_of e → told (with_lots ls e) ≡ told e

pub bundles_of_count : IsOfCount bundles_in
bundles_of_count = record {
  none = λ e none. rw none refl;
  of_phase = λ e phase. refl;
  of_lots = λ e ls same. ap (λ (stages : History). cond (has_stages e) (map (λ (b : Bundle). placed_at e.ward.number b (place (contest_of e) stages b.0)) (bundled e.ballots.papers)) []) same;
}

pub figures_of_count : IsOfCount figures_in
figures_of_count = record {
  none = λ e none. rw none refl;
  of_phase = λ e phase. refl;
  of_lots = λ e ls same. ap (λ (stages : History). cond (has_stages e) (figures_to e.ward.number (columns_of e.candidates) stages) []) same;
}

-- an election without completed stages has no stages
pub no_stages : (e : ElectionEntry) → is_uncounted e ≡ true → has_stages e ≡ false
no_stages e none = and_right (has_count e) (not (e.ward.done == 0)) (not_from_true (e.ward.done == 0) (and_parts _ _ none).0)

-- ---- the entries of all wards

abbrev pub told_by : {X : Type 0} → (ElectionEntry → List X) → OfficeState → List X
told_by told s = flat_map (λ (w : WardEntry). told (election_of s w)) s.wards

pub same_tabulation : (s t : OfficeState) → told_by bundles_in t ≡ told_by bundles_in s → told_by figures_in t ≡ told_by figures_in s → tabulation_of t ≡ tabulation_of s
unfolding tabulation_of
same_tabulation s t bundles figures = ap (λ (bs : List PlacedEntry). made bs (told_by figures_in t)) bundles ∙ ap (made (told_by bundles_in s)) figures
  where
    made : List PlacedEntry → List FigureEntry → TabulationEntries
    made bs fs = record { bundles = bs; figures = fs }

-- equal elections have the same entries
told_alike : {X : Type 0} (told : ElectionEntry → List X) (s t : OfficeState) → ((w : WardEntry) → election_of t w ≡ election_of s w) → (ws : List WardEntry)
    → flat_map (λ (w : WardEntry). told (election_of t w)) ws ≡ flat_map (λ (w : WardEntry). told (election_of s w)) ws
told_alike told s t alike [] = refl
told_alike told s t alike (w ∷ ws) =
    ap (λ (e : ElectionEntry). told e ++ flat_map (λ (w : WardEntry). told (election_of t w)) ws) (alike w) ∙ ap (λ (xs : _). told (election_of s w) ++ xs) (told_alike told s t alike ws)

pub tabulation_alike : (s t : OfficeState) → t.wards ≡ s.wards → ((w : WardEntry) → election_of t w ≡ election_of s w) → tabulation_of t ≡ tabulation_of s
tabulation_alike s t wards alike = same_tabulation s t (whole bundles_in) (whole figures_in)
  where
    whole : {X : Type 0} (told : ElectionEntry → List X) → told_by told t ≡ told_by told s
    whole told = ap (flat_map (λ (w : WardEntry). told (election_of t w))) wards ∙ told_alike told s t alike s.wards

module _ {X : Type 0} (told : ElectionEntry → List X) (of : IsOfCount told) (s : OfficeState) where
  -- adding a ward without completed stages
  told_added : (w : WardEntry) → w.done ≡ 0 → told_by told (with_effect (ward_added w) s) ≡ told_by told s
  told_added w none = flat_put ward_cmp (λ (x : WardEntry). told (election_of s x)) w s.wards (of.none (election_of s w) (and_right (has_count (election_of s w)) (not (w.done == 0)) (rw none refl)))

  -- moving a ward to another phase
  told_moved : (n : ℕ) (phase : Phase) → told_by told (with_effect (ward_moved n phase) s) ≡ told_by told s
  told_moved n phase = flat_changed (ward_compared n) (in_phase phase) (λ (x : WardEntry). told (election_of s x)) s.wards (λ x. of.of_phase (election_of s x) phase)

  -- if all elections are equal except one, and its entries are the same, all entries are the same
  pub told_but_one : (t : OfficeState) (n : ℕ) (w : WardEntry) → t.wards ≡ s.wards → IsSplit (λ (x : WardEntry). x.number) n w s.wards → told (election_of t w) ≡ told (election_of s w)
      → ((x : WardEntry) → (n == x.number) ≡ false → told (election_of t x) ≡ told (election_of s x)) → told_by told t ≡ told_by told s
  told_but_one t n w same split own others =
      let now : WardEntry → List X = λ x. told (election_of t x) in
      let was : WardEntry → List X = λ x. told (election_of s x) in
      ap (flat_map now) (same ∙ split.is)
      ∙ flat_map-append now split.front (w ∷ split.back)
      ∙ ap (λ (xs : List X). xs ++ flat_map now (w ∷ split.back)) (elsewhere split.front split.before)
      ∙ ap (λ (xs : List X). flat_map was split.front ++ (xs ++ flat_map now split.back)) own
      ∙ ap (λ (xs : List X). flat_map was split.front ++ (was w ++ xs)) (elsewhere split.back split.behind)
      ∙ sym (flat_map-append was split.front (w ∷ split.back))
      ∙ sym (ap (flat_map was) split.is)
    where
      elsewhere : (xs : List WardEntry) → are_others (λ (x : WardEntry). x.number) n xs ≡ true
          → flat_map (λ (x : WardEntry). told (election_of t x)) xs ≡ flat_map (λ (x : WardEntry). told (election_of s x)) xs
      elsewhere [] all = refl
      elsewhere (x ∷ xs) all =
          let parts = and_parts (not (n == x.number)) (are_others (λ (y : WardEntry). y.number) n xs) all in
          ap (λ (ys : List X). ys ++ flat_map (λ (y : WardEntry). told (election_of t y)) xs) (others x (not-true (n == x.number) parts.0))
          ∙ ap (λ (ys : List X). told (election_of s x) ++ ys) (elsewhere xs parts.1)

-- ---- what leaves the tabulation unchanged

pub tabulation_added : (s : OfficeState) (w : WardEntry) → w.done ≡ 0 → tabulation_of (with_effect (ward_added w) s) ≡ tabulation_of s
tabulation_added s w none = same_tabulation s (with_effect (ward_added w) s) (told_added bundles_in bundles_of_count s w none) (told_added figures_in figures_of_count s w none)

pub tabulation_moved : (s : OfficeState) (n : ℕ) (phase : Phase) → tabulation_of (with_effect (ward_moved n phase) s) ≡ tabulation_of s
tabulation_moved s n phase = same_tabulation s (with_effect (ward_moved n phase) s) (told_moved bundles_in bundles_of_count s n phase) (told_moved figures_in figures_of_count s n phase)

-- the wards of a state, split at an existing ward
pub wards_split : (s : OfficeState) (n : ℕ) (w : WardEntry) → IsState s → ward_at s n ≡ Some w → IsSplit (λ (x : WardEntry). x.number) n w s.wards
wards_split s n w is found = split_at (λ (x : WardEntry). x.number) n w s.wards is.rise.wards found

-- an effect that concerns a ward that hasn't been sealed leaves the tabulation unchanged
pub tabulation_kept : (s : OfficeState) (effect : EffectEntry) → IsState s → IsBeforeCount s effect → tabulation_of (with_effect effect s) ≡ tabulation_of s
tabulation_kept s effect is before = same_tabulation s (with_effect effect s) (alike bundles_in bundles_of_count) (alike figures_in figures_of_count)
  where
    none : is_uncounted (election_of s before.ward) ≡ true
    none =
        let was = found_passes (ward_compared before.number) (λ x. is_sound (election_of s x)) before.ward s.wards (sound_of is) before.found in
        uncounted_before (election_of s before.ward) (unsealed (election_of s before.ward) before.not_sealed) was

    still_none : has_stages (election_of (with_effect effect s) before.ward) ≡ false
    still_none = and_right (has_count (election_of (with_effect effect s) before.ward)) (not (before.ward.done == 0)) (not_from_true (before.ward.done == 0) (and_parts _ _ none).0)

    alike : {X : Type 0} (told : ElectionEntry → List X) → IsOfCount told → told_by told (with_effect effect s) ≡ told_by told s
    alike told of =
        told_but_one told of s (with_effect effect s) before.number before.ward before.wards (wards_split s before.number before.ward is before.found)
        (of.none (election_of (with_effect effect s) before.ward) still_none ∙ sym (of.none (election_of s before.ward) (no_stages (election_of s before.ward) none)))
        (λ x other. ap told (election_elsewhere s before.number is x other effect before.own))

-- An effect leaves the entire tabulation unchanged, unless it counts a stage.
abbrev pub KeepsTabulation : OfficeState → EffectEntry → Type 0
KeepsTabulation s (stage_counted ward done) = ⊤
KeepsTabulation s effect = tabulation_of (with_effect effect s) ≡ tabulation_of s
