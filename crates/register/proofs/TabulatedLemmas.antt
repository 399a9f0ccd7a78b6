-- The tabulation is in key order, and the part of it that belongs to a ward is determined by the ward's
-- election.
use Rattle.std.proofs.Common.{◌≡◌, ℕ, ◌+◌, ◌<◌, ◌≤◌, ◌==◌, Bool, true, false, cond, List, [], ◌∷◌, ◌++◌, length, map, filter, fold, Some, refl, sym, ap, ◌∙◌, append-nil, arith}
use Rattle.std.specs.List.{AllByRecursion, flat_map}
use Rattle.std.specs.List.Sorted.{IsStrictlySortedBy}
use Rattle.std.specs.Map.{keys_of}
use Rattle.std.specs.Cmp.{nat_cmp_is}
use Rattle.std.specs.Ordering.{nat_cmp, on, then_cmp, ordering_then, is_eq}
use Rattle.std.specs.declared.cmp.Ordering.{Ordering}
use Rattle.std.specs.declared.cmp.Ordering.TheVariants.{Less, Equal}
use Rattle.std.proofs.lemmas.Bool.{eq-eqb, ne_eqb, eqb-false}
use Rattle.std.proofs.lemmas.Cmp.{ranked, nat_cmp_total}
use Rattle.std.proofs.lemmas.List.Elements.{filter-append}
use Rattle.paper.specs.Columns.{max_candidates}
use Rattle.paper.proofs.ColumnSets.{Ascends, ascends_from_columns}
use Rattle.count.specs.Bundles.{Bundle, list_cmp, with_papers, bundled}
use Rattle.count.specs.Law.Contest.{History}
use Rattle.count.specs.Marks.{figure_of, figures_at}
use Rattle.count.specs.declared.figures.Figure.{Figure}
use Rattle.count.specs.declared.stages.Stage.{Stage}
use Rattle.count.proofs.BundleLemmas.{rise-with_papers}
use Rattle.register.specs.Offices.{WardEntry, OfficeState, entry_at, ward_at}
use Rattle.register.specs.Marks.{columns_of}
use Rattle.register.specs.Elections.{ElectionEntry, election_of, stages_of}
use Rattle.register.specs.StateConditions.{IsState}
use Rattle.register.specs.Tabulated.{PlacedEntry, FigureEntry, TabulationRises, placed_cmp, figure_cmp, has_stages, placed_after, bundles_in, figure_at, figures_to, figures_in, tabulation_of}
use Rattle.register.proofs.MapLemmas.{each_weaker, same_number, other_number}
use Rattle.register.proofs.ContestLemmas.{columns_are_set}

-- ---- ascending lists

less : (m n : ℕ) → m < n → nat_cmp m n ≡ Less
less m n below = sym (nat_cmp_is m n Less below)

tied : (m n : ℕ) → m ≡ n → nat_cmp m n ≡ Equal
tied m n same = sym (nat_cmp_is m n Equal same)

each_append : {X : Type 0} (P : X → Type 0) (xs ys : List X) → AllByRecursion P xs → AllByRecursion P ys → AllByRecursion P (xs ++ ys)
each_append P [] ys first second = second
each_append P (x ∷ xs) ys first second = (first.0, each_append P xs ys first.1 second)

-- every entry of one list sorts before every entry of another
abbrev AreBelow : {X : Type 0} → (X → X → Ordering) → List X → List X → Type 0
AreBelow cmp xs ys = AllByRecursion (λ x. AllByRecursion (λ y. cmp x y ≡ Less) ys) xs

rises_append : {X : Type 0} (cmp : X → X → Ordering) (xs ys : List X) → IsStrictlySortedBy cmp xs → IsStrictlySortedBy cmp ys → AreBelow cmp xs ys → IsStrictlySortedBy cmp (xs ++ ys)
unfolding IsStrictlySortedBy
rises_append cmp [] ys first second below = second
rises_append cmp (x ∷ xs) ys first second below = (each_append (λ y. cmp x y ≡ Less) xs ys first.0 below.0, rises_append cmp xs ys first.1 second below.1)

-- ---- the entries of all wards, ward by ward

-- Each ward has entries with the ward's number, in ascending order.
module _ {X : Type 0} (ward : X → ℕ) (inner : X → X → Ordering) (parts : WardEntry → List X) (own : (w : WardEntry) → AllByRecursion (λ x. ward x ≡ w.number) (parts w)) where
  -- the entry's ward number is above the given number
  abbrev IsAbove : ℕ → X → Type 0
  IsAbove n x = nat_cmp n (ward x) ≡ Less

  part_above : (n : ℕ) (v : WardEntry) → nat_cmp n v.number ≡ Less → AllByRecursion (IsAbove n) (parts v)
  part_above n v above = each_weaker (λ x. ward x ≡ v.number) (IsAbove n) (parts v) (λ x of. ap (nat_cmp n) of ∙ above) (own v)

  parts_above : (n : ℕ) (ws : List WardEntry) → AllByRecursion (λ v. nat_cmp n v.number ≡ Less) ws → AllByRecursion (IsAbove n) (flat_map parts ws)
  parts_above n [] above = tt
  parts_above n (v ∷ ws) above = each_append (IsAbove n) (parts v) (flat_map parts ws) (part_above n v above.0) (parts_above n ws above.1)

  below_all : (n : ℕ) (xs ys : List X) → AllByRecursion (λ x. ward x ≡ n) xs → AllByRecursion (IsAbove n) ys → AreBelow (then_cmp (on ward nat_cmp) inner) xs ys
  below_all n [] ys of above = tt
  below_all n (x ∷ xs) ys of above =
      let first : (y : X) → IsAbove n y → then_cmp (on ward nat_cmp) inner x y ≡ Less =
      λ y less. ap (λ m. ordering_then (nat_cmp m (ward y)) (inner x y)) of.0 ∙ ap (λ o. ordering_then o (inner x y)) less in
      (each_weaker (IsAbove n) (λ y. then_cmp (on ward nat_cmp) inner x y ≡ Less) ys first above, below_all n xs ys of.1 above)

  -- the entries of all wards, taken together, are in ascending order
  pub parts_rise : ((w : WardEntry) → IsStrictlySortedBy (then_cmp (on ward nat_cmp) inner) (parts w)) → (ws : List WardEntry) → IsStrictlySortedBy (on (λ (w : WardEntry). w.number) nat_cmp) ws
      → IsStrictlySortedBy (then_cmp (on ward nat_cmp) inner) (flat_map parts ws)
  unfolding IsStrictlySortedBy
  parts_rise each [] up = tt
  parts_rise each (w ∷ ws) up =
      rises_append (then_cmp (on ward nat_cmp) inner) (parts w) (flat_map parts ws) (each w) (parts_rise each ws up.1)
      (below_all w.number (parts w) (flat_map parts ws) (own w) (parts_above w.number ws up.0))

  -- filtering by a number when every entry has it, and when no entry does
  filter_own : (n : ℕ) (xs : List X) → AllByRecursion (λ x. ward x ≡ n) xs → filter (λ x. ward x == n) xs ≡ xs
  filter_own n [] of = refl
  filter_own n (x ∷ xs) of = rw (eq-eqb (ward x) n of.0) (ap (λ (ys : List X). x ∷ ys) (filter_own n xs of.1))

  filter_others : (n : ℕ) (xs : List X) → AllByRecursion (λ x. (ward x == n) ≡ false) xs → filter (λ x. ward x == n) xs ≡ []
  filter_others n [] others = refl
  filter_others n (x ∷ xs) others = rw others.0 (filter_others n xs others.1)

  above_others : (n : ℕ) (xs : List X) → AllByRecursion (IsAbove n) xs → filter (λ x. ward x == n) xs ≡ []
  above_others n xs above =
      filter_others n xs (each_weaker (IsAbove n) (λ x. (ward x == n) ≡ false) xs
      (λ x less. let apart = ranked n (ward x) Less (sym less) in ne_eqb (ward x) n (λ same. omega (arith, apart, same))) above)

  -- filtering by the number of an existing ward yields the ward's entries
  pub part_of : (n : ℕ) (w : WardEntry) (ws : List WardEntry) → IsStrictlySortedBy (on (λ (w : WardEntry). w.number) nat_cmp) ws → entry_at (λ (v : WardEntry). nat_cmp n v.number) ws ≡ Some w
      → filter (λ x. ward x == n) (flat_map parts ws) ≡ parts w
  unfolding IsStrictlySortedBy
  part_of n w [] up found = absurd (cc)
  part_of n w (v ∷ ws) up found = filter-append (λ x. ward x == n) (parts v) (flat_map parts ws) ∙ go (is_eq (nat_cmp n v.number)) refl (λ later. part_of n w ws up.1 later)
    where
      go : (b : Bool) → is_eq (nat_cmp n v.number) ≡ b → (entry_at (λ (v : WardEntry). nat_cmp n v.number) ws ≡ Some w → filter (λ x. ward x == n) (flat_map parts ws) ≡ parts w)
          → filter (λ x. ward x == n) (parts v) ++ filter (λ x. ward x == n) (flat_map parts ws) ≡ parts w
      go true is later =
          let first : Some v ≡ Some w = rw is at found in
          let same : v ≡ w = cc in
          let number : n ≡ v.number = same_number n v.number is in
          let mine : filter (λ x. ward x == n) (parts v) ≡ parts v = filter_own n (parts v) (each_weaker (λ x. ward x ≡ v.number) (λ x. ward x ≡ n) (parts v) (λ x of. of ∙ sym number) (own v)) in
          let others : filter (λ x. ward x == n) (flat_map parts ws) ≡ [] =
          above_others n (flat_map parts ws) (parts_above n ws (each_weaker (λ (u : WardEntry). nat_cmp v.number u.number ≡ Less) (λ (u : WardEntry). nat_cmp n u.number ≡ Less) ws
          (λ u less. ap (λ m. nat_cmp m u.number) number ∙ less) up.0)) in
          ap (λ ys. filter (λ x. ward x == n) (parts v) ++ ys) others ∙ append-nil _ ∙ mine ∙ ap parts same
      go false is later =
          let apart : (n == v.number) ≡ false = other_number n v.number is in
          let none : filter (λ x. ward x == n) (parts v) ≡ [] =
          filter_others n (parts v) (each_weaker (λ x. ward x ≡ v.number) (λ x. (ward x == n) ≡ false) (parts v)
          (λ x of. ne_eqb (ward x) n (λ same. eqb-false n v.number apart (sym same ∙ of))) (own v)) in
          ap (λ ys. ys ++ filter (λ x. ward x == n) (flat_map parts ws)) none ∙ later (rw is at found)

-- ---- the bundles of an election

bundled_rise : (bs : List Bundle) (papers : List (List ℕ)) → IsStrictlySortedBy list_cmp (keys_of bs) → IsStrictlySortedBy list_cmp (keys_of (fold (λ cs paper. with_papers cs paper 1) bs papers))
bundled_rise bs [] up = up
bundled_rise bs (paper ∷ papers) up = bundled_rise (with_papers bs paper 1) papers (rise-with_papers paper 1 bs up)

module _ (e : ElectionEntry) where
  placed_above : (b : Bundle) (bs : List Bundle) → AllByRecursion (λ list. list_cmp b.0 list ≡ Less) (keys_of bs)
      → AllByRecursion (λ p. placed_cmp (placed_after e (stages_of e) b) p ≡ Less) (map (placed_after e (stages_of e)) bs)
  placed_above b [] above = tt
  placed_above b (c ∷ bs) above = (ap (λ o. ordering_then o (list_cmp b.0 c.0)) (tied e.ward.number e.ward.number refl) ∙ above.0, placed_above b bs above.1)

  placed_rise : (bs : List Bundle) → IsStrictlySortedBy list_cmp (keys_of bs) → IsStrictlySortedBy placed_cmp (map (placed_after e (stages_of e)) bs)
  unfolding IsStrictlySortedBy
  placed_rise [] up = tt
  placed_rise (b ∷ bs) up = (placed_above b bs up.0, placed_rise bs up.1)

  placed_own : (bs : List Bundle) → AllByRecursion (λ (p : PlacedEntry). p.ward ≡ e.ward.number) (map (placed_after e (stages_of e)) bs)
  placed_own [] = tt
  placed_own (b ∷ bs) = (refl, placed_own bs)

  pub bundles_rise : IsStrictlySortedBy placed_cmp (bundles_in e)
  unfolding IsStrictlySortedBy
  bundles_rise = go (has_stages e)
    where
      go : (b : Bool) → IsStrictlySortedBy placed_cmp (cond b (map (placed_after e (stages_of e)) (bundled e.ballots.papers)) [])
      go true = placed_rise (bundled e.ballots.papers) (bundled_rise [] e.ballots.papers tt)
      go false = tt

  pub bundles_own : AllByRecursion (λ (p : PlacedEntry). p.ward ≡ e.ward.number) (bundles_in e)
  bundles_own = go (has_stages e)
    where
      go : (b : Bool) → AllByRecursion (λ (p : PlacedEntry). p.ward ≡ e.ward.number) (cond b (map (placed_after e (stages_of e)) (bundled e.ballots.papers)) [])
      go true = placed_own (bundled e.ballots.papers)
      go false = tt

-- ---- the figures of an election

abbrev by_candidate : Figure → Figure → Ordering
by_candidate = on (λ (f : Figure). f.candidate) nat_cmp

-- the figures of a stage are ordered by candidate, and there are at most 30 candidates
module _ (s : Stage) (before : History) where
  abbrev shown : List ℕ → List Figure
  shown cs = map (figure_of s (s ∷ before)) cs ++ record { candidate = 99; units = s.lost; mark = 0 } ∷ []

  shown_above : (low : ℕ) (cs : List ℕ) → low ≤ max_candidates → Ascends low cs → AllByRecursion (λ (f : Figure). nat_cmp low f.candidate ≡ Less) (shown cs)
  shown_above low [] few up = (less low 99 (omega (arith, few)), tt)
  shown_above low (c ∷ cs) few up =
      let first : nat_cmp low c ≡ Less = less low c up.0 in (
        first,
        each_weaker (λ (f : Figure). nat_cmp c f.candidate ≡ Less) (λ (f : Figure). nat_cmp low f.candidate ≡ Less) (shown cs)
            (λ f later. nat_cmp_total.trans low c f.candidate first later) (shown_above c cs up.1 up.2),
      )

  shown_rise : (low : ℕ) (cs : List ℕ) → Ascends low cs → IsStrictlySortedBy by_candidate (shown cs)
  unfolding IsStrictlySortedBy
  shown_rise low [] up = (tt, tt)
  shown_rise low (c ∷ cs) up = (shown_above c cs up.1 up.2, shown_rise c cs up.2)

figures_rise_at : (cs : List ℕ) (s : Stage) (before : History) → Ascends 0 cs → IsStrictlySortedBy by_candidate (figures_at cs (s ∷ before))
unfolding IsStrictlySortedBy
figures_rise_at cs s before up = (shown_above s before 0 cs (omega arith) up, shown_rise s before 0 cs up)

module _ (ward : ℕ) where
  -- a figure of a ward sorts before those of later stages, and before those of higher-numbered candidates at
  -- the same stage
  below_stage : (f g : FigureEntry) → f.ward ≡ ward → g.ward ≡ ward → f.stage < g.stage → figure_cmp f g ≡ Less
  below_stage f g one other earlier =
      ap (λ o. ordering_then o (ordering_then (nat_cmp f.stage g.stage) (nat_cmp f.candidate g.candidate))) (tied f.ward g.ward (one ∙ sym other))
      ∙ ap (λ o. ordering_then o (nat_cmp f.candidate g.candidate)) (less f.stage g.stage earlier)

  below_candidate : (stage : ℕ) (f g : Figure) → by_candidate f g ≡ Less → figure_cmp (figure_at ward stage f) (figure_at ward stage g) ≡ Less
  below_candidate stage f g below =
      ap (λ o. ordering_then o (ordering_then (nat_cmp stage stage) (nat_cmp f.candidate g.candidate))) (tied ward ward refl)
      ∙ ap (λ o. ordering_then o (nat_cmp f.candidate g.candidate)) (tied stage stage refl)
      ∙ below

  stage_above : (stage : ℕ) (f : Figure) (fs : List Figure) → AllByRecursion (λ g. by_candidate f g ≡ Less) fs
      → AllByRecursion (λ g. figure_cmp (figure_at ward stage f) g ≡ Less) (map (figure_at ward stage) fs)
  stage_above stage f [] above = tt
  stage_above stage f (g ∷ fs) above = (below_candidate stage f g above.0, stage_above stage f fs above.1)

  stage_rises : (stage : ℕ) (fs : List Figure) → IsStrictlySortedBy by_candidate fs → IsStrictlySortedBy figure_cmp (map (figure_at ward stage) fs)
  unfolding IsStrictlySortedBy
  stage_rises stage [] up = tt
  stage_rises stage (f ∷ fs) up = (stage_above stage f fs up.0, stage_rises stage fs up.1)

  -- a figure of the ward, from a stage no later than the given one
  abbrev IsWithin : ℕ → FigureEntry → Type 0
  IsWithin stages f = (f.ward ≡ ward) × (f.stage ≤ stages)

  stage_within : (n stage : ℕ) (fs : List Figure) → stage ≤ n → AllByRecursion (IsWithin n) (map (figure_at ward stage) fs)
  stage_within n stage [] few = tt
  stage_within n stage (f ∷ fs) few = ((refl, few), stage_within n stage fs few)

  figures_within : (cs : List ℕ) (stages : History) → AllByRecursion (IsWithin (length stages)) (figures_to ward cs stages)
  figures_within cs [] = tt
  figures_within cs (s ∷ before) =
      each_append (IsWithin (length (s ∷ before))) (figures_to ward cs before) (map (figure_at ward (length before + 1)) (figures_at cs (s ∷ before)))
      (each_weaker (IsWithin (length before)) (IsWithin (length (s ∷ before))) (figures_to ward cs before) (λ f few. (few.0, omega (arith, few.1))) (figures_within cs before))
      (stage_within (length (s ∷ before)) (length before + 1) (figures_at cs (s ∷ before)) (omega arith))

  earlier_below : (n : ℕ) (xs : List FigureEntry) (fs : List Figure) → AllByRecursion (IsWithin n) xs → AreBelow figure_cmp xs (map (figure_at ward (n + 1)) fs)
  earlier_below n [] fs few = tt
  earlier_below n (x ∷ xs) fs few = (each fs, earlier_below n xs fs few.1)
    where
      each : (gs : List Figure) → AllByRecursion (λ g. figure_cmp x g ≡ Less) (map (figure_at ward (n + 1)) gs)
      each [] = tt
      each (g ∷ gs) = (below_stage x (figure_at ward (n + 1) g) few.0.0 refl (omega (arith, few.0.1)), each gs)

  pub figures_to_rise : (cs : List ℕ) (stages : History) → Ascends 0 cs → IsStrictlySortedBy figure_cmp (figures_to ward cs stages)
  unfolding IsStrictlySortedBy
  figures_to_rise cs [] up = tt
  figures_to_rise cs (s ∷ before) up =
      rises_append figure_cmp (figures_to ward cs before) (map (figure_at ward (length before + 1)) (figures_at cs (s ∷ before)))
      (figures_to_rise cs before up)
      (stage_rises (length before + 1) (figures_at cs (s ∷ before)) (figures_rise_at cs s before up))
      (earlier_below (length before) (figures_to ward cs before) (figures_at cs (s ∷ before)) (figures_within cs before))

pub figures_rise : (e : ElectionEntry) → IsStrictlySortedBy figure_cmp (figures_in e)
unfolding IsStrictlySortedBy
figures_rise e = go (has_stages e)
  where
    go : (b : Bool) → IsStrictlySortedBy figure_cmp (cond b (figures_to e.ward.number (columns_of e.candidates) (stages_of e)) [])
    go true = figures_to_rise e.ward.number (columns_of e.candidates) (stages_of e) (ascends_from_columns (columns_of e.candidates) (columns_are_set e.candidates))
    go false = tt

pub figures_own : (e : ElectionEntry) → AllByRecursion (λ (f : FigureEntry). f.ward ≡ e.ward.number) (figures_in e)
figures_own e = go (has_stages e)
  where
    go : (b : Bool) → AllByRecursion (λ (f : FigureEntry). f.ward ≡ e.ward.number) (cond b (figures_to e.ward.number (columns_of e.candidates) (stages_of e)) [])
    go true =
        each_weaker (IsWithin e.ward.number (length (stages_of e))) (λ (f : FigureEntry). f.ward ≡ e.ward.number) (figures_to e.ward.number (columns_of e.candidates) (stages_of e)) (λ f few. few.0)
        (figures_within e.ward.number (columns_of e.candidates) (stages_of e))
    go false = tt

-- ---- the tabulation of a state

pub tabulation_rises : (s : OfficeState) → IsState s → TabulationRises (tabulation_of s)
unfolding tabulation_of
tabulation_rises s is = record {
  bundles =
      parts_rise (λ (p : PlacedEntry). p.ward) (on (λ (p : PlacedEntry). p.list) list_cmp) (λ (w : WardEntry). bundles_in (election_of s w)) (λ w. bundles_own (election_of s w))
      (λ w. bundles_rise (election_of s w)) s.wards is.rise.wards;
  figures =
      parts_rise (λ (f : FigureEntry). f.ward) (then_cmp (on (λ (f : FigureEntry). f.stage) nat_cmp) (on (λ (f : FigureEntry). f.candidate) nat_cmp))
      (λ (w : WardEntry). figures_in (election_of s w)) (λ w. figures_own (election_of s w)) (λ w. figures_rise (election_of s w)) s.wards is.rise.wards;
}

pub bundles_of_ward : (s : OfficeState) (w : WardEntry) → IsState s → ward_at s w.number ≡ Some w
    → filter (λ (b : PlacedEntry). b.ward == w.number) (tabulation_of s).bundles ≡ bundles_in (election_of s w)
unfolding tabulation_of
bundles_of_ward s w is found =
    part_of (λ (p : PlacedEntry). p.ward) (on (λ (p : PlacedEntry). p.list) list_cmp) (λ (w : WardEntry). bundles_in (election_of s w))
    (λ w. bundles_own (election_of s w)) w.number w s.wards is.rise.wards found

pub figures_of_ward : (s : OfficeState) (w : WardEntry) → IsState s → ward_at s w.number ≡ Some w
    → filter (λ (f : FigureEntry). f.ward == w.number) (tabulation_of s).figures ≡ figures_in (election_of s w)
unfolding tabulation_of
figures_of_ward s w is found =
    part_of (λ (f : FigureEntry). f.ward) (then_cmp (on (λ (f : FigureEntry). f.stage) nat_cmp) (on (λ (f : FigureEntry). f.candidate) nat_cmp))
    (λ (w : WardEntry). figures_in (election_of s w)) (λ w. figures_own (election_of s w)) w.number w s.wards is.rise.wards found
