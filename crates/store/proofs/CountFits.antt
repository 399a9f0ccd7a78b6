-- The values in the tabulation of a state's counts fit their columns, so its rows can be read.
use Rattle.std.proofs.Common.{◌≡◌, inl, inr, ℕ, ◌+◌, ◌<◌, ◌≤◌, ◌^◌, ◌==◌, List, [], ◌∷◌, ◌++◌, map, length, replicate, Bool, true, false, cond, Some, refl, sym, ap, subst, ◌∙◌, arith, length-append}
use Rattle.std.specs.List.{AllByRecursion, flat_map, list_all}
use Rattle.std.proofs.lemmas.Bool.{and_parts}
use Rattle.std.proofs.lemmas.List.{map-append, length-replicate}
use Rattle.sqlite_trees.proofs.ListLemmas.{all-append}
use Rattle.sqlite.specs.Order.{Row}
use Rattle.votes.specs.Units.{max_papers}
use Rattle.paper.specs.Columns.{max_candidates}
use Rattle.paper.proofs.ColumnSets.{Ascends, ascends_from_columns}
use Rattle.count.specs.Bundles.{Bundle, papers_of, bundled}
use Rattle.count.specs.Law.Contest.{History, In, AreForCandidates}
use Rattle.count.specs.Law.Elected.{is_excluded}
use Rattle.count.specs.Law.Places.{place}
use Rattle.count.specs.Marks.{is_named, standing_mark, mark_by, figure_of, figures_at}
use Rattle.count.specs.declared.figures.Figure.{Figure}
use Rattle.count.specs.declared.stages.Action.{Action}
use Rattle.count.specs.declared.stages.Action.TheVariants.{First, Surplus, Exclude, ExcludeLast}
use Rattle.count.specs.declared.stages.Stage.{Stage}
use Rattle.count.proofs.Law.ActionLemmas.{column-in}
use Rattle.count.proofs.Law.ConservedLemmas.{holder-known}
use Rattle.count.proofs.Law.CountLemmas.{stages_few}
use Rattle.count.proofs.OrderLemmas.{bundled-length, lists-from}
use Rattle.register.specs.Ranges.{last_ward}
use Rattle.register.specs.Offices.{WardEntry, OfficeState, ward_at}
use Rattle.register.specs.Marks.{columns_of}
use Rattle.register.specs.Polls.{piles_of}
use Rattle.register.specs.Elections.{ElectionEntry, election_of, contest_of, stages_of}
use Rattle.register.specs.StateConditions.{is_ward, IsState}
use Rattle.register.specs.Tabulated.{placed_after, bundles_in, figure_at, figures_to, figures_in, has_stages, tabulation_of}
use Rattle.register.proofs.ContestLemmas.{columns_are_set, papers_are_fair, seats_and_papers_are_few}
use Rattle.tables.specs.declared.table.Table.TheVariants.{Bundle as BundleTable, Vote}
use Rattle.store.specs.EntryRows.{row_of_placed, IsPlacedRow, row_of_figure, IsFigureRow}
use Rattle.store.specs.StateTables.{tables_of, tables_with}
use Rattle.store.proofs.DoneLemmas.{wards_there, wards_few}
use Rattle.store.proofs.FitLemmas.{small}

-- ---- bundles

-- no bundle has more papers than all bundles together
each_within : (n : ℕ) (bs : List Bundle) → length (papers_of bs) ≤ n → AllByRecursion (λ (b : Bundle). b.1 ≤ n) bs
each_within n [] few = tt
each_within n (b ∷ bs) few =
    let all : length (papers_of (b ∷ bs)) ≡ b.1 + length (papers_of bs) = length-append (replicate b.1 b.0) (papers_of bs) ∙ ap (λ k. k + length (papers_of bs)) (length-replicate b.1 b.0) in
    (omega (arith, all, few), each_within n bs (omega (arith, all, few)))

module _ (e : ElectionEntry) where
  holder_few : (list : List ℕ) → AllByRecursion (λ c. In c (columns_of e.candidates)) list → (place (contest_of e) (stages_of e) list).holder ≤ max_candidates
  holder_few list among = elim (holder-known (contest_of e) (stages_of e) list among) [
    | inl none ↦ omega (arith, none)
    | inr one ↦ (column-in _ (columns_of e.candidates) (columns_are_set e.candidates) one).1
  ]

  placed_fit : e.ward.number < 2 ^ 32 → (bs : List Bundle) → AllByRecursion (λ (b : Bundle). b.1 ≤ max_papers) bs
      → AllByRecursion (λ (b : Bundle). AllByRecursion (λ c. In c (columns_of e.candidates)) b.0) bs
      → AllByRecursion IsPlacedRow (map row_of_placed (map (placed_after e (stages_of e)) bs))
  placed_fit number [] few among = tt
  placed_fit number (b ∷ bs) few among =
      let papers = few.0 in
      let holder = holder_few b.0 among.0 in
      let at = place (contest_of e) (stages_of e) b.0 in (
        ((e.ward.number, number, refl), (b.0, refl), (b.1, omega (arith, papers), refl), (at.holder, omega (arith, holder), refl), (at.value, refl)),
        placed_fit number bs few.1 among.1,
      )

  bundles_in_fit : e.ward.number < 2 ^ 32 → length e.ballots.papers ≤ max_papers → AreForCandidates (columns_of e.candidates) e.ballots.papers
      → AllByRecursion IsPlacedRow (map row_of_placed (bundles_in e))
  bundles_in_fit number few among = go (has_stages e)
    where
      go : (b : Bool) → AllByRecursion IsPlacedRow (map row_of_placed (cond b (map (placed_after e (stages_of e)) (bundled e.ballots.papers)) []))
      go true =
          let all = bundled-length e.ballots.papers in
          placed_fit number (bundled e.ballots.papers) (each_within max_papers (bundled e.ballots.papers) (omega (arith, all, few)))
          (lists-from (λ list. AllByRecursion (λ c. In c (columns_of e.candidates)) list) [] e.ballots.papers tt among)
      go false = tt

-- ---- figures

standing_few : (stages : History) (c : ℕ) → standing_mark stages c ≤ 2
standing_few stages c = go (is_named stages c) (is_excluded stages c)
  where
    go : (named excluded : Bool) → cond named 1 (cond excluded 2 0) ≤ 2
    go true excluded = omega arith
    go false true = omega arith
    go false false = omega arith

either_few : (b : Bool) (own other : ℕ) → own ≤ 5 → other ≤ 2 → cond b own other ≤ 5
either_few true own other few less = few
either_few false own other few less = omega (arith, less)

mark_few : (action : Action) (c other : ℕ) → other ≤ 2 → mark_by action c other ≤ 5
mark_few First c other few = omega (arith, few)
mark_few (Surplus d) c other few = either_few (d == c) 3 other (omega arith) few
mark_few (Exclude d) c other few = either_few (d == c) 4 other (omega arith) few
mark_few (ExcludeLast d) c other few = either_few (d == c) 5 other (omega arith) few

module _ (ward : ℕ) (number : ward < 2 ^ 32) where
  -- the row of a stage's figure with small numbers can be read
  figure_fits : (stage : ℕ) → stage < 2 ^ 32 → (f : Figure) → f.candidate < 2 ^ 32 → f.mark < 2 ^ 32 → IsFigureRow (row_of_figure (figure_at ward stage f))
  figure_fits stage few f candidate mark = ((ward, number, refl), (stage, few, refl), (f.candidate, candidate, refl), (f.units, refl), (f.mark, mark, refl))

  shown_fit : (stage : ℕ) → stage < 2 ^ 32 → (s : Stage) (before : History) (low : ℕ) (cs : List ℕ) → Ascends low cs
      → AllByRecursion IsFigureRow (map row_of_figure (map (figure_at ward stage) (map (figure_of s (s ∷ before)) cs ++ record { candidate = 99; units = s.lost; mark = 0 } ∷ [])))
  shown_fit stage few s before low [] up = (figure_fits stage few (record { candidate = 99; units = s.lost; mark = 0 }) (omega arith) (omega arith), tt)
  shown_fit stage few s before low (c ∷ cs) up =
      let candidate = up.1 in
      let mark = mark_few s.action c (standing_mark (s ∷ before) c) (standing_few (s ∷ before) c) in
      (figure_fits stage few (figure_of s (s ∷ before) c) (omega (arith, candidate)) (omega (arith, mark)), shown_fit stage few s before c cs up.2)

  figures_to_fit : (cs : List ℕ) → Ascends 0 cs → (stages : History) → length stages < 2 ^ 32 → AllByRecursion IsFigureRow (map row_of_figure (figures_to ward cs stages))
  figures_to_fit cs up [] few = tt
  figures_to_fit cs up (s ∷ before) few =
      let stage : length before + 1 < 2 ^ 32 = omega (arith, few) in
      let shown = map (figure_at ward (length before + 1)) (figures_at cs (s ∷ before)) in
      subst (AllByRecursion IsFigureRow) (sym (map-append row_of_figure (figures_to ward cs before) shown))
      (all-append IsFigureRow (map row_of_figure (figures_to ward cs before)) (map row_of_figure shown) (figures_to_fit cs up before (omega (arith, few)))
      (figure_fits (length before + 1) stage (record { candidate = 0; units = s.non_transferable; mark = 0 }) (omega arith) (omega arith), shown_fit (length before + 1) stage s before 0 cs up))

figures_in_fit : (e : ElectionEntry) → e.ward.number < 2 ^ 32 → e.ward.done < 2 ^ 32 → AllByRecursion IsFigureRow (map row_of_figure (figures_in e))
figures_in_fit e number few = go (has_stages e)
  where
    go : (b : Bool) → AllByRecursion IsFigureRow (map row_of_figure (cond b (figures_to e.ward.number (columns_of e.candidates) (stages_of e)) []))
    go true =
        let stages = stages_few (contest_of e) e.lots e.ward.done in
        figures_to_fit e.ward.number number (columns_of e.candidates) (ascends_from_columns (columns_of e.candidates) (columns_are_set e.candidates)) (stages_of e) (omega (arith, stages, few))
    go false = tt

-- ---- ward by ward

parts_fit : {X : Type 0} (P : Row → Type 0) (row : X → Row) (parts : WardEntry → List X) (ws : List WardEntry) → AllByRecursion (λ w. AllByRecursion P (map row (parts w))) ws
    → AllByRecursion P (map row (flat_map parts ws))
parts_fit P row parts [] each = tt
parts_fit P row parts (w ∷ ws) each =
    subst (AllByRecursion P) (sym (map-append row (parts w) (flat_map parts ws))) (all-append P (map row (parts w)) (map row (flat_map parts ws)) each.0 (parts_fit P row parts ws each.1))

number_small : (w : WardEntry) → is_ward w ≡ true → w.number < 2 ^ 32
unfolding is_ward
number_small w good = small 1 last_ward w.number (omega arith) (and_parts _ _ good).0

module _ (s : OfficeState) (is : IsState s) where
  each_bundles_fit : (ws : List WardEntry) → list_all is_ward ws ≡ true → AllByRecursion (λ (w : WardEntry). ward_at s w.number ≡ Some w) ws
      → AllByRecursion (λ w. AllByRecursion IsPlacedRow (map row_of_placed (bundles_in (election_of s w)))) ws
  each_bundles_fit [] good there = tt
  each_bundles_fit (w ∷ ws) good there =
      let both = and_parts _ _ good in
      let few = seats_and_papers_are_few s w is.in_range is.keyed is.rise there.0 in
      (bundles_in_fit (election_of s w) (number_small w both.0) few.2 (papers_are_fair (columns_of (election_of s w).candidates) (piles_of s w.number)), each_bundles_fit ws both.1 there.1)

  each_figures_fit : (ws : List WardEntry) → list_all is_ward ws ≡ true → AllByRecursion (λ (w : WardEntry). w.done < 2 ^ 32) ws
      → AllByRecursion (λ w. AllByRecursion IsFigureRow (map row_of_figure (figures_in (election_of s w)))) ws
  each_figures_fit [] good few = tt
  each_figures_fit (w ∷ ws) good few = let both = and_parts _ _ good in (figures_in_fit (election_of s w) (number_small w both.0) few.0, each_figures_fit ws both.1 few.1)

  -- the rows of the tabulation can be read as bundles and as figures
  pub bundles_fit : AllByRecursion IsPlacedRow (tables_of s BundleTable)
  unfolding tables_of tables_with tabulation_of
  bundles_fit = parts_fit IsPlacedRow row_of_placed (λ (w : WardEntry). bundles_in (election_of s w)) s.wards
      (each_bundles_fit s.wards (and_parts _ _ is.in_range).0 (wards_there s.wards is.rise.wards))

  pub figures_fit : AllByRecursion IsFigureRow (tables_of s Vote)
  unfolding tables_of tables_with tabulation_of
  figures_fit = parts_fit IsFigureRow row_of_figure (λ (w : WardEntry). figures_in (election_of s w)) s.wards (each_figures_fit s.wards (and_parts _ _ is.in_range).0 (wards_few s is))
