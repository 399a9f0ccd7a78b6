-- If a book has counted an election, with its papers in bundles, then its bundles and figures are the tabulation of the election's count. The
-- tabulations of all wards together make up the tabulation of the state.
use Rattle.std.proofs.Common.{◌≡◌, ◌≢◌, ℕ, ◌==◌, true, List, [], ◌∷◌, map, refl, sym, ap, subst, ◌∙◌, arith}
use Rattle.std.specs.List.{flat_map}
use Rattle.std.specs.List.Sorted.{IsPermutation}
use Rattle.std.proofs.lemmas.List.Folds.{flat_map-map}
use Rattle.std.proofs.lemmas.List.Sorted.{IsPermutation-refl}
use Rattle.count.specs.Books.{BundledBook}
use Rattle.count.specs.Bundles.{Bundle, papers_of, bundled}
use Rattle.count.specs.Law.Contest.{Contest, History}
use Rattle.count.specs.Law.Places.{moved, place}
use Rattle.count.specs.Law.Right.{reordered}
use Rattle.count.proofs.OrderLemmas.{contest-reordered}
use Rattle.register.specs.declared.wards.Ward.{Ward}
use Rattle.register.specs.Offices.{WardEntry, ward_entry}
use Rattle.register.specs.Marks.{columns_of}
use Rattle.register.specs.Elections.{ElectionEntry, election_of, contest_of, stages_of}
use Rattle.register.specs.Tabulated.{TabulationEntries, has_stages, placed_at, placed_after, bundles_in, figures_to, figures_in, tabulation_of}
use Rattle.rowcheck.specs.declared.rows.Rows.{Rows}
use Rattle.rowcheck.specs.States.{state_of}
use Rattle.rowcheck.specs.Walks.Counts.{HasCounted}
use Rattle.rowcheck.proofs.SideBySideLemmas.{more_differs}
use Rattle.rowcheck.proofs.StagesDoneLemmas.{map-alike}

-- the place of a paper doesn't depend on the order of the papers
place_reordered : (contest : Contest) (papers : List (List ℕ)) (stages : History) (paper : List ℕ) → place (reordered contest papers) stages paper ≡ place contest stages paper
place_reordered contest papers [] paper = refl
place_reordered contest papers (s ∷ before) paper = ap (moved contest before s.action paper) (place_reordered contest papers before paper)

module _ (e : ElectionEntry) (ward : WardEntry) (columns : List ℕ) (bundles : List Bundle) (book : BundledBook) (has : HasCounted e ward columns bundles book) where
  -- the papers of the bundles are those of the book
  pub counted-papers : IsPermutation (papers_of bundles) book.contest.papers
  counted-papers =
      let same : papers_of bundles ≡ book.contest.papers = ap (λ bs. papers_of bs) has.bundles_are ∙ ap (λ (c : Contest). c.papers) (sym has.contest_is) in
      subst (λ papers. IsPermutation (papers_of bundles) papers) same (IsPermutation-refl (papers_of bundles))

  -- each of these papers has the same place in the book as in the election
  counted_place : (paper : List ℕ) → place book.contest book.history paper ≡ place (contest_of e) (stages_of e) paper
  counted_place paper =
      ap (λ (c : Contest). place c book.history paper) (has.contest_is ∙ sym (contest-reordered (columns_of e.candidates) e.ward.seats e.ballots.papers))
      ∙ place_reordered (contest_of e) (papers_of (bundled e.ballots.papers)) book.history paper
      ∙ ap (λ (h : History). place (contest_of e) h paper) has.stages_are

  module _ (started : ward.done ≢ 0) where
    staged : has_stages e ≡ true
    staged = rw (has.contested, ap (λ (w : WardEntry). w.done == 0) (sym has.ward_is) ∙ more_differs ward.done 0 (omega (arith, started))) refl

    pub counted-bundles : map (λ (b : Bundle). placed_at ward.number b (place book.contest book.history b.0)) bundles ≡ bundles_in e
    counted-bundles =
        map-alike (λ (b : Bundle). placed_at ward.number b (place book.contest book.history b.0)) (placed_after e (stages_of e)) bundles
        (λ b. ap (λ (w : WardEntry). placed_at w.number b (place book.contest book.history b.0)) has.ward_is ∙ ap (placed_at e.ward.number b) (counted_place b.0))
        ∙ ap (map (placed_after e (stages_of e))) has.bundles_are
        ∙ sym (rw staged refl)

    pub counted-figures : (stages : History) → stages ≡ book.history → figures_to ward.number columns stages ≡ figures_in e
    counted-figures stages are =
        ap (λ (w : WardEntry). figures_to w.number columns stages) has.ward_is
        ∙ ap (λ cs. figures_to e.ward.number cs stages) has.columns_are
        ∙ ap (figures_to e.ward.number (columns_of e.candidates)) (are ∙ has.stages_are)
        ∙ sym (rw staged refl)

-- the tabulations of all wards in the rows together make up the tabulation of the state
pub tabulation-by_ward : (rows : Rows) (t : TabulationEntries) (wards : List Ward) → wards ≡ rows.wards.items
    → t.bundles ≡ flat_map (λ (w : Ward). bundles_in (election_of (state_of rows) (ward_entry w))) wards
    → t.figures ≡ flat_map (λ (w : Ward). figures_in (election_of (state_of rows) (ward_entry w))) wards
    → t ≡ tabulation_of (state_of rows)
unfolding tabulation_of
tabulation-by_ward rows t wards are bundles figures =
    let s = state_of rows in
    let all_bundles =
    bundles ∙ ap (flat_map (λ (w : Ward). bundles_in (election_of s (ward_entry w)))) are ∙ sym (flat_map-map (λ (w : WardEntry). bundles_in (election_of s w)) ward_entry rows.wards.items)
    in
    let all_figures =
    figures ∙ ap (flat_map (λ (w : Ward). figures_in (election_of s (ward_entry w)))) are ∙ sym (flat_map-map (λ (w : WardEntry). figures_in (election_of s w)) ward_entry rows.wards.items)
    in
    λ i. record { bundles = all_bundles i; figures = all_figures i }
