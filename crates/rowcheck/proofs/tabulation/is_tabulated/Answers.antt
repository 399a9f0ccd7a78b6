-- Proof that `is_tabulated` meets its contract: entries are equal if the fields of the values are.
use Rattle.std.proofs.Common.{◌≡◌, Bool, ◌&&◌, ◌==◌, nat_eq, refl, sym, ap, ◌∙◌, List, [], ◌∷◌, map}
use Rattle.std.specs.Bool.{Decides}
use Rattle.std.specs.Cmp.Lexicographic.{pointwise}
use Rattle.std.proofs.lemmas.Bool.Decides.{Decides-at, Decides-like, Decides-and, Decides-eqb}
use Rattle.std.proofs.lemmas.Slice.Eq.{bytes_eq-Decides}
use Rattle.register.specs.declared.tabulations.PlacedBundle.{PlacedBundle}
use Rattle.register.specs.declared.tabulations.StageFigure.{StageFigure}
use Rattle.register.specs.Tabulated.{PlacedEntry, FigureEntry, TabulationEntries, placed_entry, figure_entry}
use Rattle.rowcheck.proofs.tabulation.is_tabulated.Goals as goal

-- lists are compared element by element
each_same : {X Y : Type 0} (f : X → Y) (test : X → X → Bool) → ((x y : X) → Decides (test x y) (f x ≡ f y)) → (xs ys : List X) → Decides (pointwise test xs ys) (map f xs ≡ map f ys)
each_same f test tells [] [] = (λ is. refl, λ same. refl)
each_same f test tells [] (y ∷ ys) = (λ is. absurd (cc), λ same. absurd (cc))
each_same f test tells (x ∷ xs) [] = (λ is. absurd (cc), λ same. absurd (cc))
each_same f test tells (x ∷ xs) (y ∷ ys) =
    Decides-like (test x y && pointwise test xs ys) (λ both. λ i. both.0 i ∷ both.1 i) (λ same. (cc, cc)) (Decides-and (test x y) (pointwise test xs ys) (tells x y) (each_same f test tells xs ys))

-- bundles by their fields
abbrev same_bundle : PlacedBundle → PlacedBundle → Bool
same_bundle a b = (a.ward == b.ward) && (pointwise nat_eq a.list.items b.list.items && ((a.papers == b.papers) && ((a.holder == b.holder) && (a.value == b.value))))

bundle_told : (a b : PlacedBundle) → Decides (same_bundle a b) (placed_entry a ≡ placed_entry b)
bundle_told a b =
    Decides-like (same_bundle a b)
    (λ all.
    let others = all.1 in
    let counts = others.1 in
    let place = counts.1 in
    λ i. record { ward = all.0 i; list = others.0 i; papers = counts.0 i; holder = place.0 i; value = place.1 i })
    (λ same. (
      ap (λ (e : PlacedEntry). e.ward) same,
      (
        ap (λ (e : PlacedEntry). e.list) same,
        (ap (λ (e : PlacedEntry). e.papers) same, (ap (λ (e : PlacedEntry). e.holder) same, ap (λ (e : PlacedEntry). e.value) same)),
      ),
    ))
    (Decides-and _ _ (Decides-eqb a.ward b.ward) (Decides-and _ _ (bytes_eq-Decides a.list.items b.list.items)
    (Decides-and _ _ (Decides-eqb a.papers b.papers) (Decides-and _ _ (Decides-eqb a.holder b.holder) (Decides-eqb a.value b.value)))))

-- figures by theirs
abbrev same_figure : StageFigure → StageFigure → Bool
same_figure a b = (a.ward == b.ward) && ((a.stage == b.stage) && ((a.candidate == b.candidate) && ((a.units == b.units) && (a.mark == b.mark))))

figure_told : (a b : StageFigure) → Decides (same_figure a b) (figure_entry a ≡ figure_entry b)
figure_told a b =
    Decides-like (same_figure a b)
    (λ all.
    let others = all.1 in
    let candidates = others.1 in
    let shown = candidates.1 in
    λ i. record { ward = all.0 i; stage = others.0 i; candidate = candidates.0 i; units = shown.0 i; mark = shown.1 i })
    (λ same. (
      ap (λ (e : FigureEntry). e.ward) same,
      (
        ap (λ (e : FigureEntry). e.stage) same,
        (ap (λ (e : FigureEntry). e.candidate) same, (ap (λ (e : FigureEntry). e.units) same, ap (λ (e : FigureEntry). e.mark) same)),
      ),
    ))
    (Decides-and _ _ (Decides-eqb a.ward b.ward) (Decides-and _ _ (Decides-eqb a.stage b.stage)
    (Decides-and _ _ (Decides-eqb a.candidate b.candidate) (Decides-and _ _ (Decides-eqb a.units b.units) (Decides-eqb a.mark b.mark)))))

pub returns-clause-compares : goal.returns-clause-compares
returns-clause-compares c =
    let rows = c.args.rows.now in
    let counted = c.args.counted.now in
    let bundles = Decides-at c.eq-bundles.result _ c.eq-bundles.ensures (each_same placed_entry same_bundle bundle_told rows.bundles.items counted.bundles.items) in
    let figures = Decides-at c.eq-figures.result _ c.eq-figures.ensures (each_same figure_entry same_figure figure_told rows.figures.items counted.figures.items) in
    Decides-like (c.eq-bundles.result && c.eq-figures.result)
    (λ both i. record { bundles = both.0 i; figures = both.1 i })
    (λ same. (ap (λ (t : TabulationEntries). t.bundles) same, ap (λ (t : TabulationEntries). t.figures) same))
    (Decides-and c.eq-bundles.result c.eq-figures.result bundles figures)

pub returns-clause-judges : goal.returns-clause-judges
returns-clause-judges c of_state =
    let same = returns-clause-compares c in
    (λ yes. same.0 yes ∙ of_state, λ is. same.1 (is ∙ sym of_state))
