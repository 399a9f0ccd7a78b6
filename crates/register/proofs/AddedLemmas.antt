-- Adding a ward's bundles and figures to a tabulation, one by one.
use Rattle.std.proofs.Common.{◌≡◌, ℕ, zero, suc, ◌+◌, ◌<◌, List, [], ◌∷◌, ◌++◌, length, map, take, reverse, refl, sym, ap, ◌∙◌, append_assoc, arith}
use Rattle.std.proofs.lemmas.List.{reverse-append, length-reverse, length-take}
use Rattle.count.specs.Books.{placed}
use Rattle.count.specs.Bundles.{Bundle}
use Rattle.count.specs.Law.Contest.{History}
use Rattle.count.specs.Law.Places.{Place}
use Rattle.count.specs.Marks.{figures_at}
use Rattle.count.specs.declared.figures.Figure.{Figure}
use Rattle.count.specs.declared.placed.Placed.{Placed}
use Rattle.count.specs.declared.stages.Stage.{Stage}
use Rattle.register.specs.Tabulated.{PlacedEntry, FigureEntry, placed_at, figure_at, figures_to}

-- ---- bundles

-- the places of bundles, as a book returns them and as they are tabulated
abbrev pub lying : (List ℕ → Place) → List Bundle → List Placed
lying at bs = map (λ (b : Bundle). placed (at b.0)) bs

abbrev pub tabulated : ℕ → (List ℕ → Place) → List Bundle → List PlacedEntry
tabulated ward at bs = map (λ (b : Bundle). placed_at ward b (at b.0)) bs

-- some bundles have already been tabulated; the given bundles, whose places are known, remain
pub record AreLeft (ward : ℕ) (at : List ℕ → Place) (items all : List PlacedEntry) (bs : List Bundle) (places : List Placed) : Type 0 where
  pub lie : places ≡ lying at bs
  pub make : items ++ tabulated ward at bs ≡ all

same_place : (p q : Placed) (ps qs : List Placed) → p ∷ ps ≡ q ∷ qs → (p ≡ q) × (ps ≡ qs)
same_place p q ps qs same = (cc, cc)

-- a bundle of a ward, with the place returned by a book
abbrev at_placed : ℕ → Bundle → Placed → PlacedEntry
at_placed ward b p = record { ward = ward; list = b.0; papers = b.1; holder = p.holder; value = p.value }

pub one_less : (ward : ℕ) (at : List ℕ → Place) (items new all : List PlacedEntry) (b : Bundle) (bs : List Bundle) (p : Placed) (ps : List Placed) (entry : PlacedEntry) → entry ≡ at_placed ward b p
    → new ≡ items ++ entry ∷ [] → AreLeft ward at items all (b ∷ bs) (p ∷ ps) → AreLeft ward at new all bs ps
one_less ward at items new all b bs p ps entry is pushed left =
    let heads = same_place p (placed (at b.0)) ps (lying at bs) left.lie in
    let entry_is : entry ≡ placed_at ward b (at b.0) = is ∙ ap (at_placed ward b) heads.0 in
    record {
      lie = heads.1;
      make = ap (λ es. es ++ tabulated ward at bs) pushed ∙ append_assoc items (entry ∷ []) (tabulated ward at bs) ∙ ap (λ (x : PlacedEntry). items ++ x ∷ tabulated ward at bs) entry_is ∙ left.make;
    }

-- ---- figures

-- the first elements of a list, and the next element
last_taken : {X : Type 0} (xs : List X) (i : ℕ) → i < length xs → (x : X) × (take (suc i) xs ≡ take i xs ++ x ∷ [])
last_taken [] i within = absurd (omega arith)
last_taken (x ∷ xs) zero within = (x, refl)
last_taken (x ∷ xs) (suc i) within = let later = last_taken xs i (omega arith) in (later.0, ap (λ ys. x ∷ ys) later.1)

-- adding the figures of the next stage
pub figures_more : (ward : ℕ) (candidates : List ℕ) (stages : List Stage) (i stage : ℕ) (shown : List Figure) (start old new : List FigureEntry) → i < length stages → stage ≡ i + 1
    → shown ≡ figures_at candidates (reverse (take (i + 1) stages))
    → old ≡ start ++ figures_to ward candidates (reverse (take i stages)) → new ≡ old ++ map (figure_at ward stage) shown → new ≡ start ++ figures_to ward candidates (reverse (take (i + 1) stages))
figures_more ward candidates stages i stage shown start old new within number figures was pushed =
    let more : i + 1 ≡ suc i = omega arith in
    let last = last_taken stages i within in
    let before : History = reverse (take i stages) in
    let now : reverse (take (i + 1) stages) ≡ last.0 ∷ before = ap (λ n. reverse (take n stages)) more ∙ ap reverse last.1 ∙ reverse-append (take i stages) (last.0 ∷ []) in
    let count : stage ≡ length before + 1 = omega (arith, number, length-reverse (take i stages), length-take i stages, within) in
    pushed
    ∙ ap (λ es. es ++ map (figure_at ward stage) shown) was
    ∙ append_assoc start (figures_to ward candidates before) (map (figure_at ward stage) shown)
    ∙ ap (λ n. start ++ (figures_to ward candidates before ++ map (figure_at ward n) shown)) count
    ∙ ap (λ fs. start ++ (figures_to ward candidates before ++ map (figure_at ward (length before + 1)) fs)) (figures ∙ ap (figures_at candidates) now)
    ∙ ap (λ h. start ++ figures_to ward candidates h) (sym now)
