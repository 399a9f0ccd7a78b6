-- Tests on borrowed texts agree with tests on the texts themselves; comparing borrowed texts with columns.
use Rattle.std.proofs.Common.{◌≡◌, ◌||◌, ◌&&◌, ◌<◌, ◌≤◌, ◌==◌, ℕ, suc, zero, Bool, false, List, [], ◌∷◌, length, map, drop, refl, ap, Bor, arith}
use Rattle.std.specs.List.{list_all, list_any}
use Rattle.std.proofs.lemmas.Bool.{ne_eqb}
use Rattle.keyfile.specs.Keying.{are_columns}

pub list_any_map : (test : List ℕ → Bool) (texts : List (Bor (List ℕ))) → list_any test (map (λ t. t.now) texts) ≡ list_any (λ t. test t.now) texts
list_any_map test [] = refl
list_any_map test (t ∷ ts) = ap (λ b. test t.now || b) (list_any_map test ts)

pub list_all_map : (test : List ℕ → Bool) (texts : List (Bor (List ℕ))) → list_all test (map (λ t. t.now) texts) ≡ list_all (λ t. test t.now) texts
list_all_map test [] = refl
list_all_map test (t ∷ ts) = ap (λ b. test t.now && b) (list_all_map test ts)

-- if no texts are left, the next column has none,
pub are_columns-short : (texts : List (Bor (List ℕ))) (columns : List ℕ) (i : ℕ) → length texts < 1 → i < length columns → false ≡ are_columns (map (λ t. t.now) texts) (drop i columns)
are_columns-short (t ∷ ts) columns i none more = absurd (omega (arith, none))
are_columns-short [] [] i none more = absurd (omega (arith, more))
are_columns-short [] (c ∷ cs) zero none more = refl
are_columns-short [] (c ∷ cs) (suc i) none more = are_columns-short [] cs i none (omega (arith, more))

-- and if no columns are left, no texts may be left either
pub are_columns-end : (texts : List (Bor (List ℕ))) (columns : List ℕ) (i : ℕ) → length columns ≤ i → (length texts == 0) ≡ are_columns (map (λ t. t.now) texts) (drop i columns)
are_columns-end [] [] zero all = refl
are_columns-end [] [] (suc i) all = refl
are_columns-end (t ∷ ts) [] zero all = ne_eqb (length (t ∷ ts)) 0 (λ none. omega (arith, none))
are_columns-end (t ∷ ts) [] (suc i) all = ne_eqb (length (t ∷ ts)) 0 (λ none. omega (arith, none))
are_columns-end texts (c ∷ cs) zero all = absurd (omega (arith, all))
are_columns-end texts (c ∷ cs) (suc i) all = are_columns-end texts cs i (omega (arith, all))
