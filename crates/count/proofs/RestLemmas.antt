-- A paper's preferences, starting with the one for its holder.
use Rattle.std.proofs.Common.{◌≡◌, ℕ, ◌≤◌, ◌==◌, Bool, true, false, cond, eqb, List, [], ◌∷◌, ◌++◌, drop, refl, sym, ap, ◌∙◌, ◌||◌, append_assoc, arith, subst}
use Rattle.std.specs.List.{list_any}
use Rattle.std.proofs.lemmas.Bool.{eq-eqb}
use Rattle.paper.specs.Ranking.{IsRanking}
use Rattle.paper.specs.Standing.{from_first}
use Rattle.count.specs.Law.Places.{first_of}
use Rattle.count.specs.Inside.Holdings.{passed_to}
use Rattle.count.proofs.SumLemmas.{at_equal, at_other}

-- xs is a suffix of ys
pub record IsSuffix (xs ys : List ℕ) : Type 0 where
  pub before : List ℕ
  pub is : ys ≡ before ++ xs

pub suffix-self : (xs : List ℕ) → IsSuffix xs xs
suffix-self xs = record { before = []; is = refl }

suffix-cons : (x : ℕ) (xs ys : List ℕ) → IsSuffix xs ys → IsSuffix xs (x ∷ ys)
suffix-cons x xs ys h = record { before = x ∷ h.before; is = ap (λ zs. x ∷ zs) h.is }

suffix-trans : (xs ys zs : List ℕ) → IsSuffix xs ys → IsSuffix ys zs → IsSuffix xs zs
suffix-trans xs ys zs h k = record { before = k.before ++ h.before; is = k.is ∙ (ap (λ l. k.before ++ l) h.is ∙ sym (append_assoc k.before h.before xs)) }

suffix-drop : (xs : List ℕ) → IsSuffix (drop 1 xs) xs
suffix-drop [] = suffix-self []
suffix-drop (x ∷ xs) = suffix-cons x xs xs (suffix-self xs)

suffix-choice : (test : ℕ → Bool) (b : Bool) (x : ℕ) (xs : List ℕ) → IsSuffix (from_first test xs) xs → IsSuffix (cond b (x ∷ xs) (from_first test xs)) (x ∷ xs)
suffix-choice test true x xs h = suffix-self (x ∷ xs)
suffix-choice test false x xs h = suffix-cons x _ xs h

suffix-from_first : (test : ℕ → Bool) (xs : List ℕ) → IsSuffix (from_first test xs) xs
suffix-from_first test [] = suffix-self []
suffix-from_first test (x ∷ xs) = suffix-choice test (test x) x xs (suffix-from_first test xs)

-- the first of a suffix differs from what precedes it
before_differs : (y : ℕ) (before xs : List ℕ) → 1 ≤ y → list_any (λ z. z == y) (before ++ xs) ≡ false → y ≡ first_of xs → ⊥
before_differs y [] [] some none same = omega (arith, some, same)
before_differs y [] (x ∷ xs) some none same = let b : eqb x y ≡ true = eq-eqb x y (sym same) in cc
before_differs y (z ∷ zs) xs some none same = before_differs y zs xs some (later (eqb z y) _ none) same
  where
    later : (a b : Bool) → (a || b) ≡ false → b ≡ false
    later true b h = cc
    later false b h = h

-- in a ranking, a suffix is the list starting at the first element of that suffix
rest_again_at : (before xs : List ℕ) → IsRanking (before ++ xs) → from_first (λ d. d == first_of xs) (before ++ xs) ≡ xs
rest_again_at [] [] h = refl
rest_again_at [] (x ∷ xs) h = at_equal x x _ _ refl
rest_again_at (y ∷ before) xs h = at_other y (first_of xs) _ _ (before_differs y before xs h.0 h.2) ∙ rest_again_at before xs h.3

pub rest_again : (paper xs : List ℕ) → IsRanking paper → IsSuffix xs paper → from_first (λ d. d == first_of xs) paper ≡ xs
rest_again paper xs h s = ap (from_first (λ d. d == first_of xs)) s.is ∙ rest_again_at s.before xs (subst IsRanking s.is h)

-- a paper that is passed on has the remaining preferences
pub rest_passed : (continues : ℕ → Bool) (paper : List ℕ) (test : ℕ → Bool) → IsRanking paper →
    let left : List ℕ = passed_to continues (from_first test paper) in from_first (λ d. d == first_of left) paper ≡ left
rest_passed continues paper test h =
    rest_again paper _ h (suffix-trans _ _ _ (suffix-from_first continues (drop 1 (from_first test paper)))
    (suffix-trans _ _ _ (suffix-drop (from_first test paper)) (suffix-from_first test paper)))
