-- Sums that are equal, or zero.
use Rattle.std.proofs.Common.{◌≡◌, ℕ, ◌+◌, ◌*◌, Bool, true, false, cond, eqb, List, [], ◌∷◌, length, refl, ap, arith}
use Rattle.std.specs.List.{sum_by}
use Rattle.paper.specs.Ranking.{IsRanking}
use Rattle.count.specs.Books.{AreRankings}
use Rattle.std.proofs.lemmas.List.Sums.{sum_by-cons}
use Rattle.std.proofs.lemmas.Bool.{eq-eqb, eqb-true}

-- functions that are equal on each element have equal sums
pub sum_by-same : {X : Type 0} (f g : X → ℕ) (xs : List X) → ((x : X) → f x ≡ g x) → sum_by f xs ≡ sum_by g xs
sum_by-same f g [] h = refl
sum_by-same f g (x ∷ xs) h = omega (arith, sum_by-cons f x xs, sum_by-cons g x xs, h x, sum_by-same f g xs h)

pub sum_by-add : {X : Type 0} (f g : X → ℕ) (xs : List X) → sum_by (λ x. f x + g x) xs ≡ sum_by f xs + sum_by g xs
sum_by-add f g [] = refl
sum_by-add f g (x ∷ xs) = omega (arith, sum_by-cons f x xs, sum_by-cons g x xs, sum_by-cons (λ y. f y + g y) x xs, sum_by-add f g xs)

pub sum_by-none : {X : Type 0} (f : X → ℕ) (xs : List X) → ((x : X) → f x ≡ 0) → sum_by f xs ≡ 0
sum_by-none f [] h = refl
sum_by-none f (x ∷ xs) h = omega (arith, sum_by-cons f x xs, h x, sum_by-none f xs h)

-- the choice made by an equality test
pub at_equal : {X : Type 0} (a b : ℕ) (x y : X) → a ≡ b → cond (eqb a b) x y ≡ x
at_equal a b x y h = ap (λ t. cond t x y) (eq-eqb a b h)

pub eqb_not : (a b : ℕ) (t : Bool) → eqb a b ≡ t → (a ≡ b → ⊥) → t ≡ false
eqb_not a b true h differ = absurd (differ (eqb-true a b h))
eqb_not a b false h differ = refl

pub at_other : {X : Type 0} (a b : ℕ) (x y : X) → (a ≡ b → ⊥) → cond (eqb a b) x y ≡ y
at_other a b x y differ = ap (λ t. cond t x y) (eqb_not a b (eqb a b) refl differ)

pub sum_by-constant : {X : Type 0} (n : ℕ) (xs : List X) → sum_by (λ (x : X). n) xs ≡ n * length xs
sum_by-constant n [] = omega arith
sum_by-constant n (x ∷ xs) = omega (arith, sum_by-cons (λ x. n) x xs, sum_by-constant n xs)

-- functions that are equal on rankings have equal sums over the papers
pub sum-rankings : (papers : List (List ℕ)) → AreRankings papers → (g h : List ℕ → ℕ) → ((p : List ℕ) → IsRanking p → g p ≡ h p) → sum_by g papers ≡ sum_by h papers
sum-rankings [] r g h e = refl
sum-rankings (p ∷ ps) r g h e = omega (arith, sum_by-cons g p ps, sum_by-cons h p ps, e p r.0, sum-rankings ps r.1 g h e)
