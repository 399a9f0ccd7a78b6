-- The keyings of a batch in a given round: each existing one is complete.
use Rattle.std.proofs.Common.{◌≡◌, ℕ, Bool, true, false, not, ◌||◌, ◌&&◌, cond, List, [], ◌∷◌, filter, refl, ap, ◌∙◌}
use Rattle.std.specs.List.{list_all}
use Rattle.std.proofs.Math.Bool.{and-true}
use Rattle.register.specs.Offices.{KeyedEntry}
use Rattle.register.specs.Agreement.{is_keyed, of_three}
use Rattle.register.specs.BatchConditions.{is_whole}

-- a condition on each element that exists
each_if : {X : Type 0} (p q : X → Bool) (xs : List X) → list_all p (filter q xs) ≡ list_all (λ x. not (q x) || p x) xs
each_if p q [] = refl
each_if {X} p q (x ∷ xs) = go (q x) (each_if p q xs)
  where
    go : (b : Bool) → list_all p (filter q xs) ≡ list_all (λ y. not (q y) || p y) xs → list_all p (cond b (x ∷ filter q xs) (filter q xs)) ≡ ((not b || p x) && list_all (λ y. not (q y) || p y) xs)
    go true later = ap (λ r. p x && r) later
    go false later = later

-- each of three keyings is complete if it exists
pub whole_if_keyed : (size : ℕ) (first second third : List KeyedEntry)
    → list_all (is_whole size) (of_three first second third) ≡ ((not (is_keyed first) || is_whole size first)
    && ((not (is_keyed second) || is_whole size second) && (not (is_keyed third) || is_whole size third)))
whole_if_keyed size first second third = each_if (is_whole size) is_keyed (first ∷ second ∷ third ∷ []) ∙ rw and-true refl
