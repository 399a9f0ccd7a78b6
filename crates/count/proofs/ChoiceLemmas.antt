-- Connectives of truth values.
use Rattle.std.proofs.Common.{◌≡◌, ℕ, ◌≤◌, ◌||◌, ◌&&◌, Bool, true, false, not, cond, eqb, refl, sym, ap, arith}
use Rattle.std.proofs.lemmas.Bool.{eq-eqb, eqb-true}

-- what a conjunction or disjunction of tests implies for each of them
pub or_later : (a b : Bool) → b ≡ true → (a || b) ≡ true
or_later true b h = refl
or_later false b h = h

pub or_false : (a b : Bool) → (a || b) ≡ false → (a ≡ false) × (b ≡ false)
or_false true b h = cc
or_false false b h = (refl, h)

pub and_true : (a b : Bool) → (a && b) ≡ true → (a ≡ true) × (b ≡ true)
and_true true b h = (refl, h)
and_true false b h = cc

pub not_true : (a : Bool) → not a ≡ true → a ≡ false
not_true true h = cc
not_true false h = refl

pub either_or : (a b x y : Bool) → (a ≡ true → x ≡ true) → (b ≡ true → y ≡ true) → (a || b) ≡ true → (x || y) ≡ true
either_or true b x y h k o = ap (λ z. z || y) (h refl)
either_or false b true y h k o = refl
either_or false b false y h k o = k o

-- either a value or 0 is at most the value
pub within_value : (b : Bool) (v : ℕ) → cond b v 0 ≤ v
within_value true v = omega arith
within_value false v = omega arith

swap_choice : (a b : ℕ) (t u : Bool) → eqb a b ≡ t → eqb b a ≡ u → t ≡ u
swap_choice a b true true e f = refl
swap_choice a b true false e f = let k = eq-eqb b a (sym (eqb-true a b e)) in cc
swap_choice a b false true e f = let k = eq-eqb a b (sym (eqb-true b a f)) in cc
swap_choice a b false false e f = refl

-- equality of numbers is symmetric
pub eqb_swap : (a b : ℕ) → eqb a b ≡ eqb b a
eqb_swap a b = swap_choice a b _ _ refl refl
