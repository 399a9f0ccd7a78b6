-- Digits, and the number that they represent.
use Rattle.std.proofs.Common.{◌≡◌, ℕ, ◌+◌, ◌*◌, ◌-◌, ◌<◌, ◌≤◌, Bool, true, false, ◌&&◌, cond, nat_le, List, [], ◌∷◌, Option, Some, None, refl, sym, ap, ◌∙◌, arith, inl, inr}
use Rattle.std.specs.Char.{digit_value, is_ascii_digit}
use Rattle.std.specs.Str.{all_ascii_digits}
use Rattle.std.specs.Str.Parse.{digits_value_after}
use Rattle.std.proofs.lemmas.Bool.{and_parts, leb-true}
use Rattle.std.proofs.lemmas.Bool.Decides.{leb_tells, nat_tests}
use Rattle.std.proofs.lemmas.Str.{digit_value_digit}
use Rattle.register.specs.Ranges.{is_between}

-- appending a digit never makes a number smaller
grows : (n : ℕ) (ds : List ℕ) → n ≤ digits_value_after 10 n ds
grows n [] = omega arith
grows n (d ∷ ds) = let later = grows (n * 10 + digit_value d) ds in omega (arith, later)

-- once the number is too large, no further digits make it small enough
too_big : (most n : ℕ) (ds : List ℕ) (b : Bool) → most < n → None ≡ cond (b && nat_le (digits_value_after 10 n ds) most) (Some (digits_value_after 10 n ds)) None
too_big most n ds false past = refl
too_big most n ds true past = elim (leb_tells (digits_value_after 10 n ds) most) [
  | inl low ↦ let it = grows n ds in absurd (omega (arith, it, low.1, past))
  | inr high ↦ rw high.0 refl
]

-- the result of reading further digits, given the number read so far
abbrev pub up_to : ℕ → ℕ → List ℕ → Option ℕ
up_to most n ds = cond (all_ascii_digits ds && nat_le (digits_value_after 10 n ds) most) (Some (digits_value_after 10 n ds)) None

-- reading one digit
pub up_to-digit : (most n d : ℕ) (ds : List ℕ) → is_ascii_digit d ≡ true → up_to most n (d ∷ ds) ≡ up_to most (n * 10 + (d - 48)) ds
up_to-digit most n d ds digit =
    let low = leb-true 48 d (and_parts (nat_le 48 d) (nat_le d 57) digit).0 in
    let high = leb-true d 57 (and_parts (nat_le 48 d) (nat_le d 57) digit).1 in
    let value = digit_value_digit d (omega (arith, low), omega (arith, high)) in
    let same : digit_value d ≡ d - 48 = omega (arith, value) in
    let later : ℕ = digits_value_after 10 (n * 10 + digit_value d) ds in
    ap (λ (b : Bool). cond ((b && all_ascii_digits ds) && nat_le later most) (Some later) None) digit ∙ ap (λ (v : ℕ). up_to most (n * 10 + v) ds) same

-- once the number is too large, the result is `None`
pub up_to-past : (most n : ℕ) (ds : List ℕ) → most < n → up_to most n ds ≡ None
up_to-past most n ds past = sym (too_big most n ds (all_ascii_digits ds) past)

-- reading stops at a byte that isn't a digit
pub up_to-other : (most n d : ℕ) (ds : List ℕ) → is_ascii_digit d ≡ false → up_to most n (d ∷ ds) ≡ None
up_to-other most n d ds other = rw other refl

-- no digits remain
pub up_to-end : (most n : ℕ) → n ≤ most → up_to most n [] ≡ Some n
up_to-end most n within = grind (arith, nat_tests)

pub within : (b : Bool) (low high value n : ℕ) → Some n ≡ cond (b && nat_le value high) (Some value) None → nat_le low n ≡ (b && is_between low high value)
within false low high value n is = cc
within true low high value n is = elim (leb_tells value high) [
  | inl below ↦ let same : Some n ≡ Some value = rw below.0 at is in let it : n ≡ value = cc in rw (it, below.0) (go (nat_le low value))
  | inr above ↦ absurd (let e : Some n ≡ None = rw above.0 at is in cc)
]
  where
    go : (c : Bool) → c ≡ (c && true)
    go true = refl
    go false = refl

pub without : (b : Bool) (low high value : ℕ) → None ≡ cond (b && nat_le value high) (Some value) None → false ≡ (b && is_between low high value)
without false low high value is = refl
without true low high value is = elim (leb_tells value high) [
  | inl below ↦ absurd (let e : None ≡ Some value = rw below.0 at is in cc)
  | inr above ↦ rw above.0 (go (nat_le low value))
]
  where
    go : (c : Bool) → false ≡ (c && false)
    go true = refl
    go false = refl
