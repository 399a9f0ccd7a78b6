-- The letters that bytes select.
use Rattle.std.proofs.Common.{◌≡◌, ◌∙◌, ◌+◌, ◌-◌, ◌<◌, ◌≤◌, ◌∷◌, ◌%◌, Bool, true, false, EachIndex, List, [], None, Option}
use Rattle.std.proofs.Common.{Some, ap, arith, drop, if◌then◌else◌, length, length-drop, length-take, min, nat_lt, refl, subst, sym, take, ℕ}
use Rattle.std.specs.Prelude.{slice_index}
use Rattle.std.specs.List.{cons_option, list_all}
use Rattle.std.proofs.lemmas.Bool.{and_from}
use Rattle.std.proofs.lemmas.Bool.Decides.{nat_tests}
use Rattle.std.proofs.lemmas.List.{get_or-drop, get_or-take}
use Rattle.std.proofs.lemmas.List.Sums.{AllPass-from_list_all}
use Rattle.codes.specs.Making.{letter_of, letters, letters_drawn}

-- whether a byte is ASCII
abbrev pub is_ascii : ℕ → Bool
is_ascii byte = nat_lt byte 128

ascii_at : (xs : List ℕ) → list_all is_ascii xs ≡ true → (k : ℕ) → k < length xs → is_ascii (slice_index xs k) ≡ true
ascii_at xs all k there = AllPass-from_list_all is_ascii xs all k 0 there

letter_ascii : (i : ℕ) → i < 24 → is_ascii (slice_index letters i) ≡ true
letter_ascii i there = ascii_at letters refl i there

letter_then : (draws : Bool) (letter : ℕ) (xs : List ℕ) → is_ascii letter ≡ true → list_all is_ascii xs ≡ true
    → list_all is_ascii (cons_option (if draws then Some letter else None) xs) ≡ true
letter_then true letter xs one all = and_from (is_ascii letter) (list_all is_ascii xs) one all
letter_then false letter xs one all = all

drawn_ascii : (bytes : List ℕ) → list_all is_ascii (letters_drawn bytes) ≡ true
drawn_ascii [] = refl
drawn_ascii (byte ∷ bytes) =
    let there : byte % 24 < 24 = omega arith in
    letter_then (nat_lt byte 240) (slice_index letters (byte % 24)) (letters_drawn bytes) (letter_ascii (byte % 24) there) (drawn_ascii bytes)

below_128 : (byte : ℕ) → is_ascii byte ≡ true → byte < 128
below_128 byte is = grind (arith, nat_tests)

-- all letters that are drawn are ASCII
pub each_ascii : (bytes xs : List ℕ) → xs ≡ letters_drawn bytes → EachIndex xs (λ k. slice_index xs k < 128)
each_ascii bytes xs same k there =
    below_128 (slice_index xs k) (ascii_at xs (ap (λ (ls : List ℕ). list_all is_ascii ls) same ∙ drawn_ascii bytes) k there)

at_most_one : (drawn : Option ℕ) → length (cons_option drawn []) ≤ 1
at_most_one None = omega arith
at_most_one (Some letter) = omega arith

-- a byte selects at most one letter
pub one_letter : (byte : ℕ) → length (letters_drawn (byte ∷ [])) ≤ 1
one_letter byte = at_most_one (letter_of byte)

-- ---- some of the letters

pub each_take : (n : ℕ) (xs : List ℕ) → EachIndex xs (λ k. slice_index xs k < 128) → EachIndex (take n xs) (λ k. slice_index (take n xs) k < 128)
each_take n xs each k there =
    let long : length (take n xs) ≡ min n (length xs) = length-take n xs in
    let within : k < n = omega (arith, long, there) in
    let before : k < length xs = omega (arith, long, there) in
    let is : slice_index xs k < 128 = each k before in
    subst (λ b. b < 128) (sym (get_or-take n xs k 0 within)) is

pub each_drop : (n : ℕ) (xs : List ℕ) → EachIndex xs (λ k. slice_index xs k < 128) → EachIndex (drop n xs) (λ k. slice_index (drop n xs) k < 128)
each_drop n xs each k there =
    let long : length (drop n xs) ≡ length xs - n = length-drop n xs in
    let behind : n + k < length xs = omega (arith, long, there) in
    let is : slice_index xs (n + k) < 128 = each (n + k) behind in
    subst (λ b. b < 128) (sym (get_or-drop n xs k 0)) is
