-- The numbers that digits denote.
use Rattle.std.proofs.Common.{◌≡◌, ◌∙◌, ◌<◌, ◌≤◌, ◌+◌, ◌*◌, ◌-◌, ◌∷◌, ◌&&◌, zero, suc, ℕ, true, List, [], length, get_or, Result, refl, sym, ap, min, take, arith}
use Rattle.std.specs.Prelude.{IsUtf8, slice_get, unwrap_or}
use Rattle.std.specs.Char.{digit_value, is_ascii_digit}
use Rattle.std.specs.List.{list_all}
use Rattle.std.specs.Int.{IsInRange}
use Rattle.std.specs.Result.{result_ok}
use Rattle.std.specs.Str.{all_ascii_digits}
use Rattle.std.specs.Str.Parse.{ParsesUnsigned, digits_value}
use Rattle.std.proofs.lemmas.Bool.{and_parts, le-leb, ne_eqb}
use Rattle.std.proofs.lemmas.Bool.Decides.{nat_tests}
use Rattle.std.proofs.lemmas.List.{take_more}
use Rattle.std.proofs.lemmas.Str.{IsUtf8-from_ascii, digit_value_digit}
use Rattle.std.proofs.lemmas.Str.Ascii.{IsAscii-from_all}
use Rattle.httparse.proofs.ChunkLemmas.{digits_value_after_push}
use Rattle.std.proofs.lemmas.Str.Parse.{digits_value_short, numerals_by_value, parse_gives, tells_all_ascii_digits}
use Rattle.wire.specs.Numbers.{number_in}

all_digits : (ds : List ℕ) → list_all is_ascii_digit ds ≡ all_ascii_digits ds
all_digits [] = refl
all_digits (d ∷ ds) = ap (λ b. is_ascii_digit d && b) (all_digits ds)

-- up to five digits are parsed as the number that they denote
pub number_read : {E : Type 0} (text : List ℕ) (r : Result ℕ E) → (unwrap_or (slice_get text 0) 48 ≡ 48 → ⊥) → length text ≤ 5 → list_all is_ascii_digit text ≡ true
    → ParsesUnsigned 32 10 text r → result_ok r ≡ number_in text
number_read [] r front few digits parses = absurd (front refl)
number_read (b ∷ bs) r front few digits parses =
    let own = numerals_by_value (λ ds. all_ascii_digits ds ≡ true) tells_all_ascii_digits in
    let all : all_ascii_digits (b ∷ bs) ≡ true = sym (all_digits (b ∷ bs)) ∙ digits in
    let short = digits_value_short own (b ∷ bs) 5 all few in
    let is = parse_gives own 32 (b ∷ bs) r parses all (omega arith) (omega (arith, short)) in
    rw (is, ne_eqb b 48 front, le-leb (length (b ∷ bs)) 5 few, digits) refl

-- ---- digits are valid text

below : (d : ℕ) → is_ascii_digit d ≡ true → d < 128
below d is = grind (arith, nat_tests)

digits-below : (ds : List ℕ) → list_all is_ascii_digit ds ≡ true → (i d : ℕ) → i < length ds → get_or ds i d < 128
digits-below [] all i d there = absurd (omega (arith, there))
digits-below (b ∷ bs) all zero d there = below b (and_parts (is_ascii_digit b) (list_all is_ascii_digit bs) all).0
digits-below (b ∷ bs) all (suc i) d there = digits-below bs (and_parts (is_ascii_digit b) (list_all is_ascii_digit bs) all).1 i d (omega (arith, there))

pub digits-utf8 : (ds : List ℕ) → list_all is_ascii_digit ds ≡ true → IsUtf8 ds
digits-utf8 ds all = IsUtf8-from_ascii ds (IsAscii-from_all ds (digits-below ds all))

-- ---- a number that may be large

is_digit : (d : ℕ) → is_ascii_digit d ≡ true → IsInRange 48 57 d
is_digit d is = grind (arith, nat_tests)

-- a digit in a text of digits
pub digit_at : (ds : List ℕ) (i : ℕ) → i < length ds → list_all is_ascii_digit ds ≡ true → IsInRange 48 57 (get_or ds i 0)
digit_at [] i there all = absurd (omega arith)
digit_at (d ∷ ds) zero there all = is_digit d (and_parts (is_ascii_digit d) (list_all is_ascii_digit ds) all).0
digit_at (d ∷ ds) (suc i) there all = digit_at ds i (omega arith) (and_parts (is_ascii_digit d) (list_all is_ascii_digit ds) all).1

-- the capped value after another digit
pub value_more : (ds : List ℕ) (i value most digit : ℕ) → i < length ds → list_all is_ascii_digit ds ≡ true → digit ≡ get_or ds i 0 → value ≡ min (digits_value 10 (take i ds)) most
    → min (10 * value + (digit - 48)) most ≡ min (digits_value 10 (take (i + 1) ds)) most
value_more ds i value most digit there all is so_far =
    let d = digit_at ds i there all in
    let own = digit_value_digit (get_or ds i 0) d in
    let more : digits_value 10 (take (i + 1) ds) ≡ digits_value 10 (take i ds) * 10 + digit_value (get_or ds i 0) =
    ap (digits_value 10) (take_more ds i 0 there) ∙ digits_value_after_push 10 0 (take i ds) (get_or ds i 0) in
    omega arith
