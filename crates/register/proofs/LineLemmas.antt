-- Plain numbers and lines, as they occur in receipts.
use Rattle.std.proofs.Common.{rules, ◌==◌, inl, inr, ◌≡◌, ℕ, ◌<◌, ◌≤◌, ◌+◌, ◌^◌, nat_le, nat_lt, ◌&&◌, true, false, not, List, [], ◌∷◌, ◌++◌, length, take, drop, ap, ◌∙◌, arith}
use Rattle.std.proofs.Common.{length-append, get_or, refl}
use Rattle.std.specs.List.{list_all, position_or_len}
use Rattle.std.specs.Fmt.{decimal}
use Rattle.std.specs.Str.{IsAscii, all_ascii_digits, is_utf8}
use Rattle.std.specs.Str.Parse.{digits_value}
use Rattle.std.proofs.Math.Seq.{take-append_seam, drop-append-add}
use Rattle.std.proofs.lemmas.Bool.{and_parts, and_from, leb-true, le-leb, ltb-true}
use Rattle.std.proofs.lemmas.Str.Ascii.{IsAscii-nil, IsAscii-cons}
use Rattle.std.proofs.lemmas.Bool.Decides.{eqb_tells}
use Rattle.std.proofs.lemmas.Fmt.{decimal_is_IsNumeral, digits_decimal, first_decimal, length-decimal-le, IsAscii-decimal}
use Rattle.std.proofs.lemmas.List.Folds.{list_all-append}
use Rattle.std.proofs.lemmas.Str.{IsAscii-append, IsUtf8-from_ascii, is_utf8-from_IsUtf8}
use Rattle.std.proofs.lemmas.Str.Parse.{IsNumeralModel, numerals_by_value}
use Rattle.register.specs.Ranges.{is_between, is_line_byte, is_reply}
use Rattle.register.specs.Subjects.{is_space, is_plain_number, are_plain_numbers}

own : IsNumeralModel (λ ds. all_ascii_digits ds ≡ true) (digits_value 10)
own = numerals_by_value _ (search rules)

-- a number in a range is between the ends of the range
pub lower : (low high n : ℕ) → is_between low high n ≡ true → low ≤ n
lower low high n h = leb-true low n (and_parts (nat_le low n) (nat_le n high) h).0

pub upper : (low high n : ℕ) → is_between low high n ≡ true → n ≤ high
upper low high n h = leb-true n high (and_parts (nat_le low n) (nat_le n high) h).1

small : (low high n : ℕ) → high < 2 ^ 64 → is_between low high n ≡ true → n < 2 ^ 64
small low high n below h = omega (arith, upper low high n h, below)

pub not_equal : (a b : ℕ) → b < a → (a == b) ≡ false
not_equal a b above = elim (eqb_tells a b) [ inl same ↦ absurd (omega (arith, same.1, above)) | inr other ↦ other.0 ]

-- if the range contains only positive numbers, the decimal text of a number in it is plain
pub is_plain-from : (low high n : ℕ) → 1 ≤ low → high < 2 ^ 64 → is_between low high n ≡ true → is_plain_number low high (decimal n) ≡ true
unfolding is_plain_number
is_plain-from low high n some below h =
    let fits = small low high n below h in
    let least = lower low high n h in
    let value = (decimal_is_IsNumeral n fits).1 in
    let first = first_decimal n (omega (arith, least, some)) fits in
    let differs = not_equal (get_or (decimal n) 0 0) 48 first in
    and_from _ _ (ap not differs) (and_from _ _ (digits_decimal own n fits) (rw value h))

pub is_plain-decimal : (high n : ℕ) → high < 2 ^ 64 → is_between 1 high n ≡ true → is_plain_number 1 high (decimal n) ≡ true
is_plain-decimal high n below h = is_plain-from 1 high n (omega arith) below h

-- the first space is the one that follows the digits
first_space : (ds t : List ℕ) → all_ascii_digits ds ≡ true → position_or_len is_space (ds ++ (32 ∷ t)) ≡ length ds
first_space [] t h = refl
first_space (d ∷ ds) t h =
    let low = lower 48 57 d (and_parts (is_between 48 57 d) (all_ascii_digits ds) h).0 in
    let later = first_space ds t (and_parts (is_between 48 57 d) (all_ascii_digits ds) h).1 in
    rw (not_equal d 32 (omega (arith, low))) (omega (arith, later))

-- the text of two such numbers, separated by a space, is that of two plain numbers
pub are_plain-from : (high least most m n : ℕ) → 1 ≤ least → high < 2 ^ 64 → most < 2 ^ 64 → is_between 1 high m ≡ true → is_between least most n ≡ true
    → are_plain_numbers 1 high least most (decimal m ++ (32 ∷ decimal n)) ≡ true
are_plain-from high least most m n some below low first second =
    let place = first_space (decimal m) (decimal n) (digits_decimal own m (small 1 high m below first)) in
    let before : take (position_or_len is_space (decimal m ++ (32 ∷ decimal n))) (decimal m ++ (32 ∷ decimal n)) ≡ decimal m = rw place (take-append_seam (decimal m) (32 ∷ decimal n)) in
    let after : drop (position_or_len is_space (decimal m ++ (32 ∷ decimal n)) + 1) (decimal m ++ (32 ∷ decimal n)) ≡ decimal n = rw place (drop-append-add (decimal m) (32 ∷ decimal n) 1) in
    and_from _ _ (ap (is_plain_number 1 high) before ∙ is_plain-decimal high m below first) (ap (is_plain_number least most) after ∙ is_plain-from least most n some low second)

pub are_plain-decimals : (high most m n : ℕ) → high < 2 ^ 64 → most < 2 ^ 64 → is_between 1 high m ≡ true → is_between 1 most n ≡ true
    → are_plain_numbers 1 high 1 most (decimal m ++ (32 ∷ decimal n)) ≡ true
are_plain-decimals high most m n below low first second = are_plain-from high 1 most m n (omega arith) below low first second

-- ---- lines

-- at most k ASCII bytes without a newline
pub record IsLine (k : ℕ) (t : List ℕ) : Type 0 where
  pub ascii : IsAscii t
  pub short : length t ≤ k
  pub plain : list_all is_line_byte t ≡ true

-- a fixed text is a line
pub words : (t : List ℕ) → IsAscii t → list_all is_line_byte t ≡ true → IsLine (length t) t
words t ascii plain = record { ascii = ascii; short = omega arith; plain = plain }

-- a fixed text is a line if each of its bytes passes the test
pub given : (t : List ℕ) → list_all (λ b. nat_lt b 128 && is_line_byte b) t ≡ true → IsLine (length t) t
given t good = words t (low t good) (list_all_parts t good)
  where
    low : (bs : List ℕ) → list_all (λ b. nat_lt b 128 && is_line_byte b) bs ≡ true → IsAscii bs
    low [] each = IsAscii-nil
    low (b ∷ bs) each =
        let parts = and_parts (nat_lt b 128 && is_line_byte b) (list_all (λ c. nat_lt c 128 && is_line_byte c) bs) each in
        IsAscii-cons b bs (ltb-true b 128 (and_parts (nat_lt b 128) (is_line_byte b) parts.0).0) (low bs parts.1)

    list_all_parts : (bs : List ℕ) → list_all (λ b. nat_lt b 128 && is_line_byte b) bs ≡ true → list_all is_line_byte bs ≡ true
    list_all_parts [] each = refl
    list_all_parts (b ∷ bs) each =
        let parts = and_parts (nat_lt b 128 && is_line_byte b) (list_all (λ c. nat_lt c 128 && is_line_byte c) bs) each in
        and_from _ _ (and_parts (nat_lt b 128) (is_line_byte b) parts.0).1 (list_all_parts bs parts.1)

-- a line followed by another line is a line
pub line_append : {j k : ℕ} {s t : List ℕ} → IsLine j s → IsLine k t → IsLine (j + k) (s ++ t)
line_append {j} {k} {s} {t} first second = record {
  ascii = IsAscii-append s t first.ascii second.ascii;
  short = let a = first.short in let b = second.short in omega (arith, length-append s t, a, b);
  plain = list_all-append is_line_byte s t ∙ and_from _ _ first.plain second.plain;
}

digits_plain : (ds : List ℕ) → all_ascii_digits ds ≡ true → list_all is_line_byte ds ≡ true
digits_plain [] h = refl
digits_plain (d ∷ ds) h =
    let low = lower 48 57 d (and_parts (is_between 48 57 d) (all_ascii_digits ds) h).0 in
    and_from _ _ (ap not (not_equal d 10 (omega (arith, low)))) (digits_plain ds (and_parts (is_between 48 57 d) (all_ascii_digits ds) h).1)

-- a number of at most k digits is a line
pub line_decimal : (k n : ℕ) → 0 < k → n < 10 ^ k → n < 2 ^ 64 → IsLine k (decimal n)
line_decimal k n some below fits = record { ascii = IsAscii-decimal n fits; short = length-decimal-le k n some below fits; plain = digits_plain (decimal n) (digits_decimal own n fits) }

-- a number in a range has at most ten digits
pub line_number : (high n : ℕ) → high < 2 ^ 32 → is_between 1 high n ≡ true → IsLine 10 (decimal n)
line_number high n below h =
    let most = upper 1 high n h in
    line_decimal 10 n (omega arith) (omega (arith, most, below)) (omega (arith, most, below))

-- a line of up to j bytes is a line of up to k bytes, if j is at most k
pub line_within : {j k : ℕ} {t : List ℕ} → IsLine j t → j ≤ k → IsLine k t
line_within {j} {k} {t} line low = record { ascii = line.ascii; short = (let short = line.short in omega (arith, short, low)); plain = line.plain }

-- a line is valid UTF-8
pub line_text : {k : ℕ} {t : List ℕ} → IsLine k t → is_utf8 t ≡ true
line_text {k} {t} line = is_utf8-from_IsUtf8 t (IsUtf8-from_ascii t line.ascii)

-- a line of up to 200 bytes is a reply
pub line_reply : {k : ℕ} {t : List ℕ} → IsLine k t → k ≤ 200 → is_reply t ≡ true
unfolding is_reply
line_reply {k} {t} line low =
    let short = line.short in
    and_from _ _ (line_text line) (and_from _ _ (le-leb (length t) 200 (omega (arith, short, low))) line.plain)
