-- The numbers that digit strings represent.
use Rattle.std.proofs.Common.{◌≡◌, ◌∙◌, ◌≤◌, ◌∷◌, ◌&&◌, ℕ, true, List, [], length, Result, refl, sym, ap, arith}
use Rattle.std.specs.Prelude.{slice_get, unwrap_or}
use Rattle.std.specs.Char.{is_ascii_digit}
use Rattle.std.specs.List.{list_all}
use Rattle.std.specs.Result.{result_ok}
use Rattle.std.specs.Str.{all_ascii_digits}
use Rattle.std.specs.Str.Parse.{ParsesUnsigned}
use Rattle.std.proofs.lemmas.Bool.{le-leb, ne_eqb}
use Rattle.std.proofs.lemmas.Str.Parse.{digits_value_short, numerals_by_value, parse_gives, tells_all_ascii_digits}
use Rattle.paper.specs.Digits.{plain_number_in}

all_digits : (ds : List ℕ) → list_all is_ascii_digit ds ≡ all_ascii_digits ds
all_digits [] = refl
all_digits (d ∷ ds) = ap (λ b. is_ascii_digit d && b) (all_digits ds)

-- up to five digits are parsed as the number that they represent
pub number_read : {E : Type 0} (text : List ℕ) (r : Result ℕ E) → (unwrap_or (slice_get text 0) 48 ≡ 48 → ⊥) → length text ≤ 5 → list_all is_ascii_digit text ≡ true
    → ParsesUnsigned 32 10 text r → result_ok r ≡ plain_number_in text
number_read [] r front few digits parses = absurd (front refl)
number_read (b ∷ bs) r front few digits parses =
    let own = numerals_by_value (λ ds. all_ascii_digits ds ≡ true) tells_all_ascii_digits in
    let all : all_ascii_digits (b ∷ bs) ≡ true = sym (all_digits (b ∷ bs)) ∙ digits in
    let short = digits_value_short own (b ∷ bs) 5 all few in
    let is = parse_gives own 32 (b ∷ bs) r parses all (omega arith) (omega (arith, short)) in
    rw (is, ne_eqb b 48 front, le-leb (length (b ∷ bs)) 5 few, digits) refl
