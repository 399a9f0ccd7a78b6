-- Numbers written as plain decimal digits, each with exactly one spelling.
use Rattle.std.specs.Prelude.{ℕ, Bool, false, not, ◌&&◌, ◌==◌, nat_le, if◌then◌else◌, List, [], ◌∷◌, length, Option, Some, None}
use Rattle.std.specs.List.{list_all}
use Rattle.std.specs.Char.{is_ascii_digit}
use Rattle.std.specs.Str.Parse.{digits_value}

-- the maximum number of digits
abbrev pub most_digits : ℕ
most_digits = 5

-- 1 to 5 digits, the first of which isn't 0
abbrev pub is_plain : List ℕ → Bool
is_plain [] = false
is_plain (b ∷ bs) = not (b == 48) && (nat_le (length (b ∷ bs)) most_digits && list_all is_ascii_digit (b ∷ bs))

-- the number represented by a text of plain digits
abbrev pub plain_number_in : List ℕ → Option ℕ
plain_number_in text = if is_plain text then Some (digits_value 10 text) else None
