-- A number in a target.
use Rattle.std.specs.Prelude.{◌&&◌, ◌∷◌, ◌==◌, Bool, List, [], Option, Some, None, false, if◌then◌else◌, length, nat_le, not, ℕ}
use Rattle.std.specs.Char.{is_ascii_digit}
use Rattle.std.specs.List.{list_all}
use Rattle.std.specs.Str.Parse.{digits_value}

-- the maximum number of digits
abbrev pub most_digits : ℕ
most_digits = 5

-- 1 to 5 digits, without leading zeros
abbrev pub is_number : List ℕ → Bool
is_number [] = false
is_number (b ∷ bs) = not (b == 48) && (nat_le (length (b ∷ bs)) most_digits && list_all is_ascii_digit (b ∷ bs))

-- the number that a text denotes, if it is one
abbrev pub number_in : List ℕ → Option ℕ
number_in text = if is_number text then Some (digits_value 10 text) else None
