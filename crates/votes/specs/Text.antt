-- Votes as text, and why the text is exact.
use Rattle.std.specs.Prelude.{◌≡◌, ℕ, ◌+◌, ◌/◌, ◌%◌, List, [], ◌∷◌, ◌++◌, drop, decimal}
use Rattle.std.specs.Str.Parse.{digits_value}

-- the last digit of a number
abbrev pub last_digit : ℕ → ℕ
last_digit n = 48 + n % 10

-- a decimal point and five digits, for the fraction of a vote
abbrev pub fraction_text : ℕ → List ℕ
fraction_text units =
    46 ∷ last_digit (units / 10000) ∷ last_digit (units / 1000) ∷ last_digit (units / 100) ∷ last_digit (units / 10) ∷ last_digit units ∷ []

-- votes as text: the whole votes without leading zeros, a decimal point, and five digits
abbrev pub votes_text : ℕ → List ℕ
votes_text units = decimal (units / 100000) ++ fraction_text units

-- the text is exact: without the decimal point, its digits are the number of units
abbrev pub TellsUnits : ℕ → Type 0
TellsUnits units = digits_value 10 (decimal (units / 100000) ++ drop 1 (fraction_text units)) ≡ units
