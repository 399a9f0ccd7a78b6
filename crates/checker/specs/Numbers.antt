-- Words that are numbers.
use Rattle.std.specs.Prelude.{ℕ, ◌+◌, ◌-◌, ◌*◌, ◌==◌, ◌||◌, nat_le, nat_lt, if◌then◌else◌, [], ◌∷◌, Result, Ok, Err}
use Rattle.std.specs.Char.{is_ascii_digit}
use Rattle.checker.specs.Outcomes.{and_then}
use Rattle.checker.specs.Tokens.{Text}
use Rattle.checker.specs.declared.problem.BallotsFlaw.{BallotsFlaw}
use Rattle.checker.specs.declared.problem.BallotsFlaw.TheVariants.{NotNumber, TooLarge, NoSuchCandidate}

-- a number if it is in range
abbrev pub in_range : ℕ → ℕ → Result ℕ BallotsFlaw
in_range most number = if nat_le number most then Ok number else Err TooLarge

-- a number with another digit
abbrev pub with_digit : ℕ → ℕ → ℕ → Result ℕ BallotsFlaw
with_digit most number byte = if is_ascii_digit byte then in_range most (number * 10 + (byte - 48)) else Err NotNumber

-- a number followed by more digits
abbrev pub number_from : ℕ → ℕ → Text → Result ℕ BallotsFlaw
number_from most number [] = Ok number
number_from most number (byte ∷ bytes) = and_then (with_digit most number byte) (λ more. number_from most more bytes)

-- the number in a word of digits, if it is at most the given maximum
abbrev pub number_in : ℕ → Text → Result ℕ BallotsFlaw
number_in most [] = Err NotNumber
number_in most (byte ∷ bytes) = number_from most 0 (byte ∷ bytes)

-- the candidate with the given number, if there is one
abbrev pub candidate_of : ℕ → ℕ → Result ℕ BallotsFlaw
candidate_of highest number = if number == 0 || nat_lt highest number then Err NoSuchCandidate else Ok number

-- the candidate whose number is in the given word
abbrev pub candidate_in : ℕ → Text → Result ℕ BallotsFlaw
candidate_in highest word = and_then (number_in 255 word) (candidate_of highest)
