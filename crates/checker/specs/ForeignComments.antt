-- Comments that are ignored, and those that are rejected because a reader would take them for ours.
use Rattle.std.specs.Prelude.{◌==◌, ◌||◌, Bool, if◌then◌else◌, [], ◌∷◌, Result, Ok, Err, codes}
use Rattle.std.specs.Char.{is_ascii_alphabetic, is_ascii_alphanumeric}
use Rattle.std.specs.Str.{str_eq_ignore_ascii_case}
use Rattle.checker.specs.Tokens.{Text}
use Rattle.checker.specs.declared.problem.BallotsFlaw.{BallotsFlaw}
use Rattle.checker.specs.declared.problem.BallotsFlaw.TheVariants.{Astray}

-- a text starting at its first letter or digit
abbrev pub after_signs : Text → Text
after_signs [] = []
after_signs (byte ∷ bytes) = if is_ascii_alphanumeric byte then byte ∷ bytes else after_signs bytes

-- the letters at the beginning of a text
abbrev pub first_letters : Text → Text
first_letters [] = []
first_letters (byte ∷ bytes) = if is_ascii_alphabetic byte then byte ∷ first_letters bytes else []

-- whether a word is one of ours, ignoring case
abbrev pub is_count_office_word : Text → Bool
is_count_office_word word = str_eq_ignore_ascii_case word (codes "Ward") || (str_eq_ignore_ascii_case word (codes "Rejected") || str_eq_ignore_ascii_case word (codes "Lot"))

-- whether a comment begins with one of our words, after its `#` and any other signs
abbrev pub begins_as_ours : Text → Bool
begins_as_ours comment = is_count_office_word (first_letters (after_signs comment))

-- a comment that isn't one of ours is ignored, or rejected if it begins like ours
abbrev pub skip_foreign : Text → Result (Unit {0}) BallotsFlaw
skip_foreign comment = if begins_as_ours comment then Err Astray else Ok tt

-- what follows the `#` in a line of numbers; empty if it has none
abbrev pub behind_number_sign : Text → Text
behind_number_sign [] = []
behind_number_sign (byte ∷ bytes) = if byte == 35 then bytes else behind_number_sign bytes
