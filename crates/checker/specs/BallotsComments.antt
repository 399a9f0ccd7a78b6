-- Our own comments in a file of ballots: the number of the ward, the number of rejected papers for each code, and the lots.
use Rattle.std.specs.Prelude.{ℕ, Bool, true, false, ◌&&◌, ◌==◌, nat_eq, if◌then◌else◌, List, [], ◌∷◌, ◌++◌, codes, Option, Some, None, is_some, Result, Ok, Err}
use Rattle.std.specs.List.{list_any}
use Rattle.std.specs.Option.{option_and_then}
use Rattle.std.specs.Cmp.Lexicographic.{pointwise}
use Rattle.checker.specs.Numbers.{number_in}
use Rattle.checker.specs.Outcomes.{and_then}
use Rattle.checker.specs.ForeignComments.{skip_foreign}
use Rattle.checker.specs.Tokens.{Text, pieces_of}
use Rattle.checker.specs.declared.tokens.Separator.TheVariants.{Mark}
use Rattle.checker.specs.declared.problem.BallotsFlaw.{BallotsFlaw}
use Rattle.checker.specs.declared.problem.BallotsFlaw.TheVariants.{Lot, Rejected, Twice, Ward}

-- the content of our own comments: the number of the ward, the number of rejected papers for each code, and the stage and the candidate of each lot
pub record Remarks : Type 0 where
  pub ward : Option ℕ
  pub rejected : Option (List ℕ)
  pub lots : List (ℕ × ℕ)

-- whether a word equals the given text
abbrev pub is_word : Text → Text → Bool
is_word text word = pointwise nat_eq word text

-- a number, if its text has no flaw
abbrev pub understood : Result ℕ BallotsFlaw → Option ℕ
understood (Ok number) = Some number
understood (Err flaw) = None

-- a number that fits in one byte, and one that fits in four
abbrev pub small_in : Text → Option ℕ
small_in word = understood (number_in 255 word)

abbrev pub count_in : Text → Option ℕ
count_in word = understood (number_in 4294967295 word)

-- `7`: the ward number
abbrev pub ward_in : List Text → Option ℕ
ward_in [] = None
ward_in (number ∷ []) = small_in number
ward_in (number ∷ other ∷ words) = None

-- `1: 0`: the number of rejected papers for a code, followed by those for other codes
abbrev pub code_in : Text → List Text → Option (ℕ × List Text)
code_in code [] = None
code_in code (told ∷ []) = None
code_in code (told ∷ papers ∷ words) = if is_word code told then option_and_then (λ n. Some (n, words)) (count_in papers) else None

-- whether there are no words
abbrev pub is_end : List Text → Bool
is_end [] = true
is_end (word ∷ words) = false

-- the numbers of rejected papers for several codes, with no words after them
abbrev pub codes_in : List Text → List Text → Option (List ℕ)
codes_in [] words = if is_end words then Some [] else None
codes_in (code ∷ others) words = option_and_then (λ first. option_and_then (λ rest. Some (first.0 ∷ rest)) (codes_in others first.1)) (code_in code words)

-- `1: 0, 2: 0, 3: 0, 4: 0, 5: 0`: the number of rejected papers for each code
abbrev pub rejected_counts_in : List Text → Option (List ℕ)
rejected_counts_in words = codes_in (codes "1" ∷ codes "2" ∷ codes "3" ∷ codes "4" ∷ codes "5" ∷ []) words

-- `at stage 3: 2`: the candidate drawn by lot
abbrev pub lot_in : List Text → Option (ℕ × ℕ)
lot_in [] = None
lot_in (at ∷ []) = None
lot_in (at ∷ stage ∷ []) = None
lot_in (at ∷ stage ∷ k ∷ []) = None
lot_in (at ∷ stage ∷ k ∷ c ∷ []) =
    if is_word (codes "at") at && is_word (codes "stage") stage then option_and_then (λ number. option_and_then (λ candidate. Some (number, candidate)) (small_in c)) (small_in k) else None
lot_in (at ∷ stage ∷ k ∷ c ∷ other ∷ words) = None

-- the content of a comment if it was understood and no earlier comment had the same subject
abbrev pub told_once : {X : Type 0} → BallotsFlaw → Option X → Option X → Result (Option X) BallotsFlaw
told_once flaw before None = Err flaw
told_once flaw before (Some told) = if is_some before then Err Twice else Ok (Some told)

-- the remarks so far, with a comment about the ward, about the rejected papers, or about a lot
abbrev pub with_ward : Remarks → Option ℕ → Result Remarks BallotsFlaw
with_ward remarks ward = and_then (told_once Ward remarks.ward ward) (λ kept. Ok (record { ward = kept; rejected = remarks.rejected; lots = remarks.lots }))

abbrev pub with_rejected : Remarks → Option (List ℕ) → Result Remarks BallotsFlaw
with_rejected remarks rejected = and_then (told_once Rejected remarks.rejected rejected) (λ kept. Ok (record { ward = remarks.ward; rejected = kept; lots = remarks.lots }))

abbrev pub is_drawn : ℕ → List (ℕ × ℕ) → Bool
is_drawn stage lots = list_any (λ lot. lot.0 == stage) lots

abbrev pub with_lot : Remarks → Option (ℕ × ℕ) → Result Remarks BallotsFlaw
with_lot remarks None = Err Lot
with_lot remarks (Some lot) =
    if is_drawn lot.0 remarks.lots then Err Twice else Ok (record { ward = remarks.ward; rejected = remarks.rejected; lots = remarks.lots ++ lot ∷ [] })

-- a comment that isn't ours adds nothing
abbrev pub with_other : Remarks → Text → Result Remarks BallotsFlaw
with_other remarks line = and_then (skip_foreign line) (λ passed. Ok remarks)

-- the remarks so far, with a comment line of the given kind, given the words after its kind
abbrev pub with_kind : Remarks → Text → Text → List Text → Result Remarks BallotsFlaw
with_kind remarks line kind words =
    if is_word (codes "Ward") kind then with_ward remarks (ward_in words) else (
    if is_word (codes "Rejected") kind then with_rejected remarks (rejected_counts_in words) else (
    if is_word (codes "Lot") kind then with_lot remarks (lot_in words) else with_other remarks line))

-- the remarks so far, with a comment line given as words; in our own comments, `#` is a separate word before the kind
abbrev pub with_words : Remarks → Text → List Text → Result Remarks BallotsFlaw
with_words remarks line [] = with_other remarks line
with_words remarks line (sign ∷ []) = with_other remarks line
with_words remarks line (sign ∷ kind ∷ words) = if is_word (codes "#") sign then with_kind remarks line kind words else with_other remarks line

-- the remarks so far, with a comment on a separate line, whose words are also separated by colons and commas
abbrev pub with_comment : Remarks → Text → Result Remarks BallotsFlaw
with_comment remarks line = with_words remarks line (pieces_of Mark [] line)
