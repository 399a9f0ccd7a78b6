-- The first line of cast-vote records, which names the columns, each for a candidate or for a rank.
use Rattle.std.specs.Prelude.{ℕ, ◌+◌, ◌==◌, ◌&&◌, ◌||◌, nat_le, nat_lt, Bool, true, false, if◌then◌else◌, List, [], ◌∷◌, ◌++◌, length, codes, Result, Ok, Err}
use Rattle.std.specs.Char.{is_ascii_digit}
use Rattle.std.specs.Str.{str_eq_ignore_ascii_case}
use Rattle.paper.specs.Columns.{max_candidates}
use Rattle.checker.specs.BallotsComments.{is_word}
use Rattle.checker.specs.Fields.{fields_in}
use Rattle.checker.specs.ForeignComments.{first_letters}
use Rattle.checker.specs.Names.{as_text}
use Rattle.checker.specs.Numbers.{number_in}
use Rattle.checker.specs.Outcomes.{and_then}
use Rattle.checker.specs.RankFields.{is_number}
use Rattle.checker.specs.Tokens.{Text}
use Rattle.checker.specs.declared.problem.BallotsFlaw.{BallotsFlaw}
use Rattle.checker.specs.declared.problem.BallotsFlaw.TheVariants as flaw

-- the columns: one for each of the candidates with the given names, or the given number of columns for ranks
pub data ColumnsEntry : Type 0 where
  of_candidates : List Text → ColumnsEntry
  of_ranks : ℕ → ColumnsEntry

-- the first line: whether each further line begins with a number of papers, and the other columns
pub record HeaderEntry : Type 0 where
  pub counted : Bool
  pub columns : ColumnsEntry

-- whether the first column is `count`: if so, each line begins with a number of equal papers
abbrev pub is_counted : List Text → Bool
is_counted [] = false
is_counted (field ∷ fields) = is_word (codes "count") field

-- the other columns
abbrev pub candidate_fields : List Text → List Text
candidate_fields [] = []
candidate_fields (field ∷ fields) = if is_word (codes "count") field then fields else field ∷ fields

-- whether a word, ignoring case, is one that often names a column for something other than a candidate
abbrev pub is_title : Text → Bool
is_title word = str_eq_ignore_ascii_case word (codes "rank") || (str_eq_ignore_ascii_case word (codes "choice") || (
    str_eq_ignore_ascii_case word (codes "preference") || (str_eq_ignore_ascii_case word (codes "first") || (
    str_eq_ignore_ascii_case word (codes "count") || (str_eq_ignore_ascii_case word (codes "weight") || (
    str_eq_ignore_ascii_case word (codes "votes") || (str_eq_ignore_ascii_case word (codes "papers") || (
    str_eq_ignore_ascii_case word (codes "ballot") || str_eq_ignore_ascii_case word (codes "ballots")))))))))

-- whether a column might be for something other than a candidate: its name begins with a digit, or with one of those words
abbrev pub is_titled : Text → Bool
is_titled [] = false
is_titled (byte ∷ bytes) = is_ascii_digit byte || is_title (first_letters (byte ∷ bytes))

-- the name of a candidate's column
abbrev pub candidate_name : Text → Result Text BallotsFlaw
candidate_name field = if length field == 0 then Err flaw.NoColumnName else (if is_titled field then Err flaw.NotCandidateColumn else as_text field)

-- the names in the given fields, after earlier ones
abbrev pub names_from : List Text → List Text → Result (List Text) BallotsFlaw
names_from names [] = Ok names
names_from names (field ∷ fields) =
    if nat_le max_candidates (length names) then Err flaw.TooManyColumns else and_then (candidate_name field) (λ name. names_from (names ++ name ∷ []) fields)

-- a text without its leading space, if it has one
abbrev pub without_space : Text → Text
without_space [] = []
without_space (byte ∷ bytes) = if byte == 32 then bytes else byte ∷ bytes

-- `rank3`, `Rank 3`: what follows the word `rank`
abbrev pub after_rank : Text → Text
after_rank (a ∷ b ∷ c ∷ d ∷ field) = if b == 97 && (c == 110 && d == 107) then (if a == 114 || a == 82 then without_space field else []) else []
after_rank field = []

-- whether a column is for the given rank
abbrev pub is_rank : ℕ → Text → Bool
is_rank rank field = is_number (number_in max_candidates (after_rank field)) rank

-- the number of rank columns, given the number already read
abbrev pub ranks_from : ℕ → List Text → Result ℕ BallotsFlaw
ranks_from ranks [] = Ok ranks
ranks_from ranks (field ∷ fields) =
    if nat_le max_candidates ranks then Err flaw.TooManyColumns else (if is_rank (ranks + 1) field then ranks_from (ranks + 1) fields else Err flaw.NotNextRank)

-- the columns after the one for the number of papers, if there is one: columns for candidates or for ranks
abbrev pub columns_in : Bool → List Text → Result ColumnsEntry BallotsFlaw
columns_in true fields = and_then (names_from [] fields) (λ names. Ok (of_candidates names))
columns_in false fields = and_then (ranks_from 0 fields) (λ number. Ok (of_ranks number))

-- a single column is rejected: an empty line could be a paper without a mark, or no paper
abbrev pub header_of : Bool → List Text → Result HeaderEntry BallotsFlaw
header_of are_candidates fields =
    if nat_lt (length fields) 2 then Err flaw.LoneColumn
    else and_then (columns_in are_candidates (candidate_fields fields)) (λ columns. Ok (record { counted = is_counted fields; columns = columns }))

-- the first line, whose columns are for candidates or for ranks
abbrev pub header_in : Bool → Text → Result HeaderEntry BallotsFlaw
header_in are_candidates line = and_then (fields_in line) (header_of are_candidates)
