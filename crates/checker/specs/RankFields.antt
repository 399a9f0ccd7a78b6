-- A line of cast-vote records with a rank in each column. A field names the candidate with that rank, by number or by name; an empty field names nobody.
use Rattle.std.specs.Prelude.{ℕ, ◌+◌, ◌==◌, ◌||◌, nat_le, Bool, true, false, if◌then◌else◌, List, [], ◌∷◌, ◌++◌, fold, length, Option, Some, None, is_some, Result, Ok, Err}
use Rattle.std.specs.List.{list_any}
use Rattle.paper.specs.Columns.{max_candidates}
use Rattle.checker.specs.BallotsComments.{is_word}
use Rattle.checker.specs.Fields.{FieldsEntry, begun, ended, with_byte}
use Rattle.checker.specs.Numbers.{number_in}
use Rattle.checker.specs.Outcomes.{and_then}
use Rattle.checker.specs.Tokens.{Text}
use Rattle.checker.specs.declared.problem.BallotsFlaw.{BallotsFlaw}
use Rattle.checker.specs.declared.problem.BallotsFlaw.TheVariants as flaw

-- ---- the candidate that a field names

-- whether a text is the number of a candidate
abbrev pub is_number : Result ℕ BallotsFlaw → ℕ → Bool
is_number (Ok number) c = number == c
is_number (Err flaw) c = false

-- whether a field names the candidate with the given number and name
abbrev pub is_of : Text → ℕ → Text → Bool
is_of field c name = is_word name field || is_number (number_in max_candidates field) c

-- the only candidate that a field names, given the one found among the lower numbers
abbrev pub candidate_from : Text → Option ℕ → ℕ → List Text → Result ℕ BallotsFlaw
candidate_from field None c [] = Err flaw.NotCandidate
candidate_from field (Some found) c [] = Ok found
candidate_from field found c (name ∷ names) =
    if is_of field c name
    then (if is_some found then Err flaw.SeveralCandidates else candidate_from field (Some c) (c + 1) names)
    else candidate_from field found (c + 1) names

-- the only candidate that a field names, given the candidates' names
abbrev pub candidate_named : List Text → Text → Result ℕ BallotsFlaw
candidate_named names field = candidate_from field None 1 names

-- ---- the fields of a paper

-- how many fields have been read, the preferences, whether no field has been empty so far, and the candidates after an empty field
pub record PaperEntry : Type 0 where
  pub fields : ℕ
  pub preferences : List ℕ
  pub is_open : Bool
  pub later : List ℕ

-- the paper before its first field
abbrev pub nothing_ranked : PaperEntry
nothing_ranked = record { fields = 0; preferences = []; is_open = true; later = [] }

-- an empty field: preferences after it are ignored
abbrev pub with_gap : PaperEntry → PaperEntry
with_gap paper = record { fields = paper.fields + 1; preferences = paper.preferences; is_open = false; later = paper.later }

-- the next candidate
abbrev pub with_next : PaperEntry → ℕ → PaperEntry
with_next paper c =
    if paper.is_open
    then record { fields = paper.fields + 1; preferences = paper.preferences ++ c ∷ []; is_open = true; later = paper.later }
    else record { fields = paper.fields + 1; preferences = paper.preferences; is_open = false; later = paper.later ++ c ∷ [] }

-- the next candidate, who must not have appeared before
abbrev pub with_candidate : PaperEntry → ℕ → Result PaperEntry BallotsFlaw
with_candidate paper c =
    if list_any (λ d. d == c) paper.preferences || list_any (λ d. d == c) paper.later then Err flaw.CandidateTwice else Ok (with_next paper c)

-- the next field
abbrev pub with_rank : List Text → PaperEntry → Text → Result PaperEntry BallotsFlaw
with_rank names paper field = if length field == 0 then Ok (with_gap paper) else and_then (candidate_named names field) (with_candidate paper)

-- the next field, given the number of rank columns
abbrev pub with_rank_within : List Text → ℕ → PaperEntry → Text → Result PaperEntry BallotsFlaw
with_rank_within names ranks paper field = if nat_le ranks paper.fields then Err flaw.FieldCount else with_rank names paper field

abbrev pub with_rank_field : List Text → ℕ → Result PaperEntry BallotsFlaw → Text → Result PaperEntry BallotsFlaw
with_rank_field names ranks paper field = and_then paper (λ told. with_rank_within names ranks told field)

-- a paper for which all fields have been read
abbrev pub complete : ℕ → PaperEntry → Result PaperEntry BallotsFlaw
complete ranks paper = if paper.fields == ranks then Ok paper else Err flaw.FieldCount

-- the paper of a line that has been read to its end
abbrev pub paper_of : List Text → ℕ → FieldsEntry (Result PaperEntry BallotsFlaw) → Result PaperEntry BallotsFlaw
paper_of names ranks entry = and_then (ended (with_rank_field names ranks) entry) (λ paper. and_then paper (complete ranks))

-- the paper of a line, given the candidates' names and the number of rank columns
abbrev pub ranked_in : List Text → ℕ → Text → Result PaperEntry BallotsFlaw
ranked_in names ranks line = paper_of names ranks (fold (with_byte (with_rank_field names ranks)) (begun (Ok nothing_ranked)) line)
