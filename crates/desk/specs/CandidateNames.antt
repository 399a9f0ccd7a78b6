-- The names of a ward's candidates, by number.
use Rattle.std.specs.Prelude.{ℕ, ◌==◌, List, [], Option, map, find, slice_get, option_map, unwrap_or}
use Rattle.std.specs.List.{range_with_len}
use Rattle.clap.specs.Words.{Text}
use Rattle.register.specs.Offices.{CandidateEntry}
use Rattle.desk.specs.declared.candidate_names.NamesByNumber.{NamesByNumber}

-- the candidate with the given number
abbrev pub candidate_in : List CandidateEntry → ℕ → Option CandidateEntry
candidate_in candidates number = find (λ (c : CandidateEntry). c.number == number) candidates

-- the name of the candidate with the given number; empty if there is none
abbrev pub name_of : List CandidateEntry → ℕ → Text
name_of candidates number = unwrap_or (option_map (λ (c : CandidateEntry). c.name) (candidate_in candidates number)) []

-- the names for the numbers 0 to 30, in order; no candidate has the number 0
unfoldable pub names_of : List CandidateEntry → List Text
names_of candidates = map (name_of candidates) (range_with_len 0 31)

-- the name for the given number in a list of names
abbrev pub name_in : List Text → ℕ → Text
name_in names number = unwrap_or (slice_get names number) []

-- the names that a table represents
abbrev pub names_told : NamesByNumber → List Text
names_told names = map (λ name. name.now) names.places.items
