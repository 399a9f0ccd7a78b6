-- The candidate file.
use Rattle.std.specs.Prelude.{ℕ, Bool, false, ◌&&◌, if◌then◌else◌, List, [], ◌∷◌, Option, Some, None, Result, Ok, Err, codes, bytes_eq, string_bytes}
use Rattle.keyfile.specs.Records.{Record}
use Rattle.paper.specs.Digits.{plain_number_in}
use Rattle.keyfile.specs.Files.{Format}
use Rattle.keyfile.specs.declared.candidates.CandidateRow.{CandidateRow}
use Rattle.keyfile.specs.declared.fault.Flaw.{Flaw}
use Rattle.keyfile.specs.declared.fault.Flaw.TheVariants.{Header, RecordLength, Number}

-- a candidate to add: the ward's number, and the candidate's number and name
abbrev pub CandidateEntry : Type 0
CandidateEntry = ℕ × ℕ × List ℕ

-- the entry that a row represents
abbrev pub candidate_entry : CandidateRow → CandidateEntry
candidate_entry row = (row.ward, row.candidate, string_bytes row.name)

-- the header is `ward,candidate,name`
abbrev pub is_candidate_header : Record → Bool
is_candidate_header (ward ∷ candidate ∷ name ∷ []) = bytes_eq ward (codes "ward") && (bytes_eq candidate (codes "candidate") && bytes_eq name (codes "name"))
is_candidate_header other = false

-- a first record that isn't the header has the flaw `Header`
abbrev pub candidate_header_flaw : Record → Option Flaw
candidate_header_flaw fields = if is_candidate_header fields then None else Some Header

-- the candidate with the given name, if both numbers can be read
abbrev pub numbered : Option ℕ → Option ℕ → List ℕ → Result CandidateEntry Flaw
numbered (Some ward) (Some candidate) name = Ok (ward, candidate, name)
numbered (Some ward) None name = Err Number
numbered None candidate name = Err Number

-- a record is a candidate if its first two fields, the ward and the candidate, are numbers
abbrev pub candidate_in : Record → Result CandidateEntry Flaw
candidate_in (ward ∷ candidate ∷ name ∷ []) = numbered (plain_number_in ward) (plain_number_in candidate) name
candidate_in other = Err RecordLength

-- the maximum number of candidates in a file: 30 in each of 99 wards
abbrev pub most_candidates : ℕ
most_candidates = 2970

-- the format of the candidate file, which contains at most that many candidates
abbrev pub candidates : Format CandidateEntry
candidates = record { header_flaw = candidate_header_flaw; most = most_candidates; read = λ k fields. candidate_in fields }
