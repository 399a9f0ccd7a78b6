-- The stage sheet and the declaration.
use Rattle.std.specs.Prelude.{ℕ, ◌+◌, if◌then◌else◌, nat_eq, List, [], ◌∷◌, ◌++◌, length, slice_index, codes, decimal, Option, Some, None}
use Rattle.std.specs.List.{list_any, flat_map}
use Rattle.votes.specs.Units.{quota_of}
use Rattle.votes.specs.Text.{votes_text}
use Rattle.count.specs.declared.stages.Stage.{Stage}
use Rattle.sheet.specs.Cells.{from_place}
use Rattle.sheet.specs.Lines.{line, number_column}
use Rattle.sheet.specs.Stages.{heading, candidate_line, sum_lines}
use Rattle.sheet.specs.Entries.{SheetEntry}
use Rattle.sheet.specs.declared.ward.Poll.{Poll}

-- `Ward 7 Harbour`
abbrev pub ward_line : SheetEntry → List ℕ
ward_line ward = line (codes "Ward " ∷ decimal ward.number ∷ codes " " ∷ ward.name ∷ [])

-- `Seats 2, uncontested`
abbrev pub uncontested_line : ℕ → List ℕ
uncontested_line seats = line (codes "Seats " ∷ decimal seats ∷ codes ", uncontested" ∷ [])

-- `Seats 2, valid 9, quota 4.00000`
abbrev pub seats_line : ℕ → ℕ → List ℕ
seats_line seats valid =
    line (codes "Seats " ∷ decimal seats ∷ codes ", valid " ∷ decimal valid ∷ codes ", quota " ∷ votes_text (quota_of valid seats) ∷ [])

-- `Rejected 1: 0, 2: 0, 3: 0, 4: 0, 5: 0`
abbrev pub rejected_line : List ℕ → List ℕ
rejected_line rejected = line (
    codes "Rejected 1: " ∷ decimal (slice_index rejected 0) ∷
    codes ", 2: " ∷ decimal (slice_index rejected 1) ∷
    codes ", 3: " ∷ decimal (slice_index rejected 2) ∷
    codes ", 4: " ∷ decimal (slice_index rejected 3) ∷
    codes ", 5: " ∷ decimal (slice_index rejected 4) ∷ [])

-- the lines of all candidates at a stage
abbrev pub candidate_lines : SheetEntry → List Stage → Stage → List ℕ
candidate_lines ward earlier stage = flat_map (λ candidate. candidate_line earlier stage candidate.0 candidate.1) ward.candidates

-- a stage, given the stages before it
abbrev pub stage_text : SheetEntry → List Stage → Stage → List ℕ
stage_text ward earlier stage =
    heading (length earlier + 1) stage.action ++ candidate_lines ward earlier stage ++ sum_lines stage

-- all stages, each following those before it
abbrev pub stages_text : SheetEntry → List Stage → List ℕ
stages_text ward stages = from_place (stage_text ward) 0 stages

-- everything after the line with the ward
abbrev pub below_ward : SheetEntry → Option Poll → List Stage → List ℕ
below_ward ward None stages = uncontested_line ward.seats
below_ward ward (Some poll) stages = seats_line ward.seats poll.valid ++ rejected_line poll.rejected ++ stages_text ward stages

-- the stage sheet of a ward
abbrev pub sheet : SheetEntry → List Stage → List ℕ
sheet ward stages = ward_line ward ++ below_ward ward ward.poll stages

-- `Elected`
abbrev pub elected_heading : List ℕ
elected_heading = line (codes "Elected" ∷ [])

-- ` 1 Ann`, for a candidate who is elected
abbrev pub elected_line : List ℕ → ℕ → List ℕ → List ℕ
elected_line elected c name = if list_any (nat_eq c) elected then line (number_column c ∷ codes " " ∷ name ∷ []) else []

-- the lines of all elected candidates
abbrev pub elected_lines : SheetEntry → List ℕ → List ℕ
elected_lines ward elected = flat_map (λ candidate. elected_line elected candidate.0 candidate.1) ward.candidates

-- the declaration of a ward, given the numbers of its elected candidates
abbrev pub declaration : SheetEntry → List ℕ → List ℕ
declaration ward elected = ward_line ward ++ elected_heading ++ elected_lines ward elected
