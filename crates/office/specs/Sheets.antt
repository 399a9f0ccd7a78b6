-- A ward's public texts, as functions of the state.
use Rattle.std.specs.Prelude.{◌≡◌, ◌≤◌, ◌⊎◌, ⊤, ℕ, Bool, false, true, if◌then◌else◌, List, [], map, length, reverse, Option, Some, None, Result, Ok, Err}
use Rattle.std.specs.List.{list_all}
use Rattle.votes.specs.Units.{max_seats, max_papers}
use Rattle.paper.specs.Columns.{IsCandidateSet}
use Rattle.count.specs.Law.Contest.{IsContest}
use Rattle.sheet.specs.declared.ward.Poll.{Poll}
use Rattle.sheet.specs.Entries.{SheetEntry}
use Rattle.count.specs.Bundles.{Bundle, bundled}
use Rattle.count.specs.declared.stages.Stage.{Stage}
use Rattle.sheet.specs.Sheet.{sheet, declaration}
use Rattle.sheet.specs.Ballots.{ballots}
use Rattle.sheet.specs.Page.{page}
use Rattle.sheet.specs.Results.{results}
use Rattle.sheet.specs.Spreadsheet.{spreadsheet}
use Rattle.sheet.specs.Surpluses.{surpluses_of}
use Rattle.sheet.specs.declared.surpluses.PassedOn.{PassedOn}
use Rattle.register.specs.declared.phase.Phase.{Phase}
use Rattle.register.specs.declared.refusal.Reason.{Reason}
use Rattle.register.specs.declared.refusal.Reason.TheVariants.{NumberOutOfRange, NoSuchWard, WrongPhase}
use Rattle.tables.specs.declared.fault.Fault.TheVariants.{Memory, Store}
use Rattle.office.specs.declared.answers.ReadError.{ReadError}
use Rattle.office.specs.declared.answers.ReadError.TheVariants.{Refused, Fault as Failed}
use Rattle.office.specs.declared.sheets.WardText.{WardText}
use Rattle.office.specs.declared.sheets.WardText.TheVariants.{Sheet, Declaration, Ballots, Page, Table, Results}
use Rattle.register.specs.Marks.{columns_of}
use Rattle.register.specs.Ranges.{last_ward, is_ward_number, is_candidate_number}
use Rattle.register.specs.Offices.{WardEntry, CandidateEntry, OfficeState, ward_at}
use Rattle.register.specs.Elections.{ElectionEntry, election_of, has_count, contest_of, stages_of, elected_of, is_counted, is_declared}

-- a candidate's number and name
abbrev pub candidate_shown : CandidateEntry → ℕ × List ℕ
candidate_shown c = (c.number, c.name)

-- the poll of a contested ward
abbrev pub poll_shown : ElectionEntry → Option Poll
poll_shown e = if has_count e then Some (record { valid = length e.ballots.papers; rejected = e.ballots.rejected }) else None

-- what the texts show of an election, given its poll
abbrev pub shown_with : Option Poll → ElectionEntry → SheetEntry
shown_with poll e =
    record { number = e.ward.number; name = e.ward.name; seats = e.ward.seats; candidates = map candidate_shown e.candidates; poll = poll }

-- what the texts show of an election, with its own poll
abbrev pub election_shown : ElectionEntry → SheetEntry
election_shown e = shown_with (poll_shown e) e

-- whether a candidate's number is in range
abbrev pub is_numbered : CandidateEntry → Bool
is_numbered c = is_candidate_number c.number

-- if the election is contested, it can be counted
abbrev pub CanBeCounted : ElectionEntry → Type 0
CanBeCounted e = has_count e ≡ true → IsContest (contest_of e)

-- An election whose texts can be written; the election of every ward of an office is one. The ward's number, its seats and the numbers of its candidates are in
-- range, and the candidate numbers are in ascending order. It has at most as many papers as a ward can have, and it can be counted.
pub record IsTextual (e : ElectionEntry) : Type 0 where
  pub number : e.ward.number ≤ last_ward
  pub some_seats : 1 ≤ e.ward.seats
  pub few_seats : e.ward.seats ≤ max_seats
  pub few_papers : length e.ballots.papers ≤ max_papers
  pub numbered : list_all is_numbered e.candidates ≡ true
  pub ascending : IsCandidateSet (map (λ c. c.number) e.candidates)
  pub counted : CanBeCounted e

-- the stage sheet: the stages done so far, in order
abbrev pub sheet_of : ElectionEntry → List ℕ
sheet_of e = sheet (election_shown e) (reverse (stages_of e))

-- the declaration: the elected candidates
abbrev pub declaration_of : ElectionEntry → List ℕ
declaration_of e = declaration (election_shown e) (elected_of e)

-- the stages done so far in a contested ward's count, in order
abbrev pub stages_shown : ElectionEntry → List Stage
stages_shown e = if has_count e then reverse (stages_of e) else []

-- the bundles of equal valid papers of a contested ward
abbrev pub bundles_shown : ElectionEntry → List Bundle
bundles_shown e = if has_count e then bundled e.ballots.papers else []

-- the lots recorded in the count of a contested ward
abbrev pub lots_shown : ElectionEntry → List (ℕ × ℕ)
lots_shown e = if has_count e then e.lots else []

-- the papers that passed on with each surplus in the stages done so far
abbrev pub surpluses_shown : ElectionEntry → List PassedOn
surpluses_shown e = if has_count e then surpluses_of (columns_of e.candidates) e.ward.seats (bundles_shown e) (lots_shown e) (length (stages_shown e)) else []

-- the ballots, in a file format that counting programs share
abbrev pub ballots_of : ElectionEntry → List ℕ
ballots_of e = ballots (election_shown e) (bundles_shown e) (lots_shown e)

-- the result as a page to print and sign, with a title, if it is declared; before that, the progress of the count
abbrev pub result_page_of : List ℕ → ElectionEntry → List ℕ
result_page_of title e = page (election_shown e) title (is_declared e.ward.phase) (stages_shown e) (lots_shown e) (surpluses_shown e)

-- the stages as a table for a spreadsheet
abbrev pub table_of : ElectionEntry → List ℕ
table_of e = spreadsheet (election_shown e) (stages_shown e)

-- the result as JSON, for other programs
abbrev pub results_of : ElectionEntry → List ℕ
results_of e = results (election_shown e) (is_declared e.ward.phase) (stages_shown e) (lots_shown e)

-- whether the text may be printed in the given phase of the ward
abbrev pub is_printable_in : WardText → Phase → Bool
is_printable_in Sheet phase = is_counted phase
is_printable_in Declaration phase = is_declared phase
is_printable_in Ballots phase = is_counted phase
is_printable_in (Page title) phase = is_counted phase
is_printable_in Table phase = is_counted phase
is_printable_in Results phase = is_counted phase

-- the text of an election
abbrev pub text_shown : WardText → ElectionEntry → List ℕ
text_shown Sheet e = sheet_of e
text_shown Declaration e = declaration_of e
text_shown Ballots e = ballots_of e
text_shown (Page title) e = result_page_of title.now e
text_shown Table e = table_of e
text_shown Results e = results_of e

-- the text of the ward that was found, or the reason why there is none
abbrev pub text_found : WardText → OfficeState → Option WardEntry → Result (List ℕ) Reason
text_found text s None = Err NoSuchWard
text_found text s (Some w) = if is_printable_in text w.phase then Ok (text_shown text (election_of s w)) else Err WrongPhase

-- the answer to a request for one of the texts of the ward with the given number: the declaration is available once the ward is declared, any other text once it is
-- sealed
abbrev pub text_answer : WardText → OfficeState → ℕ → Result (List ℕ) Reason
text_answer text s ward = if is_ward_number ward then text_found text s (ward_at s ward) else Err NumberOutOfRange

-- why a text isn't written: an allocation failed, and the office stays open; or a fault closed the office
abbrev pub FailsToWrite : Bool → ReadError → Type 0
FailsToWrite closed (Refused why) = ⊥
FailsToWrite closed (Failed f) = ((f ≡ Memory) × (closed ≡ false)) ⊎ ((f ≡ Store) × (closed ≡ true))

-- why there is no text of a ward in the given phase: it may not be printed in that phase; or an allocation failed, and the office stays open; or a fault closed the
-- office
abbrev pub FailsToPrint : WardText → Phase → Bool → ReadError → Type 0
FailsToPrint text phase closed (Refused why) = (why ≡ WrongPhase) × (is_printable_in text phase ≡ false) × (closed ≡ false)
FailsToPrint text phase closed (Failed f) = FailsToWrite closed (Failed f)

-- if the reason is a fault, it can only be a failed allocation
abbrev pub IsOfMemory : ReadError → Type 0
IsOfMemory (Refused why) = ⊤
IsOfMemory (Failed f) = f ≡ Memory
