-- Reading the state, and the effect of a read.
use Rattle.std.specs.Prelude.{◌≡◌, ◌⊎◌, ◌&&◌, ⊤, ℕ, Bool, true, if◌then◌else◌, List, Option, Some, None, Result, Ok, Err}
use Rattle.sqlite.specs.Held.{Held}
use Rattle.sqlite.specs.State.{State}
use Rattle.register.specs.declared.refusal.Reason.{Reason}
use Rattle.register.specs.declared.refusal.Reason.TheVariants.{NotItsClerk, NumberOutOfRange, NoSuchWard, NoSuchBatch}
use Rattle.register.specs.Ranges.{is_clerk, is_ward_number, is_batch_number}
use Rattle.register.specs.Offices.{OfficeState}
use Rattle.register.specs.Status.{BallotPaperEntry, StatusEntry, WorkEntry, status_at, columns_at, work_of, paper_at}
use Rattle.register.specs.NextSteps.{NextStepEntry, next_at}
use Rattle.tables.specs.declared.fault.Fault.{Fault}
use Rattle.tables.specs.declared.fault.Fault.TheVariants.{Memory, Store}
use Rattle.tables.specs.Reading.{FailsBy}
use Rattle.store.specs.StateTables.{LeavesState}
use Rattle.office.specs.declared.answers.ReadError.{ReadError}
use Rattle.office.specs.declared.answers.ReadError.TheVariants.{Refused, Fault as Failed}
use Rattle.office.specs.Answers.{IsOpenAt, IsKeptOpen, WhenOpenAt}
use Rattle.office.specs.Values.{OfficeValue}

-- what was found, or the given reason if nothing was found
abbrev pub found_or : {X : Type 0} → Reason → Option X → Result X Reason
found_or why (Some x) = Ok x
found_or why None = Err why

-- the result of reading a ward's status
abbrev pub status_answer : OfficeState → ℕ → Result StatusEntry Reason
status_answer s ward = if is_ward_number ward then found_or NoSuchWard (status_at s ward) else Err NumberOutOfRange

-- the result of reading the next step in a ward's election
abbrev pub next_answer : OfficeState → ℕ → Result NextStepEntry Reason
next_answer s ward = if is_ward_number ward then found_or NoSuchWard (next_at s ward) else Err NumberOutOfRange

-- the result of reading the columns of a batch's papers
abbrev pub columns_answer : OfficeState → ℕ → Result (List ℕ) Reason
columns_answer s batch = if is_batch_number batch then found_or NoSuchBatch (columns_at s batch) else Err NumberOutOfRange

-- the result of reading a clerk's work
abbrev pub work_answer : OfficeState → ℕ → Result (List WorkEntry) Reason
work_answer s clerk = if is_clerk clerk then Ok (work_of s clerk) else Err NumberOutOfRange

-- the result when one of a batch's clerks reads its papers; a batch that doesn't exist has no clerks
abbrev pub paper_answer : OfficeState → ℕ → ℕ → Result BallotPaperEntry Reason
paper_answer s clerk batch = if is_clerk clerk && is_batch_number batch then found_or NotItsClerk (paper_at s clerk batch) else Err NumberOutOfRange

-- a fault closed the office during a read; a stop leaves the state unchanged
pub record IsClosedReading (s : OfficeState) (f : Fault) (closed : Bool) (st : State) : Type 0 where
  pub is_closed : closed ≡ true
  pub fault : f ≡ Store
  pub leaves : LeavesState st (λ x. x ≡ s)

-- The result and the effect of a read. The result is the value in the state, or the reason why there is none, and the office is unchanged; or the result is a fault.
-- A view maps the values read to those of the specification.
abbrev pub Read : {X Y : Type 0} → (Y → X) → OfficeState → Result X Reason → Result Y ReadError → Bool → State → Type 0
Read view s told (Ok y) closed st = (told ≡ Ok (view y)) × IsOpenAt s closed st
Read view s told (Err (Refused why)) closed st = (told ≡ Err why) × IsOpenAt s closed st
Read view s told (Err (Failed f)) closed st = IsKeptOpen s f closed st ⊎ IsClosedReading s f closed st

-- what a read guarantees for an office that was open in some state
abbrev pub ReadWhenOpen : {S X Y : Type 0} → (Held S → State) → OfficeValue S → OfficeValue S → (Y → X) → (OfficeState → Result X Reason) → Result Y ReadError → Type 0
ReadWhenOpen state_of old new view told result = WhenOpenAt state_of old new (λ s. Read view s (told s) result new.closed (state_of new.held))

-- if a read ends without a value and isn't refused, an allocation or the store failed
abbrev pub ReadFailsBy : State → State → ReadError → Type 0
ReadFailsBy old new (Refused why) = ⊤
ReadFailsBy old new (Failed f) = FailsBy old new f

-- any fault except a failed allocation closes the office
abbrev pub ClosesAt : Bool → ReadError → Type 0
ClosesAt closed (Refused why) = ⊤
ClosesAt closed (Failed f) = (f ≡ Memory) ⊎ (closed ≡ true)

-- a refusal for the given reason, or a failed allocation
abbrev pub FailsFor : Reason → ReadError → Type 0
FailsFor reason (Refused why) = why ≡ reason
FailsFor reason (Failed f) = f ≡ Memory
