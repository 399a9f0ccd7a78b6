-- The second record of an office: a script of the requests that it accepted, each written and flushed before it is acknowledged; and what a stop may leave of it.
use Rattle.std.specs.Prelude.{◌≡◌, ◌⊎◌, ◌≤◌, ◌+◌, ◌++◌, ℕ, Bool, true, false, List, [], Option, Some, None, IfSome, length, take}
use Rattle.clap.specs.Words.{Text}
use Rattle.sqlite.specs.State.{State}
use Rattle.register.specs.Machine.{after, after_one, is_accepted, step_of}
use Rattle.register.specs.Offices.{OfficeState}
use Rattle.register.specs.declared.command.Request.{Request}
use Rattle.tables.specs.Reading.{OnlyReads}
use Rattle.desk.specs.Journals.{IsJournalOf}
use Rattle.desk.specs.Scripts.{whole_lines}

-- ---- a file to which bytes are appended

-- The bytes of the file that were flushed, and those that were appended since. A stop leaves the first, and a beginning of the second.
pub record Appended : Type 0 where
  pub flushed : List ℕ
  pub pending : List ℕ

-- a stop may leave this text
pub record IsLeftOf (file : Appended) (text : Text) : Type 0 where
  pub count : ℕ
  pub is : text ≡ file.flushed ++ take count file.pending

-- a stop may leave this text of a file; it may leave none of a file of which nothing is known
abbrev pub Leaves : Option Appended → Text → Type 0
Leaves None text = ⊥
Leaves (Some file) text = IsLeftOf file text

-- whatever the file is known to hold, these bytes were appended to it
abbrev pub AppendsAll : Option Appended → Option Appended → List ℕ → Type 0
AppendsAll old new bytes = IfSome old (λ file. new ≡ Some (record { flushed = file.flushed; pending = file.pending ++ bytes }))

-- a beginning of these bytes was appended to it
abbrev pub AppendsSome : Option Appended → Option Appended → List ℕ → Type 0
AppendsSome old new bytes = IfSome old (λ file. (count : ℕ) × (new ≡ Some (record { flushed = file.flushed; pending = file.pending ++ take count bytes })))

-- the bytes appended to it were flushed
abbrev pub FlushesAll : Option Appended → Option Appended → Type 0
FlushesAll old new = IfSome old (λ file. new ≡ Some (record { flushed = file.flushed ++ file.pending; pending = [] }))

-- ---- what a stop leaves

-- The whole lines of each text that a stop may leave, played over the empty office, are all accepted there, and lead to a state of the given kind.
abbrev pub LeavesRecord : (Text → Type 0) → (OfficeState → Type 0) → Type 0
LeavesRecord found P = (text : Text) → found text → (x : OfficeState) × P x × IsJournalOf x (whole_lines text)

-- The record is known and complete: each text that a stop may leave consists of whole lines, and leads to exactly this state.
pub record IsRecordOf (found : Text → Type 0) (s : OfficeState) : Type 0 where
  pub known : (text : Text) × found text
  pub whole : (text : Text) → found text → whole_lines text ≡ text
  pub leads : LeavesRecord found (λ x. x ≡ s)

-- ---- requests and the record

-- the state after the accepted requests in a beginning of the list, which contains each answered request and at most one more
pub record IsAfterAnswered (s : OfficeState) (requests : List Request) (answered : ℕ) (x : OfficeState) : Type 0 where
  pub count : ℕ
  pub all_answered : answered ≤ count
  pub one_more : count ≤ answered + 1
  pub within : count ≤ length requests
  pub is : x ≡ after s (take count requests)

-- What became of the record of an office in the given state while requests were sent to it, of which so many were answered. Whatever a stop leaves of it leads to the state
-- after a beginning of the requests, which contains each answered one and at most one more. Unless the record failed, that beginning is just the answered ones. It fails
-- only at a request that isn't answered.
pub record IsRecorded (s : OfficeState) (requests : List Request) (answered : ℕ) (old new : Text → Type 0) (failed : Bool) : Type 0 where
  pub leaves : IsRecordOf old s → LeavesRecord new (IsAfterAnswered s requests answered)
  pub whole : failed ≡ false → IsRecordOf old s → IsRecordOf new (after s (take answered requests))
  pub unfailed : answered ≡ length requests → failed ≡ false

-- A request that was accepted in the given state was recorded: what a stop leaves leads to the state after it. If that failed, it leads to the state before or after it.
pub record Records (request : Request) (old new : Text → Type 0) (failed : Bool) : Type 0 where
  pub whole : failed ≡ false → (s : OfficeState) → is_accepted (step_of s request) ≡ true → IsRecordOf old s → IsRecordOf new (after_one s request)
  pub leaves : (s : OfficeState) → is_accepted (step_of s request) ≡ true → IsRecordOf old s → LeavesRecord new (λ x. (x ≡ s) ⊎ (x ≡ after_one s request))

-- Once a record has failed, it is left as it is, and the office is only read.
abbrev pub StaysOnceFailed : {R : Type 0} → (R → Bool) → R → R → State → State → Type 0
StaysOnceFailed failed old new before later = failed old ≡ true → (new ≡ old) × OnlyReads before later
