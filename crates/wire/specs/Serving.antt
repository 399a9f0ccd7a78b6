-- The response in each state of the office, and the state that a connection leaves.
use Rattle.std.specs.Prelude.{◌≡◌, ◌==◌, ◌⊎◌, ◌∷◌, ⊤, Bool, false, true, List, [], Option, Some, None, Result, Ok, Err, IfSome, find, map, string_bytes, ℕ}
use Rattle.std.specs.Io.KnownBytes.{Appends}
use Rattle.sqlite.specs.State.{State}
use Rattle.streams.specs.Streams.{AppendsBeginning}
use Rattle.serde_json.specs.Data.{Data}
use Rattle.serde_json.specs.Written.{compact_text}
use Rattle.register.specs.Machine.{Outcome, after_one, is_accepted, state_after, step_of}
use Rattle.register.specs.Offices.{OfficeState}
use Rattle.register.specs.Reasons.{reason_number, reason_text}
use Rattle.register.specs.declared.command.Command.TheVariants as command
use Rattle.register.specs.declared.command.Request.{Request}
use Rattle.register.specs.declared.keyings.KeyingCommand.{KeyingCommand}
use Rattle.register.specs.declared.refusal.Reason.{Reason}
use Rattle.register.specs.declared.refusal.Reason.TheVariants.{NoSuchWard}
use Rattle.register.specs.Status.{BallotPaperEntry, WorkEntry}
use Rattle.tables.specs.Faults.{fault_number}
use Rattle.tables.specs.declared.fault.Fault.{Fault}
use Rattle.tables.specs.declared.fault.Fault.TheVariants.{Closed, Store}
use Rattle.office.specs.Answers.{IsClosedIn, IsKeptOpen, IsOpenAt, Told, again, done, no, told_of}
use Rattle.store.specs.EarlierKeyings.{KeyedRoundEntry}
use Rattle.store.specs.Overviews.{WardView}
use Rattle.office.specs.Index.{index_answer}
use Rattle.office.specs.Overviews.{batches_answer, differences_answer, doubtful_answer, papers_answer, receipts_answer, wards_answer}
use Rattle.office.specs.EarlierKeyings.{earlier_answer}
use Rattle.office.specs.Reads.{IsClosedReading, paper_answer, work_answer}
use Rattle.office.specs.Sheets.{text_answer}
use Rattle.office.specs.declared.answers.ReadError.{ReadError}
use Rattle.office.specs.declared.answers.ReadError.TheVariants.{Refused, Fault as Failed}
use Rattle.office.specs.declared.sheets.WardText.TheVariants as text
use Rattle.wire.specs.Requests.{HttpRequestEntry, Asks, ShowEntry, console, denied, keying, order, page, public, reading, shown}
use Rattle.wire.specs.Bodies.{KeyingEntry}
use Rattle.wire.specs.Gates.{HttpSettingsEntry, PublicEntry}
use Rattle.wire.specs.OfficeReads.{WardReadView, ward_read_told, wards_read_told}
use Rattle.wire.specs.OfficeReplies.{batches_data, differences_data, doubtful_papers_data, papers_data, receipts_data, ward_read_data, wards_data}
use Rattle.wire.specs.PublicReplies.{page_told, screen_of}
use Rattle.wire.specs.Replies.{keyed_data, paper_body, work_body}
use Rattle.wire.specs.Responses.{ResponseEntry, denied_response, fault_response, json_response, printed_response, refusal_response, reply_response, shown_response, text_response}
use Rattle.wire.specs.Told.{IsTold, IsWritten, told_bytes}
use Rattle.wire.specs.declared.office_read.OfficeRead.{OfficeRead}
use Rattle.wire.specs.declared.office_read.OfficeRead.TheVariants as read
use Rattle.wire.specs.declared.public_target.PublicTarget.{PublicTarget}
use Rattle.wire.specs.declared.public_target.PublicTarget.TheVariants as public_target
use Rattle.wire.specs.declared.request.Keying.{Keying}
use Rattle.wire.specs.declared.request_error.RequestError.{RequestError}
use Rattle.wire.specs.declared.request_error.RequestError.TheVariants.{NotFound}
use Rattle.wire.specs.declared.response.Response.{Response}
use Rattle.wire.specs.declared.serving.Served.{Served}
use Rattle.wire.specs.declared.serving.Served.TheVariants.{Answered, ReadFailed, WriteFailed}
use Rattle.wire.specs.declared.target.Resource.{Resource}
use Rattle.wire.specs.declared.target.Resource.TheVariants.{Candidates, Declaration, Keyed, Office, Sheet, Work}

-- the response with a refusal for the given reason
abbrev pub refused_for : Reason → ResponseEntry
refused_for why = refusal_response (reason_number why) (reason_text why)

-- the response that carries the office's answer to a keying
abbrev pub told_response : Told → ResponseEntry
told_response (done reply) = reply_response reply
told_response (again reply) = reply_response reply
told_response (no why) = refused_for why

-- the response with what was read, or with the refusal
abbrev pub read_response : {X : Type 0} → (X → ResponseEntry) → Result X Reason → ResponseEntry
read_response told (Ok x) = told x
read_response told (Err why) = refused_for why

-- the work of a clerk
abbrev pub work_response : ℕ → List WorkEntry → ResponseEntry
work_response clerk work = json_response 200 (work_body clerk work)

-- the candidates of a batch
abbrev pub paper_response : ℕ → BallotPaperEntry → ResponseEntry
paper_response batch paper = json_response 200 (paper_body batch paper)

-- the response with the JSON of a value
abbrev pub data_response : Data → ResponseEntry
data_response value = json_response 200 (compact_text value)

-- what a clerk keyed for a batch in an earlier round, or "not found" if there is no such round
abbrev pub earlier_response : ℕ → Option KeyedRoundEntry → ResponseEntry
earlier_response batch (Some keyed) = data_response (keyed_data batch keyed)
earlier_response batch None = denied_response NotFound

-- a ward with its next step and its papers, if it is among the wards that were read
abbrev pub found_response : WardReadView → Option WardView → ResponseEntry
found_response v (Some ward) = data_response (ward_read_data ward v.progress.next v.papers)
found_response v None = refused_for NoSuchWard

abbrev pub ward_response : ℕ → WardReadView → ResponseEntry
ward_response ward v = found_response v (find (λ (w : WardView). w.ward.number == ward) v.progress.wards)

-- the response to a read of the console in a given state
abbrev pub office_response : OfficeState → OfficeRead → ResponseEntry
office_response s read.Wards = read_response (λ wards. data_response (wards_data wards)) (wards_read_told s)
office_response s (read.Ward ward) = read_response (ward_response ward) (ward_read_told s ward)
office_response s (read.Batches ward) = read_response (λ batches. data_response (batches_data ward batches)) (batches_answer s ward)
office_response s (read.Doubtful ward) = read_response (λ papers. data_response (doubtful_papers_data ward papers)) (doubtful_answer s ward)
office_response s (read.Differences batch) = read_response (λ differences. data_response (differences_data batch differences)) (differences_answer s batch)
office_response s (read.Papers batch) = read_response (λ papers. data_response (papers_data batch papers)) (papers_answer s batch)
office_response s (read.Receipts actor) = read_response (λ receipts. data_response (receipts_data receipts)) (receipts_answer s actor)

-- the response to a read in a given state
abbrev pub reading_response : OfficeState → Resource → ResponseEntry
reading_response s (Work clerk) = read_response (work_response clerk) (work_answer s clerk)
reading_response s (Candidates clerk batch) = read_response (paper_response batch) (paper_answer s clerk batch)
reading_response s (Keyed clerk batch) = read_response (earlier_response batch) (earlier_answer s clerk batch)
reading_response s (Sheet ward) = read_response text_response (text_answer text.Sheet s ward)
reading_response s (Declaration ward) = read_response text_response (text_answer text.Declaration s ward)
reading_response s (Office its) = office_response s its

-- the response that shows something in public, in a given state
abbrev pub public_response : OfficeState → PublicEntry → PublicTarget → ResponseEntry
public_response s its public_target.Index = read_response printed_response (index_answer its.title s)
public_response s its public_target.Screen = shown_response (page its.screen)
public_response s its public_target.Wards = read_response (λ views. data_response (screen_of its.title views)) (wards_answer s)
public_response s its (public_target.Page ward) = read_response printed_response (page_told its.title s ward)

-- the request that sends a clerk's keying of a batch to the office
pub record IsHandedOn (clerk batch : ℕ) (entry : KeyingEntry) (request : Request) : Type 0 where
  pub actor : request.actor ≡ clerk
  pub id : string_bytes request.id ≡ entry.id
  pub handed : KeyingCommand
  pub command : request.command ≡ command.Keying handed
  pub about : handed.batch ≡ batch
  pub round : handed.round ≡ entry.round
  pub papers : map string_bytes handed.papers.items ≡ entry.papers

-- the keying that a request contains
abbrev pub keying_entry : Keying → KeyingEntry
keying_entry k = record { id = string_bytes k.id; round = k.round; papers = map string_bytes k.papers.items }

-- the outcome of a clerk's keying in a given state: the outcome of any request that may send the keying to the office
pub record IsOutcome (s : OfficeState) (clerk batch : ℕ) (entry : KeyingEntry) (outcome : Outcome) : Type 0 where
  pub request : Request
  pub is : IsHandedOn clerk batch entry request
  pub each : (other : Request) → IsHandedOn clerk batch entry other → outcome ≡ step_of s other

-- The response to the request in a given state, and the state after it. The server carries out orders; here the response to an order is "not found".
abbrev pub IsAnswer : OfficeState → HttpRequestEntry → OfficeState → ResponseEntry → Type 0
IsAnswer s (denied why) next answer = (next ≡ s) × (answer ≡ denied_response why)
IsAnswer s (shown clerk show) next answer = (next ≡ s) × (answer ≡ shown_response show)
IsAnswer s (reading what) next answer = (next ≡ s) × (answer ≡ reading_response s what)
IsAnswer s (console show) next answer = (next ≡ s) × (answer ≡ shown_response show)
IsAnswer s (order entry) next answer = (next ≡ s) × (answer ≡ denied_response NotFound)
IsAnswer s (public its what) next answer = (next ≡ s) × (answer ≡ public_response s its what)
IsAnswer s (keying clerk batch entry) next answer =
    (outcome : Outcome) × IsOutcome s clerk batch entry outcome × (next ≡ state_after s outcome) × (answer ≡ told_response (told_of outcome))

-- ---- what each outcome leaves

-- the office is open, in the state after the request
pub record IsAnswered (s : OfficeState) (asked : HttpRequestEntry) (answer : ResponseEntry) (closed : Bool) (st : State) : Type 0 where
  pub next : OfficeState
  pub is : IsAnswer s asked next answer
  pub open_at : IsOpenAt next closed st

-- What a fault of the office leaves: the office as it was, or closed. If it is closed, a stop leaves the state before the request or, for an accepted keying, the state
-- after it.
abbrev pub FaultLeaves : OfficeState → HttpRequestEntry → Fault → Bool → State → Type 0
FaultLeaves s (denied why) f closed st = ⊥
FaultLeaves s (shown clerk show) f closed st = ⊥
FaultLeaves s (console show) f closed st = ⊥
FaultLeaves s (order entry) f closed st = ⊥
FaultLeaves s (public its what) f closed st = IsKeptOpen s f closed st ⊎ IsClosedReading s f closed st
FaultLeaves s (reading what) f closed st = IsKeptOpen s f closed st ⊎ IsClosedReading s f closed st
FaultLeaves s (keying clerk batch entry) f closed st =
    (outcome : Outcome) × IsOutcome s clerk batch entry outcome × (IsKeptOpen s f closed st ⊎ IsClosedIn s outcome f closed st)

-- the response to the request, and the state that it leaves; or the fault of the office
abbrev pub Leaves : OfficeState → HttpRequestEntry → ResponseEntry → Bool → State → Type 0
Leaves s asked answer closed st =
    IsAnswered s asked answer closed st ⊎ ((f : Fault) × (answer ≡ fault_response (fault_number f)) × FaultLeaves s asked f closed st)

-- such a response is ready to be written, or its allocation failed
abbrev pub Readies : OfficeState → HttpRequestEntry → Response → Bool → State → Type 0
Readies s asked response closed st = (answer : ResponseEntry) × IsTold answer response × Leaves s asked answer closed st

-- the response that is ready is the one for the result of a read, mapped by the given view
abbrev pub IsReadTold : {X Y : Type 0} → (X → ResponseEntry) → (Y → X) → Result Y ReadError → Response → Type 0
IsReadTold entry view (Ok y) response = IsTold (entry (view y)) response
IsReadTold entry view (Err (Refused why)) response = IsTold (refused_for why) response
IsReadTold entry view (Err (Failed f)) response = IsTold (fault_response (fault_number f)) response

-- A clerk's keying was sent to the office in a given state. If the given request was accepted just now, it is the one that was sent; the response is the reply, and the
-- office is open in the state after it. If there is no such request, the keying was accepted earlier or is refused, and the office is open in the same state; or the
-- response reports a fault.
abbrev pub AcceptsKeying : OfficeState → ℕ → ℕ → KeyingEntry → Response → Option Request → Bool → State → Type 0
AcceptsKeying s clerk batch entry response (Some request) closed st =
    IsHandedOn clerk batch entry request × (is_accepted (step_of s request) ≡ true) × IsTold (told_response (told_of (step_of s request))) response × IsOpenAt (after_one s request) closed st
AcceptsKeying s clerk batch entry response None closed st =
    (request : Request) × IsHandedOn clerk batch entry request
    × (((is_accepted (step_of s request) ≡ false) × IsTold (told_response (told_of (step_of s request))) response × IsOpenAt s closed st)
    ⊎ ((f : Fault) × IsTold (fault_response (fault_number f)) response × (IsKeptOpen s f closed st ⊎ IsClosedIn s (step_of s request) f closed st)))

-- ---- the response, and what is sent to the office for it

-- The requests sent to the office for what is requested in a given state, and the response. A clerk's keying is forwarded, and the response is the office's answer to it.
abbrev pub TellsAsked : OfficeState → HttpRequestEntry → Response → List Request → Type 0
TellsAsked s (denied why) response sent = IsTold (denied_response why) response × (sent ≡ [])
TellsAsked s (shown clerk show) response sent = IsTold (shown_response show) response × (sent ≡ [])
TellsAsked s (reading what) response sent = IsTold (reading_response s what) response × (sent ≡ [])
TellsAsked s (console show) response sent = IsTold (shown_response show) response × (sent ≡ [])
TellsAsked s (order entry) response sent = IsTold (denied_response NotFound) response × (sent ≡ [])
TellsAsked s (public its what) response sent = IsTold (public_response s its what) response × (sent ≡ [])
TellsAsked s (keying clerk batch entry) response sent =
    (request : Request) × IsHandedOn clerk batch entry request × IsTold (told_response (told_of (step_of s request))) response × (sent ≡ request ∷ [])

-- the response is a fault (503): the store or an allocation failed
abbrev pub TellsFault : Response → Type 0
TellsFault response = IsTold (fault_response (fault_number Store)) response

-- The response answers the request. Or an allocation failed, and either nothing was sent to the office, or what was sent counts as never sent.
abbrev pub TellsFor : HttpSettingsEntry → Option (List ℕ) → OfficeState → List Request → Response → Type 0
TellsFor settings bytes s sent response = ((asked : HttpRequestEntry) × IfSome bytes (λ xs. Asks settings xs asked)
    × TellsAsked s asked response sent) ⊎ (IsWritten (fault_response 101) response × (sent ≡ []))

-- ---- a closed office

-- the response of a closed office for something that is shown in public; the page for the screen is the same in any state
abbrev pub closed_public : PublicEntry → PublicTarget → ResponseEntry
closed_public its public_target.Index = fault_response (fault_number Closed)
closed_public its public_target.Screen = shown_response (page its.screen)
closed_public its public_target.Wards = fault_response (fault_number Closed)
closed_public its (public_target.Page ward) = fault_response (fault_number Closed)

-- The response of a closed office. A rejected request is rejected, what is shown in any state is shown, and everything else gets the fault for a closed office.
abbrev pub closed_response : HttpRequestEntry → ResponseEntry
closed_response (denied why) = denied_response why
closed_response (shown clerk show) = shown_response show
closed_response (console show) = shown_response show
closed_response (order entry) = denied_response NotFound
closed_response (public its what) = closed_public its what
closed_response (reading what) = fault_response (fault_number Closed)
closed_response (keying clerk batch entry) = fault_response (fault_number Closed)

-- The response to a rejected request, such as one from a page on another site, is the same in every state, and for a closed office too. The request changes nothing.
abbrev pub IsDeniedAlike : RequestError → Type 0
IsDeniedAlike why =
    (s t next : OfficeState) (answer : ResponseEntry) → IsAnswer s (denied why) next answer → (next ≡ s) × IsAnswer t (denied why) t answer × (answer ≡ closed_response (denied why))

-- what is shown to a clerk is also the same in every state, and for a closed office
abbrev pub IsShownAlike : ShowEntry → Type 0
IsShownAlike show =
    (clerk : ℕ) (s t next : OfficeState) (answer : ResponseEntry) → IsAnswer s (shown clerk show) next answer
    → (next ≡ s) × IsAnswer t (shown clerk show) t answer × (answer ≡ closed_response (shown clerk show))

-- what is shown to the office is also the same in every state, and for a closed office
abbrev pub IsConsoleAlike : ShowEntry → Type 0
IsConsoleAlike show =
    (s t next : OfficeState) (answer : ResponseEntry) → IsAnswer s (console show) next answer → (next ≡ s) × IsAnswer t (console show) t answer × (answer ≡ closed_response (console show))

-- the given response is ready to be written, and if the client's bytes are known, it answers what they ask for
pub record TellsClosed (settings : HttpSettingsEntry) (bytes : Option (List ℕ)) (response : Response) : Type 0 where
  pub asked : HttpRequestEntry
  pub asks : IfSome bytes (λ xs. Asks settings xs asked)
  pub tells : IsTold (closed_response asked) response

-- such a response is ready; or the allocation for reading the request failed
abbrev pub ReadiesClosed : HttpSettingsEntry → Option (List ℕ) → Response → Type 0
ReadiesClosed settings bytes response = TellsClosed settings bytes response ⊎ IsWritten (fault_response 101) response

-- ---- one connection

-- the response to a client's request is ready, along with the state that it leaves; if the client's bytes are known, they ask for exactly that
pub record ReadiesAsked (settings : HttpSettingsEntry) (bytes : Option (List ℕ)) (s : OfficeState) (response : Response) (closed : Bool) (st : State) : Type 0 where
  pub asked : HttpRequestEntry
  pub asks : IfSome bytes (λ xs. Asks settings xs asked)
  pub readies : Readies s asked response closed st

-- the response to a client's request is ready; or the allocation for reading the request failed, and nothing was sent to the office
abbrev pub ReadiesFor : HttpSettingsEntry → Option (List ℕ) → OfficeState → Response → Bool → State → Type 0
ReadiesFor settings bytes s response closed st = ReadiesAsked settings bytes s response closed st ⊎ (IsWritten (fault_response 101) response × IsOpenAt s closed st)

-- a response was written completely, or only a prefix of it if the writer failed
abbrev pub IsPut : Option (List ℕ) → Option (List ℕ) → Response → Served → Type 0
IsPut old new response (Answered status) = (status ≡ response.status) × Appends old new (told_bytes response.bytes)
IsPut old new response ReadFailed = ⊥
IsPut old new response WriteFailed = AppendsBeginning old new (told_bytes response.bytes)

-- a response that was ready, and how much of it was written
pub record IsServed (IsReady : Response → Type 0) (old new : Option (List ℕ)) (served : Served) : Type 0 where
  pub response : Response
  pub ready : IsReady response
  pub put : IsPut old new response served

-- how a connection ended: a response that was ready was written, or the reader failed
abbrev pub EndsWith : (Response → Type 0) → Type 0 → Option (List ℕ) → Option (List ℕ) → Served → Type 0
EndsWith IsReady ReadFailure old new (Answered status) = IsServed IsReady old new (Answered status)
EndsWith IsReady ReadFailure old new ReadFailed = ReadFailure
EndsWith IsReady ReadFailure old new WriteFailed = IsServed IsReady old new WriteFailed

-- what each outcome of a connection writes and leaves; if the reader failed, nothing was sent to the office
abbrev pub Serves : HttpSettingsEntry → Option (List ℕ) → Option (List ℕ) → Option (List ℕ) → OfficeState → Served → Bool → State → Type 0
Serves settings bytes old new s served closed st = EndsWith (λ response. ReadiesFor settings bytes s response closed st) (IsOpenAt s closed st) old new served

-- what each outcome of a connection writes if the office is closed; if the reader failed, nothing was written
abbrev pub ServesClosed : HttpSettingsEntry → Option (List ℕ) → Option (List ℕ) → Option (List ℕ) → Served → Type 0
ServesClosed settings bytes old new served = EndsWith (ReadiesClosed settings bytes) (new ≡ old) old new served

-- P holds if a response was written completely
abbrev pub OnAnswered : Served → Type 0 → Type 0
OnAnswered (Answered status) P = P
OnAnswered ReadFailed P = ⊤
OnAnswered WriteFailed P = ⊤

-- P holds if the reader failed
abbrev pub OnReadFailed : Served → Type 0 → Type 0
OnReadFailed (Answered status) P = ⊤
OnReadFailed ReadFailed P = P
OnReadFailed WriteFailed P = ⊤

-- P holds if the writer failed
abbrev pub OnWriteFailed : Served → Type 0 → Type 0
OnWriteFailed (Answered status) P = ⊤
OnWriteFailed ReadFailed P = ⊤
OnWriteFailed WriteFailed P = P
