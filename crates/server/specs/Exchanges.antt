-- Requests from clients, and orders, processed in one office, one at a time, and what is kept of them.
use Rattle.std.specs.Prelude.{◌≡◌, ◌⊎◌, ⊤, Bool, true, false, List, [], ◌∷◌, ◌++◌, None, Option, Some, length, ℕ}
use Rattle.sqlite.specs.Held.{Held}
use Rattle.sqlite.specs.State.{HasCleanDisk, State}
use Rattle.register.specs.Machine.{after, after_one, is_accepted, step_of}
use Rattle.register.specs.Offices.{OfficeState, empty_office}
use Rattle.register.specs.declared.command.Request.{Request}
use Rattle.office.specs.Answers.{IsOpenAt, IsReadAt, WhenOpenAt}
use Rattle.office.specs.Runs.{IsAfterBeginning, Keeps}
use Rattle.office.specs.Values.{OfficeValue}
use Rattle.connections.specs.declared.client.Listener.{Listener}
use Rattle.connections.specs.declared.client.Listener.TheVariants.{Clients, Orders}
use Rattle.wire.specs.Bodies.{KeyingEntry}
use Rattle.wire.specs.ConsoleOrders.{ConsoleOrderEntry}
use Rattle.wire.specs.Requests.{HttpRequestEntry, Asks, console, denied, keying, order, public, reading, shown}
use Rattle.wire.specs.Gates.{HttpSettingsEntry, IsAuthentication, AuthenticationEntry}
use Rattle.wire.specs.Responses.{fault_response, waits_response}
use Rattle.wire.specs.Told.{IsTold, IsWritten}
use Rattle.wire.specs.Serving.{AcceptsKeying, IsHandedOn, IsServed, Readies, ReadiesClosed, ReadiesFor, TellsFault, TellsFor, closed_response}
use Rattle.wire.specs.declared.serving.Served.{Served}
use Rattle.wire.specs.declared.target.Resource.{Resource}
use Rattle.desk.specs.Records.{IsRecordOf, LeavesRecord, Records}
use Rattle.server.specs.Endings.{EndsIn}
use Rattle.server.specs.RecordChanges.{RecordChange, ServedView, change_in}
use Rattle.server.specs.ServedOrders.{FollowsOrder, IsRefusedClosed, OrderPrints}
use Rattle.server.specs.ConsoleOrders.{FollowsConsole, IsConsoleTurnedAway, ConsolePrints}
use Rattle.server.specs.Reads.{AreReadAt, ServedOffice, limit_after, must_wait}
use Rattle.server.specs.Settings.{ServerSettingsEntry}

-- A request from a client, or an order, and its response: the listener that accepted the connection, the connection's number, the time at which the request was
-- processed, in milliseconds of a clock, the bytes received, and the response.
pub record Exchange : Type 0 where
  pub listener : Listener
  pub number : ℕ
  pub moment : ℕ
  pub got : List ℕ
  pub answer : List ℕ

-- ---- one request, given the office's file and the origin of a proxy, if any

-- a response was written, from its first byte on, with the given outcome
abbrev pub EndsSo : Exchange → (Option (List ℕ) → Option (List ℕ) → Served → Type 0) → Type 0
EndsSo exchange IsEnd = EndsIn exchange.answer IsEnd

-- The office answered a request. If it was open, the given bytes are the response, with the state that the request left; if it was closed, they say so.
pub record HasAnswered {S : Type 0} (state_of : Held S → State) (old : OfficeValue S) (asked : HttpRequestEntry) (answer : List ℕ) (new : OfficeValue S) : Type 0 where
  pub serves : WhenOpenAt state_of old new (λ s. EndsIn answer (IsServed (λ response. Readies s asked response new.closed (state_of new.held))))
  pub turned_away : old.closed ≡ true → EndsIn answer (IsServed (IsTold (closed_response asked))) × (new ≡ old)
  pub clean : HasCleanDisk (state_of new.held) → HasCleanDisk (state_of old.held)

-- the request changes nothing: it is neither a keying nor an order
abbrev pub ChangesNothing : HttpRequestEntry → Type 0
ChangesNothing (denied why) = ⊤
ChangesNothing (shown clerk show) = ⊤
ChangesNothing (reading what) = ⊤
ChangesNothing (keying clerk batch entry) = ⊥
ChangesNothing (console show) = ⊤
ChangesNothing (order entry) = ⊥
ChangesNothing (public its what) = ⊤

-- the given bytes don't contain an order from the console
abbrev pub AsksNoOrder : HttpSettingsEntry → List ℕ → Type 0
AsksNoOrder settings bytes = (entry : ConsoleOrderEntry) → Asks settings bytes (order entry) → ⊥

-- what processing a request leaves in the cache: nothing; or the request changes nothing, and if the cache was correct in the state, it still is
abbrev pub KeepsReads : {S R : Type 0} → HttpSettingsEntry → (Held S → State) → ServedOffice S R → List ℕ → ServedOffice S R → Type 0
KeepsReads settings state_of old got new =
    (new.kept.reads ≡ [])
    ⊎ (((asked : HttpRequestEntry) × Asks settings got asked × ChangesNothing asked)
    × WhenOpenAt state_of old.office new.office (λ s. AreReadAt s old.kept.reads → AreReadAt s new.kept.reads × IsReadAt s new.office.closed (state_of new.office.held)))

-- the request that the office accepted for a keying, if any, was recorded; if it accepted none, the record is unchanged
abbrev pub RecordsAccepted : {S R : Type 0} → ServedView S R → R → R → Option Request → Type 0
RecordsAccepted view old new (Some request) = (view.failed new ≡ false) × Records request (view.found old) (view.found new) (view.failed new)
RecordsAccepted view old new None = new ≡ old

-- A clerk's keying was sent to the office, and if the office accepted it, it was recorded before the response was sent. The record hadn't failed before.
pub record IsKeyingSent {S R : Type 0} (settings : HttpSettingsEntry) (view : ServedView S R) (old : ServedOffice S R) (exchange : Exchange) (new : ServedOffice S R) : Type 0 where
  pub clerk : ℕ
  pub batch : ℕ
  pub entry : KeyingEntry
  pub asks : Asks settings exchange.got (keying clerk batch entry)
  pub accepted : Option Request
  pub answered : WhenOpenAt view.state_of old.office new.office
      (λ s. EndsSo exchange (IsServed (λ response. AcceptsKeying s clerk batch entry response accepted new.office.closed (view.state_of new.office.held))))
  pub none_closed : old.office.closed ≡ true → accepted ≡ None
  pub had_not_failed : view.failed old.kept.recorder ≡ false
  pub recorded : RecordsAccepted view old.kept.recorder new.kept.recorder accepted

-- no keying is sent to the office: the request changes nothing, or an allocation failed before the office was asked
abbrev pub SendsNothing : {S R : Type 0} → HttpSettingsEntry → ServedOffice S R → Exchange → ServedOffice S R → Type 0
SendsNothing settings old exchange new =
    ((asked : HttpRequestEntry) × Asks settings exchange.got asked × ChangesNothing asked)
    ⊎ (EndsSo exchange (IsServed (IsWritten (fault_response 101))) × (new.office ≡ old.office))

-- what a client's request leaves of the record: it is unchanged, and no keying was sent to the office; or the client's keying was sent, and recorded if it was accepted
abbrev pub KeepsRecord : {S R : Type 0} → HttpSettingsEntry → ServedView S R → ServedOffice S R → Exchange → ServedOffice S R → Type 0
KeepsRecord settings view old exchange new =
    ((new.kept.recorder ≡ old.kept.recorder) × SendsNothing settings old exchange new) ⊎ IsKeyingSent settings view old exchange new

-- A client was served, by the office or from the cache. If the office was open and the cache was correct, the response answers the client's request, with the state
-- that the request left. If the office was closed, the response says so. A keying is sent to the office only if the record hasn't failed; and if it is accepted, it is
-- recorded.
pub record ServesClient {S R : Type 0} (settings : HttpSettingsEntry) (view : ServedView S R) (old : ServedOffice S R) (exchange : Exchange) (new : ServedOffice S R) : Type 0 where
  pub serves : WhenOpenAt view.state_of old.office new.office
      (λ s. AreReadAt s old.kept.reads → EndsSo exchange (IsServed (λ response. ReadiesFor settings (Some exchange.got) s response new.office.closed (view.state_of new.office.held))))
  pub keeps : KeepsReads settings view.state_of old exchange.got new
  pub turned_away : old.office.closed ≡ true → EndsSo exchange (IsServed (ReadiesClosed settings (Some exchange.got))) × (new.office ≡ old.office)
  pub clean : HasCleanDisk (view.state_of new.office.held) → HasCleanDisk (view.state_of old.office.held)
  pub record_kept : KeepsRecord settings view old exchange new

-- the response says that the client must wait
abbrev pub IsWaitResponse : Exchange → Type 0
IsWaitResponse exchange = EndsSo exchange (IsServed (IsWritten waits_response))

-- the response says that the file of the office is gone or replaced
abbrev pub IsGoneResponse : Exchange → Type 0
IsGoneResponse exchange = EndsSo exchange (IsServed (IsWritten (fault_response 113)))

-- the response says that the request wasn't recorded a second time
abbrev pub IsUnrecordedResponse : Exchange → Type 0
IsUnrecordedResponse exchange = EndsSo exchange (IsServed (IsWritten (fault_response 112)))

-- a client is turned away: it must wait, or the file is gone (and isn't known to be whole), or the office has a second record, which failed
abbrev pub IsRejected : ServerSettingsEntry → Exchange → Type 0
IsRejected settings exchange =
    IsWaitResponse exchange ⊎ ((IsGoneResponse exchange × (settings.whole ≡ Some true → ⊥)) ⊎ (IsUnrecordedResponse exchange × (settings.recorded ≡ true)))

-- The file of the office is gone or replaced: the response says so, and nothing changes. The file isn't known to be whole, and the client isn't reading from an open office.
pub record IsWithoutFile {S R : Type 0} (settings : ServerSettingsEntry) (old : ServedOffice S R) (exchange : Exchange) (new : ServedOffice S R) : Type 0 where
  pub told : IsGoneResponse exchange
  pub stays : new ≡ old
  pub unknown : settings.whole ≡ Some true → ⊥
  pub reads_none : old.office.closed ≡ false → (what : Resource) → Asks settings.clients exchange.got (reading what) → ⊥

-- a client's code is wrong, and the rate limit is reached: the response says that the client must wait, and nothing changes
pub record IsRateLimited {S R : Type 0} (settings : HttpSettingsEntry) (old : ServedOffice S R) (exchange : Exchange) (new : ServedOffice S R) : Type 0 where
  pub authentication : Option AuthenticationEntry
  pub is : IsAuthentication settings exchange.got authentication
  pub waits : must_wait authentication exchange.moment old.kept.limit ≡ true
  pub told : IsWaitResponse exchange
  pub stays : new ≡ old

-- A clerk's keying isn't sent to the office, because the record has failed. The response says so, and the office and its record are unchanged.
pub record IsKeyingRefused {S R : Type 0} (settings : ServerSettingsEntry) (view : ServedView S R) (old : ServedOffice S R) (exchange : Exchange) (new : ServedOffice S R) : Type 0 where
  pub clerk : ℕ
  pub batch : ℕ
  pub entry : KeyingEntry
  pub asks : Asks settings.clients exchange.got (keying clerk batch entry)
  pub told : IsUnrecordedResponse exchange
  pub recorded : settings.recorded ≡ true
  pub failed : view.failed old.kept.recorder ≡ true
  pub stays : new.office ≡ old.office
  pub same : new.kept.recorder ≡ old.kept.recorder

-- A clerk's keying was sent to the office, which was open and accepted it, but recording it failed. The response says so, and the keying remains in effect.
pub record IsKeyingUnrecorded {S R : Type 0} (settings : ServerSettingsEntry) (view : ServedView S R) (old : ServedOffice S R) (exchange : Exchange) (new : ServedOffice S R) : Type 0 where
  pub clerk : ℕ
  pub batch : ℕ
  pub entry : KeyingEntry
  pub request : Request
  pub asks : Asks settings.clients exchange.got (keying clerk batch entry)
  pub handed : IsHandedOn clerk batch entry request
  pub was_open : old.office.closed ≡ false
  pub accepted : WhenOpenAt view.state_of old.office new.office
      (λ s. (is_accepted (step_of s request) ≡ true) × IsOpenAt (after_one s request) new.office.closed (view.state_of new.office.held))
  pub had_not_failed : view.failed old.kept.recorder ≡ false
  pub failed : view.failed new.kept.recorder ≡ true
  pub recorded : settings.recorded ≡ true
  pub leaves : Records request (view.found old.kept.recorder) (view.found new.kept.recorder) (view.failed new.kept.recorder)
  pub told : IsUnrecordedResponse exchange
  pub clean : HasCleanDisk (view.state_of new.office.held) → HasCleanDisk (view.state_of old.office.held)

-- A client that sends no order is served. But a clerk's keying isn't sent to the office once the record has failed, and isn't acknowledged if recording it fails; then the
-- cache is emptied, too. An order that a client sends is carried out, and the cache is emptied.
abbrev pub ServesAsked : {S R : Type 0} → ServerSettingsEntry → ServedView S R → ServedOffice S R → Exchange → ServedOffice S R → Type 0
ServesAsked settings view old exchange new =
    ((AsksNoOrder settings.clients exchange.got × ServesClient settings.clients view old exchange new)
    ⊎ (FollowsConsole settings view.state_of (change_in view old.kept.recorder new.kept.recorder) old.office exchange.got exchange.answer new.office × (new.kept.reads ≡ [])))
    ⊎ ((IsKeyingRefused settings view old exchange new ⊎ IsKeyingUnrecorded settings view old exchange new) × (new.kept.reads ≡ []))

-- otherwise the client is served what it asks for; and if its code was wrong, the code is counted
pub record IsAdmitted {S R : Type 0} (settings : ServerSettingsEntry) (view : ServedView S R) (old : ServedOffice S R) (exchange : Exchange) (new : ServedOffice S R) : Type 0 where
  pub authentication : Option AuthenticationEntry
  pub is : IsAuthentication settings.clients exchange.got authentication
  pub free : must_wait authentication exchange.moment old.kept.limit ≡ false
  pub serves : ServesAsked settings view old exchange new
  pub noted : new.kept.limit ≡ limit_after authentication exchange.moment old.kept.limit

-- the request of a client was processed: it must wait, or the file is gone, or it is admitted
abbrev pub RespondsToClient : {S R : Type 0} → ServerSettingsEntry → ServedView S R → ServedOffice S R → Exchange → ServedOffice S R → Type 0
RespondsToClient settings view old exchange new =
    (IsRateLimited settings.clients old exchange new ⊎ IsWithoutFile settings old exchange new) ⊎ IsAdmitted settings view old exchange new

-- The request of a connection from the given listener was processed: a client's request as above; or an order that is handed over is carried out, the cache is emptied,
-- and no wrong code is counted.
abbrev pub ServesAt : {S R : Type 0} → Listener → ServerSettingsEntry → ServedView S R → ServedOffice S R → Exchange → ServedOffice S R → Type 0
ServesAt Clients settings view old exchange new = RespondsToClient settings view old exchange new
ServesAt Orders settings view old exchange new =
    FollowsOrder settings view.state_of (change_in view old.kept.recorder new.kept.recorder) old.office exchange.got exchange.answer new.office
    × (new.kept.reads ≡ []) × (new.kept.limit ≡ old.kept.limit)

abbrev pub ServesExchange : {S R : Type 0} → ServerSettingsEntry → ServedView S R → ServedOffice S R → Exchange → ServedOffice S R → Type 0
ServesExchange settings view old exchange new = ServesAt exchange.listener settings view old exchange new

-- ---- one request after another

-- the last request is the clerk's keying that the given bytes contain, or there is none
abbrev pub IsLastFor : HttpSettingsEntry → List ℕ → List Request → Type 0
IsLastFor settings bytes last =
    (last ≡ [])
    ⊎ ((clerk batch : ℕ) × (entry : KeyingEntry) × (request : Request) × Asks settings bytes (keying clerk batch entry) × IsHandedOn clerk batch entry request × (last ≡ request ∷ []))

-- A client that asks a closed office for anything gets the response saying that it is closed, or it is turned away. For an order from the console, the response is what
-- a closed office prints.
abbrev pub GetsClosedResponse : Listener → ServerSettingsEntry → Exchange → Type 0
GetsClosedResponse Clients settings exchange =
    (IsRejected settings exchange ⊎ (AsksNoOrder settings.clients exchange.got × EndsSo exchange (IsServed (ReadiesClosed settings.clients (Some exchange.got)))))
    ⊎ IsConsoleTurnedAway settings exchange.got exchange.answer
GetsClosedResponse Orders settings exchange = IsRefusedClosed settings exchange.got exchange.answer

-- each of the given exchanges has such a response
abbrev pub AreRefusedClosed : ServerSettingsEntry → List Exchange → Type 0
AreRefusedClosed settings [] = ⊤
AreRefusedClosed settings (exchange ∷ exchanges) = GetsClosedResponse exchange.listener settings exchange × AreRefusedClosed settings exchanges

-- A client that sends no order is served in a given state, and the given commands were answered for it: none, or one keying, and then the response is the office's
-- reply to that keying. For a client that is turned away there are none.
abbrev pub IsClientAnsweredAt : ServerSettingsEntry → OfficeState → Exchange → List Request → Type 0
IsClientAnsweredAt settings s exchange sent =
    (IsRejected settings exchange × (sent ≡ []))
    ⊎ (AsksNoOrder settings.clients exchange.got × EndsSo exchange (IsServed (TellsFor settings.clients (Some exchange.got) s sent)))

-- A request is processed in a given state, and the given commands were answered for it: a client's as above; or those reported in the output of an order, whether from
-- the console or handed over.
abbrev pub IsAnsweredAt : {S : Type 0} → Listener → (Held S → State) → ServerSettingsEntry → OfficeState → Exchange → List Request → Type 0
IsAnsweredAt Clients state_of settings s exchange sent =
    IsClientAnsweredAt settings s exchange sent ⊎ ((last : List Request) × ConsolePrints state_of settings s exchange.got exchange.answer sent last)
IsAnsweredAt Orders state_of settings s exchange sent = (last : List Request) × OrderPrints state_of settings s exchange.got exchange.answer sent last

-- a fault, which is the response, closed the office while a client that sends no order was served: no command was answered for it, and its keying may or may not be kept
pub record IsClientStopped (settings : ServerSettingsEntry) (exchange : Exchange) (answered last : List Request) : Type 0 where
  pub no_order : AsksNoOrder settings.clients exchange.got
  pub told : EndsSo exchange (IsServed TellsFault)
  pub none : answered ≡ []
  pub is_last : IsLastFor settings.clients exchange.got last

-- A fault closed the office during a request: the given commands were answered for it, and another one may or may not be kept. The response to a client is the fault,
-- and the output of an order reports it.
abbrev pub IsStoppedAt : {S : Type 0} → Listener → (Held S → State) → ServerSettingsEntry → OfficeState → Exchange → List Request → List Request → Type 0
IsStoppedAt Clients state_of settings s exchange answered last =
    IsClientStopped settings exchange answered last ⊎ ConsolePrints state_of settings s exchange.got exchange.answer answered last
IsStoppedAt Orders state_of settings s exchange answered last = OrderPrints state_of settings s exchange.got exchange.answer answered last

-- A clerk's keying was accepted, but it isn't acknowledged, because recording it failed: the response says so, and no command was answered for it.
pub record IsKeyingUnacknowledged (settings : ServerSettingsEntry) (exchange : Exchange) (answered last : List Request) : Type 0 where
  pub clerk : ℕ
  pub batch : ℕ
  pub entry : KeyingEntry
  pub request : Request
  pub asks : Asks settings.clients exchange.got (keying clerk batch entry)
  pub handed : IsHandedOn clerk batch entry request
  pub told : IsUnrecordedResponse exchange
  pub none : answered ≡ []
  pub is_last : last ≡ request ∷ []

-- The record failed during a request: the given commands were answered for it, and another one may or may not have been accepted without being acknowledged. The response
-- to a client, or the output of an order, says so.
abbrev pub IsUnacknowledgedAt : {S : Type 0} → Listener → (Held S → State) → ServerSettingsEntry → OfficeState → Exchange → List Request → List Request → Type 0
IsUnacknowledgedAt Clients state_of settings s exchange answered last =
    IsKeyingUnacknowledged settings exchange answered last ⊎ ConsolePrints state_of settings s exchange.got exchange.answer answered last
IsUnacknowledgedAt Orders state_of settings s exchange answered last = OrderPrints state_of settings s exchange.got exchange.answer answered last

-- the state after the answered commands, or also after the last one
abbrev pub IsAfterLast : OfficeState → List Request → List Request → OfficeState → Type 0
IsAfterLast s answered last next = (next ≡ after s answered) ⊎ (next ≡ after s (answered ++ last))

-- All requests are processed in turn, each as the office's state machine says for the state in which it is processed, and the given commands were answered for them. Or
-- a fault closed the office during one of them, and every later one gets the response saying that the office is closed. Or the office has a second record, which failed
-- during one of them; the office stays open, and no command is sent to it for any later one.
abbrev pub AnswersInTurn : {S : Type 0} → (Held S → State) → ServerSettingsEntry → OfficeState → List Exchange → List Request → List Request → Type 0
AnswersInTurn state_of settings s [] answered last = (answered ≡ []) × (last ≡ [])
AnswersInTurn state_of settings s (exchange ∷ exchanges) answered last =
    ((sent : List Request) × (others : List Request) × IsAnsweredAt exchange.listener state_of settings s exchange sent × (answered ≡ sent ++ others)
    × AnswersInTurn state_of settings (after s sent) exchanges others last)
    ⊎ ((IsStoppedAt exchange.listener state_of settings s exchange answered last × AreRefusedClosed settings exchanges)
    ⊎ ((settings.recorded ≡ true) × IsUnacknowledgedAt exchange.listener state_of settings s exchange answered last
    × ((next : OfficeState) × IsAfterLast s answered last next × AnswersInTurn state_of settings next exchanges [] [])))

-- The office is open in the first of two states. If it has a second record, it may be open in the second state.
abbrev pub IsOpenIn : Bool → OfficeState → OfficeState → Bool → State → Type 0
IsOpenIn false s next closed st = IsOpenAt s closed st
IsOpenIn true s next closed st = IsOpenAt s closed st ⊎ IsOpenAt next closed st

-- What is kept of the requests that were processed, after earlier ones. An open office is in the state after all requests that were answered; if its second record failed,
-- possibly in the state after one more. Whatever a stop leaves is the state after the accepted requests of a prefix, which contains every earlier request, every one that
-- was answered, and at most one more.
pub record KeepsExchanges {S : Type 0} (state_of : Held S → State) (settings : ServerSettingsEntry) (earlier : List Request) (exchanges : List Exchange) (closed : Bool) (st : State) : Type 0 where
  pub answered : List Request
  pub last : List Request
  pub in_turn : AnswersInTurn state_of settings (after empty_office earlier) exchanges answered last
  pub open_at : closed ≡ false → IsOpenIn settings.recorded (after empty_office (earlier ++ answered)) (after empty_office (earlier ++ (answered ++ last))) closed st
  pub keeps : Keeps earlier (answered ++ last) (length answered) st

-- What is kept of requests in a second record that led to the state after earlier ones, given the requests that were answered, and the last one. Whatever a stop leaves of it
-- leads to the state after the accepted requests of a prefix, which contains every earlier request, every one that was answered, and at most one more. If the record hasn't
-- failed and the office is still open, the record is complete again: it leads to exactly the state after all requests that were answered.
pub record KeepsInRecord (change : RecordChange) (closed : Bool) (earlier answered last : List Request) : Type 0 where
  pub leaves : IsRecordOf change.old (after empty_office earlier) → LeavesRecord change.new (IsAfterBeginning earlier (answered ++ last) (length answered))
  pub whole : change.has_failed ≡ false → closed ≡ false → IsRecordOf change.old (after empty_office earlier) → IsRecordOf change.new (after empty_office (earlier ++ answered))
