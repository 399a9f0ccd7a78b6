-- How a connection is serviced, and how its request is processed.
use Rattle.std.specs.Prelude.{◌≡◌, ◌≢◌, ◌⊎◌, ⊤, Bool, true, false, List, [], ◌∷◌, None, Option, Some, Result, Ok, Err, map, option_map, ℕ}
use Rattle.std.specs.Io.KnownBytes.{IsAtEnd}
use Rattle.streams.specs.declared.streams.Broken.{Broken}
use Rattle.connections.specs.Traces.{IsServiceOutcome, IsMomentOf, ResponseAt, with_gate}
use Rattle.connections.specs.Streams.{Receives, HasTaken, Stream}
use Rattle.connections.specs.Tables.{NetworkEntry, after_look}
use Rattle.connections.specs.declared.removed.CloseReason.{CloseReason}
use Rattle.connections.specs.declared.removed.CloseReason.TheVariants.{Done, TimedOut, Evicted, Closing}
use Rattle.connections.specs.declared.client.Client.{Client}
use Rattle.connections.specs.declared.client.Listener.{Listener}
use Rattle.connections.specs.declared.client.Listener.TheVariants.{Clients, Orders}
use Rattle.wire.specs.Gates.{HttpSettingsEntry}
use Rattle.wire.specs.Completeness.{IsWhole}
use Rattle.wire.specs.Parsing.{IsParsed}
use Rattle.wire.specs.declared.parsed.Parsed.{Parsed}
use Rattle.server.specs.declared.servicing.Serviced.{Serviced}
use Rattle.server.specs.declared.servicing.Serviced.TheVariants.{Waits, Served, Leaves}
use Rattle.server.specs.ServedOrders.{IsWholeMessage}
use Rattle.server.specs.Reads.{ServedOffice}
use Rattle.server.specs.RecordChanges.{ServedView}
use Rattle.server.specs.Settings.{ServerSettingsEntry}
use Rattle.server.specs.Exchanges.{ServesExchange, Exchange}

-- a client's request is complete: what the bytes ask for doesn't depend on what follows them, or the connection sends no more
abbrev pub IsComplete : HttpSettingsEntry → Option (List ℕ) → List ℕ → Type 0
IsComplete settings held got = IsWhole settings got ⊎ IsAtEnd held

-- a client's request is complete, given the client's parsed head
abbrev pub IsCompleteFor : HttpSettingsEntry → Option (List ℕ) → List ℕ → Parsed → Type 0
IsCompleteFor settings held got parsed = IsComplete settings held got × IsParsed settings got parsed

-- the request on a connection from either listener is complete; an order is complete once its whole message has arrived
abbrev pub HasComeAt : Listener → ServerSettingsEntry → Option (List ℕ) → List ℕ → Type 0
HasComeAt Clients settings held got = IsComplete settings.clients held got
HasComeAt Orders settings held got = IsWholeMessage got

-- nothing has been sent yet on a connection without a response, as far as it is known what its stream has accepted
abbrev pub HasSentNothing : {L : Type 0} → Stream L → Client L → Type 0
HasSentNothing stream client = client.answer ≡ None → HasTaken (stream.taken client.stream) []

-- the response of a connection, if it has one
abbrev pub answer_of : {L : Type 0} → Client L → Option (List ℕ)
answer_of client = option_map (λ answer. answer.bytes.items) client.answer

-- Two values represent the same connection, with the same time limit.
abbrev pub IsSameClient : {L : Type 0} → Client L → Client L → Type 0
IsSameClient old new = (new.listener ≡ old.listener) × (new.number ≡ old.number) × (new.since ≡ old.since)

-- The request of a connection was processed while the connection was serviced at a given time. Its own bytes were received until the request was complete, the request
-- in exactly those bytes was processed, and the connection has the resulting response.
pub record HasResponded {L S R : Type 0} (settings : ServerSettingsEntry) (stream : Stream L) (view : ServedView S R) (now : ℕ) (old new : Client L) (before later : ServedOffice S R) : Type 0 where
  pub exchange : Exchange
  pub listener : exchange.listener ≡ old.listener
  pub number : exchange.number ≡ old.number
  pub moment : exchange.moment ≡ now
  pub unanswered : old.answer ≡ None
  pub received : L
  pub own : Receives stream old.stream received old.got.items exchange.got
  pub come : HasComeAt old.listener settings (stream.held received) exchange.got
  pub served : ServesExchange settings view before exchange later
  pub belongs : answer_of new ≡ Some exchange.answer

-- the exchanges of a connection while it was serviced at a given time: one if its request was processed, otherwise none
abbrev pub HasExchanges : {L S R : Type 0} → ServerSettingsEntry → Stream L → ServedView S R → ℕ → List Exchange → Client L → Client L → ServedOffice S R → ServedOffice S R → Type 0
HasExchanges settings stream view now [] old new before later = (later ≡ before) × (answer_of new ≡ answer_of old)
HasExchanges settings stream view now (exchange ∷ []) old new before later = (turn : HasResponded settings stream view now old new before later) × (turn.exchange ≡ exchange)
HasExchanges settings stream view now (exchange ∷ other ∷ more) old new before later = ⊥

-- the connection's request was processed; or the office, the server's memory and the response are unchanged
abbrev pub MayHaveResponded : {L S R : Type 0} → ServerSettingsEntry → Stream L → ServedView S R → ℕ → Client L → Client L → ServedOffice S R → ServedOffice S R → Type 0
MayHaveResponded settings stream view now old new before later = HasResponded settings stream view now old new before later ⊎ ((later ≡ before) × (answer_of new ≡ answer_of old))

-- The outcome of servicing a connection. It waits, and its request hasn't been processed; or its request has just been processed; or, in either case, the connection
-- should be closed.
abbrev pub Services : {L S R : Type 0} → ServerSettingsEntry → Stream L → ServedView S R → ℕ → Serviced → Client L → Client L → ServedOffice S R → ServedOffice S R → Type 0
Services settings stream view now Waits old new before later = (later ≡ before) × (answer_of new ≡ answer_of old)
Services settings stream view now Served old new before later = HasResponded settings stream view now old new before later
Services settings stream view now (Leaves why) old new before later = MayHaveResponded settings stream view now old new before later

-- a connection from which nothing more can be received is broken or unreadable
abbrev pub FailsOnlyAsLost : {A : Type 0} → Result A CloseReason → Type 0
FailsOnlyAsLost result = (result ≢ Err Done) × (result ≢ Err TimedOut) × (result ≢ Err Evicted) × (result ≢ Err Closing)

-- ---- the clock

-- an exchange, as an entry in the list of responses
abbrev pub response_at : Exchange → ResponseAt
response_at exchange = record { number = exchange.number; moment = exchange.moment; answer = exchange.answer }

-- the time at which a request is processed: the clock's reading, or 0 if the clock wasn't read
abbrev pub moment_of : Option ℕ → ℕ
moment_of None = 0
moment_of (Some now) = now

-- the clock was read for a request if and only if wrong codes are counted
abbrev pub IsAtGate : Bool → Option ℕ → List Exchange → Type 0
IsAtGate gated gate [] = ⊤
IsAtGate gated gate (exchange ∷ exchanges) = IsMomentOf gated gate exchange.moment

-- the clock is read if and only if wrong codes are counted
abbrev pub LooksAtGate : {L : Type 0} → Bool → Result ℕ Broken → NetworkEntry L → NetworkEntry L → Type 0
LooksAtGate true result before later = later ≡ after_look result before
LooksAtGate false result before later = (result ≡ Ok 0) × (later ≡ before)

-- An open connection that the network reported as ready was serviced, with the given outcome. Either its request was processed, at the time read from the clock, or it
-- wasn't processed.
pub record WasServiced {L S R : Type 0} (gated : Bool) (settings : ServerSettingsEntry) (stream : Stream L) (view : ServedView S R) (result : Result (Option CloseReason) Broken)
    (before later : NetworkEntry L)
    (old new : Client L) (at behind : ServedOffice S R) : Type 0 where
  pub gate : Option ℕ
  pub exchanges : List Exchange
  pub had : HasExchanges settings stream view (moment_of gate) exchanges old new at behind
  pub at_gate : IsAtGate gated gate exchanges
  pub comes : IsServiceOutcome stream (map response_at exchanges) old new result (with_gate gate before) later
