-- What happened to the open connections, step by step, as the network sees it.
use Rattle.std.specs.Prelude.{◌≡◌, ◌<◌, ◌-◌, ◌⊎◌, Bool, true, false, List, [], ◌∷◌, ◌++◌, None, Option, Some, Result, Ok, Err, length, map, option_map, set, slice_index_or, ℕ}
use Rattle.std.specs.List.{All, FoldsTo, flat_map, remove}
use Rattle.streams.specs.declared.streams.Broken.{Broken}
use Rattle.connections.specs.Clients.{IsNew, IsOf}
use Rattle.connections.specs.Closing.{EndsFor, IsClosedByRule, IsClosedForBytes, IsEvicted, eviction_rule, timeout_rule, timeout}
use Rattle.connections.specs.Removals.{removed_of}
use Rattle.connections.specs.Streams.{Stream}
use Rattle.connections.specs.Tables.{NetworkEntry, Event, broke, handed_back, let_in, named, ran_out, showed, with_failure, with_moment}
use Rattle.connections.specs.declared.client.Client.{Client}
use Rattle.connections.specs.declared.client.Accepted.{Accepted}
use Rattle.connections.specs.declared.removed.Removed.{Removed}
use Rattle.connections.specs.declared.removed.CloseReason.{CloseReason}

-- A response: the number of its connection, the time at which the request was processed, and the response itself.
pub record ResponseAt : Type 0 where
  pub number : ℕ
  pub moment : ℕ
  pub answer : List ℕ

-- ---- one connection is serviced

-- How servicing a connection ends: it stays open and waits; or its request was processed, and its time limit restarts at a given time; or it is closed; or the clock
-- fails.
pub data ServiceEnd (L : Type 0) : Type 0 where
  waits : ServiceEnd L
  anew : ℕ → ServiceEnd L
  leaves : Removed L → ServiceEnd L
  stops : ServiceEnd L

-- The network reported a connection as ready, by its number, and the connection is serviced. If wrong codes are counted, the clock is read first. Then the connection's
-- request may be processed.
pub record ServiceStep (L : Type 0) : Type 0 where
  pub number : ℕ
  pub gate : Option ℕ
  pub turns : List ResponseAt
  pub service_end : ServiceEnd L

-- the response of a connection, if it has one
abbrev pub response_of : {L : Type 0} → Client L → Option (List ℕ)
response_of client = option_map (λ answer. answer.bytes.items) client.answer

-- the time at which a request is processed: the one just read from the clock if wrong codes are counted, otherwise 0
abbrev pub IsMomentOf : Bool → Option ℕ → ℕ → Type 0
IsMomentOf true (Some now) moment = moment ≡ now
IsMomentOf true None moment = ⊥
IsMomentOf false (Some now) moment = ⊥
IsMomentOf false None moment = moment ≡ 0

-- The response is unchanged. Or there was none, the request was processed, and the connection now has the given response.
abbrev pub HadResponses : {L : Type 0} → Bool → Option ℕ → List ResponseAt → Client L → Client L → Type 0
HadResponses gated gate [] old new = response_of new ≡ response_of old
HadResponses gated gate (turn ∷ []) old new = (turn.number ≡ old.number) × (old.answer ≡ None) × (response_of new ≡ Some turn.answer) × IsMomentOf gated gate turn.moment
HadResponses gated gate (turn ∷ other ∷ more) old new = ⊥

-- The connection is back in its place. Its time limit is unchanged if its request wasn't processed or the clock failed afterwards; otherwise the time limit is a new
-- one. Or the connection was closed, for a reason that applies.
abbrev pub EndsService : {L : Type 0} → Stream L → ServiceEnd L → List ResponseAt → List (Client L) → ℕ → Client L → Client L → List (Client L) → Type 0
EndsService stream waits turns clients place old new later = (turns ≡ []) × (new.since ≡ old.since) × (later ≡ set clients place new)
EndsService stream (anew now) turns clients place old new later = ((turn : ResponseAt) × (turns ≡ turn ∷ [])) × (new.since ≡ now) × (later ≡ set clients place new)
EndsService stream (leaves removed) turns clients place old new later =
    (why : CloseReason) × (new.since ≡ old.since) × EndsFor stream why new × (removed ≡ removed_of new why) × (later ≡ remove clients place)
EndsService stream stops turns clients place old new later = (new.since ≡ old.since) × (later ≡ set clients place new)

-- an open connection was serviced: it was read from or written to, and is still the same connection
pub record IsServicedSo {L : Type 0} (gated : Bool) (stream : Stream L) (service_step : ServiceStep L) (clients later : List (Client L)) : Type 0 where
  pub place : ℕ
  pub within : place < length clients
  pub old : Client L
  pub here : old ≡ slice_index_or clients place old
  pub number : old.number ≡ service_step.number
  pub new : Client L
  pub same : (new.listener ≡ old.listener) × (new.number ≡ old.number)
  pub own : (start : L) → IsOf stream start old → IsOf stream start new
  pub had : HadResponses gated service_step.gate service_step.turns old new
  pub ends : EndsService stream service_step.service_end service_step.turns clients place old new later

-- the network, after the clock was read if wrong codes are counted
abbrev pub with_gate : {L : Type 0} → Option ℕ → NetworkEntry L → NetworkEntry L
with_gate None network = network
with_gate (Some now) network = with_moment network now

-- The outcome after a connection was read from or written to. It stays open: with the same time limit if its request wasn't processed, otherwise with one that starts
-- at the time that the clock then returns. Or it is closed, for a reason that applies. Or the clock failed.
abbrev pub IsServiceOutcome : {L : Type 0} → Stream L → List ResponseAt → Client L → Client L → Result (Option CloseReason) Broken → NetworkEntry L → NetworkEntry L → Type 0
IsServiceOutcome stream turns old new (Ok None) before later =
    ((turns ≡ []) × (new.since ≡ old.since) × (later ≡ before)) ⊎ (((turn : ResponseAt) × (turns ≡ turn ∷ [])) × (later ≡ with_moment before new.since))
IsServiceOutcome stream turns old new (Ok (Some why)) before later = (new.since ≡ old.since) × EndsFor stream why new × (later ≡ before)
IsServiceOutcome stream turns old new (Err broken) before later = (new.since ≡ old.since) × (later ≡ with_failure before)

-- ---- one step

-- One step. The clock is read, and connections that have timed out are closed. Or a connection is accepted; or serviced; or reported as ready although it is no longer
-- open; or closed to make room. Or the system has no room for another connection, and one may be closed to make room. Or a call to the network fails.
pub data TraceStep (L : Type 0) : Type 0 where
  looks : ℕ → List (Removed L) → TraceStep L
  enters : Accepted L → TraceStep L
  goes_on : ServiceStep L → TraceStep L
  misses : ℕ → TraceStep L
  closes : Removed L → TraceStep L
  makes_way : Removed L → TraceStep L
  keeps_out : TraceStep L
  fails : TraceStep L

-- what happens on the network during the step
abbrev pub gate_events : {L : Type 0} → Option ℕ → List (Event L)
gate_events None = []
gate_events (Some now) = showed now ∷ []

abbrev pub service_end_events : {L : Type 0} → ServiceEnd L → List (Event L)
service_end_events waits = []
service_end_events (anew now) = showed now ∷ []
service_end_events (leaves removed) = handed_back removed ∷ []
service_end_events stops = broke ∷ []

abbrev pub events_of : {L : Type 0} → TraceStep L → List (Event L)
events_of (looks now gone) = showed now ∷ map handed_back gone
events_of (enters accepted) = let_in accepted ∷ []
events_of (goes_on service_step) = named service_step.number ∷ (gate_events service_step.gate ++ service_end_events service_step.service_end)
events_of (misses number) = named number ∷ []
events_of (closes removed) = handed_back removed ∷ []
events_of (makes_way removed) = ran_out ∷ handed_back removed ∷ []
events_of keeps_out = ran_out ∷ []
events_of fails = broke ∷ []

-- the responses produced during the step
abbrev pub responses_at : {L : Type 0} → TraceStep L → List ResponseAt
responses_at (looks now gone) = []
responses_at (enters accepted) = []
responses_at (goes_on service_step) = service_step.turns
responses_at (misses number) = []
responses_at (closes removed) = []
responses_at (makes_way removed) = []
responses_at keeps_out = []
responses_at fails = []

-- the time that the clock most recently returned, if it has been read
abbrev pub shown_at_gate : Option ℕ → Option ℕ → Option ℕ
shown_at_gate None shown = shown
shown_at_gate (Some now) shown = Some now

abbrev pub shown_at_end : {L : Type 0} → ServiceEnd L → Option ℕ → Option ℕ
shown_at_end waits shown = shown
shown_at_end (anew now) shown = Some now
shown_at_end (leaves removed) shown = shown
shown_at_end stops shown = shown

abbrev pub shown_after : {L : Type 0} → TraceStep L → Option ℕ → Option ℕ
shown_after (looks now gone) shown = Some now
shown_after (enters accepted) shown = shown
shown_after (goes_on service_step) shown = shown_at_end service_step.service_end (shown_at_gate service_step.gate shown)
shown_after (misses number) shown = shown
shown_after (closes removed) shown = shown
shown_after (makes_way removed) shown = shown
shown_after keeps_out shown = shown
shown_after fails shown = shown

-- a connection is accepted, and its time limit begins at the time that the clock most recently returned
pub record IsAccepted {L : Type 0} (stream : Stream L) (shown : Option ℕ) (accepted : Accepted L) (clients later : List (Client L)) : Type 0 where
  pub now : ℕ
  pub at : shown ≡ Some now
  pub client : Client L
  pub is : later ≡ clients ++ client ∷ []
  pub fresh : IsNew accepted client.number now client
  pub own : IsOf stream accepted.stream client

-- exactly the connections whose time limit has expired are closed; none of those still open has timed out
pub record ClosesLate {L : Type 0} (now : ℕ) (clients : List (Client L)) (gone : List (Removed L)) (later : List (Client L)) : Type 0 where
  pub late : FoldsTo (IsClosedByRule (timeout_rule now)) clients gone later
  pub all : All (λ client. now - client.since < timeout) later

-- a connection is closed because the table is full at the time that the clock most recently returned, or because too many bytes are held in memory
abbrev pub IsEviction : {L : Type 0} → Option ℕ → List (Client L) → Removed L → List (Client L) → Type 0
IsEviction shown clients removed later = ((now : ℕ) × (shown ≡ Some now) × IsEvicted now clients removed later) ⊎ IsClosedForBytes clients removed later

-- the open connections before and after a step
abbrev pub Changes : {L : Type 0} → Bool → Stream L → TraceStep L → Option ℕ → List (Client L) → List (Client L) → Type 0
Changes gated stream (looks now gone) shown clients later = ClosesLate now clients gone later
Changes gated stream (enters accepted) shown clients later = IsAccepted stream shown accepted clients later
Changes gated stream (goes_on service_step) shown clients later = IsServicedSo gated stream service_step clients later
Changes gated stream (misses number) shown clients later = later ≡ clients
Changes gated stream (closes removed) shown clients later = IsEviction shown clients removed later
Changes gated stream (makes_way removed) shown clients later = (now : ℕ) × (shown ≡ Some now) × IsClosedByRule (eviction_rule now) clients removed later
Changes gated stream keeps_out shown clients later = later ≡ clients
Changes gated stream fails shown clients later = later ≡ clients

-- ---- several steps

-- a snapshot: the time that the clock most recently returned, if it has been read, and the open connections
pub record Scene (L : Type 0) : Type 0 where
  pub shown : Option ℕ
  pub clients : List (Client L)

abbrev pub scene : {L : Type 0} → Option ℕ → List (Client L) → Scene L
scene shown clients = record { shown = shown; clients = clients }

abbrev pub Leads : {L : Type 0} → Bool → Stream L → Scene L → TraceStep L → Scene L → Type 0
Leads gated stream old step new = (new.shown ≡ shown_after step old.shown) × Changes gated stream step old.shown old.clients new.clients

-- A list of steps changed the open connections: the events of these steps are what happened on the network, and the given responses were produced.
pub record Trace {L : Type 0} (gated : Bool) (stream : Stream L) (turns : List ResponseAt) (from to : Option ℕ) (before later : NetworkEntry L) (old new : List (Client L)) : Type 0 where
  pub steps : List (TraceStep L)
  pub told : later.events ≡ option_map (λ earlier. earlier ++ flat_map events_of steps) before.events
  pub had : flat_map responses_at steps ≡ turns
  pub each : FoldsTo (Leads gated stream) (scene from old) steps (scene to new)
