-- Which connections are closed before they have their response, and what is handed back to the network.
use Rattle.std.specs.Prelude.{◌≡◌, ◌≤◌, ◌<◌, ◌-◌, ◌⊎◌, ⊤, Bool, true, false, List, ◌++◌, IsSomeAnd, None, length, map, option_map, slice_index_or, ℕ}
use Rattle.std.specs.List.{FoldsTo, remove}
use Rattle.connections.specs.Streams.{HasFailed, Stream}
use Rattle.connections.specs.Removals.{removed_of}
use Rattle.connections.specs.Tables.{AreUnseen, NetworkEntry, HasWaitedLongest, bytes_held, handed_back, most_bytes, most_clients, with_removed}
use Rattle.connections.specs.declared.client.Client.{Client}
use Rattle.connections.specs.declared.closing.Rule.{Rule}
use Rattle.connections.specs.declared.removed.Removed.{Removed}
use Rattle.connections.specs.declared.removed.CloseReason.{CloseReason}
use Rattle.connections.specs.declared.removed.CloseReason.TheVariants.{Done, Broken, Unreadable, TimedOut, Evicted, Closing}
use Rattle.connections.specs.declared.connection_table.ConnectionTable.{ConnectionTable}

-- ---- when a connection may be closed

-- the whole response was sent
abbrev pub IsSentWhole : {L : Type 0} → Client L → Type 0
IsSentWhole client = IsSomeAnd client.answer (λ answer. length answer.bytes.items ≤ answer.sent)

-- When a connection may be closed for a given reason: as done, if its whole response was sent; as broken, if a call on its stream failed.
abbrev pub MayBeClosed : {L : Type 0} → Stream L → CloseReason → Client L → Type 0
MayBeClosed stream Done client = IsSentWhole client
MayBeClosed stream Broken client = HasFailed (stream.failed client.stream)
MayBeClosed stream Unreadable client = ⊤
MayBeClosed stream TimedOut client = ⊤
MayBeClosed stream Evicted client = ⊤
MayBeClosed stream Closing client = ⊤

-- Why a connection that has just been read from or written to is closed: its whole response was sent; or a call on its stream failed; or it has no response yet, and
-- its request can't be received.
abbrev pub EndsFor : {L : Type 0} → Stream L → CloseReason → Client L → Type 0
EndsFor stream Done client = IsSentWhole client
EndsFor stream Broken client = HasFailed (stream.failed client.stream)
EndsFor stream Unreadable client = client.answer ≡ None
EndsFor stream TimedOut client = ⊥
EndsFor stream Evicted client = ⊥
EndsFor stream Closing client = ⊥

-- ---- how many may be open

-- the open connections, and the bytes that they hold, are within the limits
abbrev pub IsWithin : {L : Type 0} → ConnectionTable L → Type 0
IsWithin table = (length table.clients.items ≤ most_clients) × (bytes_held table.clients.items ≤ most_bytes)

-- how long a connection may take to send its request, and then again to accept its response, in milliseconds
abbrev pub timeout : ℕ
timeout = 30000

-- how long a new connection is protected from being closed to make room, in milliseconds
abbrev pub grace : ℕ
grace = 1000

-- a connection has timed out: the time limit has expired
abbrev pub IsLate : {L : Type 0} → ℕ → Client L → Type 0
IsLate now client = timeout ≤ now - client.since

-- there is no room for another connection
abbrev pub AreFull : {L : Type 0} → List (Client L) → Type 0
AreFull clients = (most_clients ≤ length clients) ⊎ (most_bytes ≤ bytes_held clients)

-- a table is full
abbrev pub IsFull : {L : Type 0} → ConnectionTable L → Type 0
IsFull table = AreFull table.clients.items

-- the rule for connections that have timed out: clients and orders
abbrev pub timeout_rule : ℕ → Rule
timeout_rule now = record { orders_too = true; least = timeout; now = now; why = TimedOut }

-- the rule for making room: only clients that have been waiting for at least a second
abbrev pub eviction_rule : ℕ → Rule
eviction_rule now = record { orders_too = false; least = grace; now = now; why = Evicted }

-- the rule for too many bytes in memory: clients, and optionally orders too
abbrev pub byte_limit_rule : Bool → Rule
byte_limit_rule orders_too = record { orders_too = orders_too; least = 0; now = 0; why = Evicted }

-- the connection at a place was removed
pub record IsOut {L : Type 0} (why : CloseReason) (place : ℕ) (old : List (Client L)) (removed : Removed L) (new : List (Client L)) : Type 0 where
  pub within : place < length old
  pub is : (client : Client L) → removed ≡ removed_of (slice_index_or old place client) why
  pub left : new ≡ remove old place

-- A connection was closed by a rule: among those that the rule applies to, it had been waiting longest, and for at least the rule's minimum.
pub record IsClosedByRule {L : Type 0} (rule : Rule) (old : List (Client L)) (removed : Removed L) (new : List (Client L)) : Type 0 where
  pub place : ℕ
  pub out : IsOut rule.why place old removed new
  pub longest_waiting : (client : Client L) → HasWaitedLongest rule.orders_too old (slice_index_or old place client)
  pub patient : (client : Client L) → rule.least ≤ rule.now - (slice_index_or old place client).since

-- a connection was closed because too many bytes were held in memory: a client, or an order if there is no client
abbrev pub IsClosedForBytes : {L : Type 0} → List (Client L) → Removed L → List (Client L) → Type 0
IsClosedForBytes old removed new = (most_bytes < bytes_held old) × (IsClosedByRule (byte_limit_rule false) old removed new ⊎ (AreUnseen false old
    × IsClosedByRule (byte_limit_rule true) old removed new))

-- a connection was closed because the table was full
abbrev pub IsEvicted : {L : Type 0} → ℕ → List (Client L) → Removed L → List (Client L) → Type 0
IsEvicted now old removed new = AreFull old × IsClosedByRule (eviction_rule now) old removed new

-- serving ends, and the first connection in the table is closed
abbrev pub IsClosed : {L : Type 0} → List (Client L) → Removed L → List (Client L) → Type 0
IsClosed old removed new = IsOut Closing 0 old removed new

-- the given connections were handed back to the network, one by one
abbrev pub with_all_removed : {L : Type 0} → NetworkEntry L → List (Removed L) → NetworkEntry L
with_all_removed network gone = record network { left = option_map (λ before. before ++ gone) network.left; events = option_map (λ earlier. earlier ++ map handed_back gone) network.events }

-- the connection at a place was removed, and handed back to the network
abbrev pub IsClosedAt : {L : Type 0} → CloseReason → ℕ → List (Client L) → NetworkEntry L → List (Client L) → NetworkEntry L → Type 0
IsClosedAt {L} why place old before new later = (removed : Removed L) × IsOut why place old removed new × (later ≡ with_removed before removed)

-- the given connections were closed and handed back, one by one
pub record AreClosedByRule {L : Type 0} (Goes : List (Client L) → Removed L → List (Client L) → Type 0) (before later : NetworkEntry L) (old new : ConnectionTable L) : Type 0 where
  pub came : new.came ≡ old.came
  pub counted : new.counted ≡ old.counted
  pub gone : List (Removed L)
  pub back : later ≡ with_all_removed before gone
  pub each : FoldsTo Goes old.clients.items gone new.clients.items

-- one connection was closed and handed back
pub record OneIsClosed {L : Type 0} (Goes : List (Client L) → Removed L → List (Client L) → Type 0) (before later : NetworkEntry L) (old new : ConnectionTable L) : Type 0 where
  pub came : new.came ≡ old.came
  pub counted : new.counted ≡ old.counted
  pub removed : Removed L
  pub goes : Goes old.clients.items removed new.clients.items
  pub back : later ≡ with_removed before removed

-- one connection was closed; or none was, and everything is as before
abbrev pub ClosesOne : {L : Type 0} → (List (Client L) → Removed L → List (Client L) → Type 0) → Bool → NetworkEntry L → NetworkEntry L → ConnectionTable L → ConnectionTable L → Type 0
ClosesOne Goes true before later old new = OneIsClosed Goes before later old new
ClosesOne Goes false before later old new = (new ≡ old) × (later ≡ before)
