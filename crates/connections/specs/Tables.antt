-- The table of open connections, and the network.
use Rattle.std.specs.Prelude.{◌≡◌, ◌≤◌, ◌+◌, ◌∷◌, ◌++◌, ◌==◌, ⊤, ℕ, Bool, true, false, List, [], Option, Some, None, Result, Ok, Err, if◌then◌else◌, length, nat_le, option_map, position, sum_by}
use Rattle.std.specs.List.{All}
use Rattle.streams.specs.declared.streams.Broken.{Broken}
use Rattle.connections.specs.Streams.{HasTaken, one_more}
use Rattle.connections.specs.declared.client.PendingResponse.{PendingResponse}
use Rattle.connections.specs.declared.client.Client.{Client}
use Rattle.connections.specs.declared.client.Accepted.{Accepted}
use Rattle.connections.specs.declared.client.Listener.{Listener}
use Rattle.connections.specs.declared.client.Listener.TheVariants.{Clients, Orders}
use Rattle.connections.specs.declared.removed.Removed.{Removed}
use Rattle.connections.specs.declared.network.AcceptOutcome.{AcceptOutcome}
use Rattle.connections.specs.declared.network.AcceptOutcome.TheVariants.{One, Nobody, NotNow, Full}

-- the length of a response, or 0 if there is none
abbrev pub answer_bytes : Option PendingResponse → ℕ
answer_bytes None = 0
answer_bytes (Some answer) = length answer.bytes.items

-- the bytes that a connection holds in memory: what was received, and its response
abbrev pub bytes_of : {L : Type 0} → Client L → ℕ
bytes_of client = length client.got.items + answer_bytes client.answer

-- the bytes that all connections together hold in memory
abbrev pub bytes_held : {L : Type 0} → List (Client L) → ℕ
bytes_held clients = sum_by bytes_of clients

-- whether a rule applies to connections from the given listener: clients always count, orders only if they are included
abbrev pub is_among : Bool → Listener → Bool
is_among orders_too Clients = true
is_among orders_too Orders = orders_too

-- a connection has been waiting longest among those that count: none of their time limits began earlier
pub record HasWaitedLongest {L : Type 0} (orders_too : Bool) (clients : List (Client L)) (client : Client L) : Type 0 where
  pub among : is_among orders_too client.listener ≡ true
  pub first : All (λ other. is_among orders_too other.listener ≡ true → client.since ≤ other.since) clients

-- the earlier of two connections, each given by its place and the time at which its time limit began; or the first one, if the second doesn't count
abbrev pub earlier : Option (ℕ × ℕ) → Bool → ℕ → ℕ → Option (ℕ × ℕ)
earlier found false place since = found
earlier None true place since = Some (place, since)
earlier (Some one) true place since = if nat_le one.1 since then Some one else Some (place, since)

-- none of the connections counts
abbrev pub AreUnseen : {L : Type 0} → Bool → List (Client L) → Type 0
AreUnseen orders_too clients = All (λ client. is_among orders_too client.listener ≡ false) clients

-- the maximum number of open connections
abbrev pub most_clients : ℕ
most_clients = 512

-- the maximum number of bytes that all open connections together hold in memory: 64 MiB
abbrev pub most_bytes : ℕ
most_bytes = 67108864

-- the place of the connection with the given number, if the table contains it
abbrev pub place_in : {L : Type 0} → List (Client L) → ℕ → Option ℕ
place_in clients number = position (λ client. client.number == number) clients

-- the number of clients that a connection from the given listener counts as
abbrev pub count_at : Listener → ℕ
count_at Clients = 1
count_at Orders = 0

-- the number of clients among the given connections
abbrev pub clients_among : {L : Type 0} → List (Accepted L) → ℕ
clients_among all_accepted = sum_by (λ accepted. count_at accepted.listener) all_accepted

-- nothing has been sent yet on an accepted connection, as far as is known
abbrev pub IsUnsent : {L : Type 0} → (L → Option (List ℕ)) → AcceptOutcome L → Type 0
IsUnsent taken (One accepted) = HasTaken (taken accepted.stream) []
IsUnsent taken Nobody = ⊤
IsUnsent taken NotNow = ⊤
IsUnsent taken Full = ⊤

-- a connection from the given listener may be accepted: an order always, a client only if clients are allowed
abbrev pub MayCome : Bool → Listener → Type 0
MayCome clients_too Clients = clients_too ≡ true
MayCome clients_too Orders = ⊤

-- a connection is accepted only if it may be accepted
abbrev pub IsWanted : {L : Type 0} → Bool → AcceptOutcome L → Type 0
IsWanted clients_too (One accepted) = MayCome clients_too accepted.listener
IsWanted clients_too Nobody = ⊤
IsWanted clients_too NotNow = ⊤
IsWanted clients_too Full = ⊤

-- What happens on a network: a connection is accepted, handed back, or reported as ready; the clock returns a time; the system has no room for another connection; or a
-- call fails.
pub data Event (L : Type 0) : Type 0 where
  let_in : Accepted L → Event L
  handed_back : Removed L → Event L
  named : ℕ → Event L
  showed : ℕ → Event L
  ran_out : Event L
  broke : Event L

-- What is known about a network: the connections accepted so far, each in the state that it was accepted in; those handed back; how many calls have failed, and how
-- many waits have succeeded; and all events, in order.
pub record NetworkEntry (L : Type 0) : Type 0 where
  pub came : Option (List (Accepted L))
  pub left : Option (List (Removed L))
  pub failed : Option ℕ
  pub waits : Option ℕ
  pub events : Option (List (Event L))

-- the events, with another one added
abbrev pub followed : {L : Type 0} → Event L → Option (List (Event L)) → Option (List (Event L))
followed event events = option_map (λ earlier. earlier ++ event ∷ []) events

-- the accepted connections after another `accept`
abbrev pub after_accept : {L : Type 0} → AcceptOutcome L → NetworkEntry L → NetworkEntry L
after_accept (One accepted) network = record network { came = option_map (λ all_accepted. all_accepted ++ accepted ∷ []) network.came; events = followed (let_in accepted) network.events }
after_accept Nobody network = network
after_accept NotNow network = network
after_accept Full network = record network { events = followed ran_out network.events }

-- the connections that were handed back, with another one
abbrev pub with_removed : {L : Type 0} → NetworkEntry L → Removed L → NetworkEntry L
with_removed network removed = record network { left = option_map (λ all_removed. all_removed ++ removed ∷ []) network.left; events = followed (handed_back removed) network.events }

-- a connection was reported as ready
abbrev pub after_ready : {L : Type 0} → Option ℕ → NetworkEntry L → NetworkEntry L
after_ready (Some number) network = record network { events = followed (named number) network.events }
after_ready None network = network

-- a call failed
abbrev pub with_failure : {L : Type 0} → NetworkEntry L → NetworkEntry L
with_failure network = record network { failed = one_more network.failed; events = followed broke network.events }

-- the clock returned a time
abbrev pub with_moment : {L : Type 0} → NetworkEntry L → ℕ → NetworkEntry L
with_moment network now = record network { events = followed (showed now) network.events }

-- the clock was read, which may have failed
abbrev pub after_look : {L : Type 0} → Result ℕ Broken → NetworkEntry L → NetworkEntry L
after_look (Ok now) network = with_moment network now
after_look (Err broken) network = with_failure network

-- after another wait, which may have failed
abbrev pub after_wait : {L : Type 0} → Result (Unit {0}) Broken → NetworkEntry L → NetworkEntry L
after_wait (Ok value) network = record network { waits = one_more network.waits }
after_wait (Err broken) network = with_failure network
