-- All connections that were ever accepted, and what happened to each.
use Rattle.std.specs.Prelude.{◌≡◌, ◌<◌, ◌+◌, ◌⊎◌, ◌==◌, ⊤, List, [], ◌∷◌, None, Option, Some, filter, length, slice_index_or, ℕ}
use Rattle.std.specs.List.{All, AllPairs, Contains}
use Rattle.connections.specs.Streams.{HasFailed, HasTaken, Stream}
use Rattle.connections.specs.Clients.{IsReceived, IsOf, IsSent}
use Rattle.connections.specs.declared.client.Client.{Client}
use Rattle.connections.specs.declared.client.Accepted.{Accepted}
use Rattle.connections.specs.declared.removed.Removed.{Removed}
use Rattle.connections.specs.declared.removed.CloseReason.{CloseReason}
use Rattle.connections.specs.declared.removed.CloseReason.TheVariants.{Done, Broken, Unreadable, TimedOut, Evicted, Closing}
use Rattle.connections.specs.declared.connection_table.ConnectionTable.{ConnectionTable}
use Rattle.server.specs.Settings.{ServerSettingsEntry}
use Rattle.server.specs.Servicing.{HasComeAt, answer_of}
use Rattle.server.specs.Exchanges.{Exchange}

-- a connection: its state when accepted, and its stream's final state
pub record ServedConnection (L : Type 0) : Type 0 where
  pub came : Accepted L
  pub last : L

-- the exchanges of the connection with the given number
abbrev pub exchanges_of : ℕ → List Exchange → List Exchange
exchanges_of number exchanges = filter (λ exchange. exchange.number == number) exchanges

-- The bytes received for a request are the connection's own, from the first one until the request was complete.
pub record IsGathered {L : Type 0} (settings : ServerSettingsEntry) (stream : Stream L) (came : Accepted L) (exchange : Exchange) : Type 0 where
  pub listener : exchange.listener ≡ came.listener
  pub received : L
  pub own : IsReceived stream came.stream received exchange.got
  pub come : HasComeAt came.listener settings (stream.held received) exchange.got

-- What happened to a connection, according to its exchanges. Either its request wasn't processed, and nothing was sent. Or its request was processed, from its own
-- bytes; and a prefix of the response to exactly these bytes was sent, and nothing else.
abbrev pub HadExchange : {L : Type 0} → ServerSettingsEntry → Stream L → ServedConnection L → List Exchange → Type 0
HadExchange settings stream connection [] = HasTaken (stream.taken connection.last) []
HadExchange settings stream connection (exchange ∷ []) = IsGathered settings stream connection.came exchange × ((sent : ℕ) × IsSent stream connection.last exchange.answer sent)
HadExchange settings stream connection (exchange ∷ other ∷ more) = ⊥

-- Each connection had its exchanges as above (the first connection has number 0), and each exchange belongs to one of the connections.
pub record AllHadExchanges {L : Type 0} (settings : ServerSettingsEntry) (stream : Stream L) (all_connections : List (ServedConnection L)) (exchanges : List Exchange) : Type 0 where
  pub each : (number : ℕ) (connection : ServedConnection L) → number < length all_connections
      → HadExchange settings stream (slice_index_or all_connections number connection) (exchanges_of number exchanges)
  pub known : All (λ exchange. exchange.number < length all_connections) exchanges

-- ---- connections that were closed

-- What the reason for closing implies: if done, the whole response was sent; if broken, a call on the stream failed.
abbrev pub IsWhy : {L : Type 0} → Stream L → CloseReason → L → List Exchange → Type 0
IsWhy stream Done last [] = ⊥
IsWhy stream Done last (exchange ∷ exchanges) = HasTaken (stream.taken last) exchange.answer
IsWhy stream Broken last exchanges = HasFailed (stream.failed last)
IsWhy stream Unreadable last exchanges = ⊤
IsWhy stream TimedOut last exchanges = ⊤
IsWhy stream Evicted last exchanges = ⊤
IsWhy stream Closing last exchanges = ⊤

-- a connection was handed back under its number, with its stream in its final state, and with a reason that applies
pub record WasClosed {L : Type 0} (stream : Stream L) (gone : List (Removed L)) (exchanges : List Exchange) (number : ℕ) (connection : ServedConnection L) : Type 0 where
  pub why : CloseReason
  pub back : Contains gone (record { number = number; stream = connection.last; why = why })
  pub holds : IsWhy stream why connection.last (exchanges_of number exchanges)

-- ---- connections that are open

-- a connection with the given number is open
pub record IsOpenUnder {L : Type 0} (clients : List (Client L)) (number : ℕ) : Type 0 where
  pub place : ℕ
  pub within : place < length clients
  pub belongs : (client : Client L) → (slice_index_or clients place client).number ≡ number

-- the exchanges of a connection that has the given response, or none yet
abbrev pub HasExchangeFor : Option (List ℕ) → List Exchange → Type 0
HasExchangeFor None own = own ≡ []
HasExchangeFor (Some answer) own = (exchange : Exchange) × (own ≡ exchange ∷ []) × (exchange.answer ≡ answer)

-- An open connection: its listener, its stream, what was received from it and what was sent to it are its own, and its response is the one in its exchange.
pub record IsOpenConnection {L : Type 0} (stream : Stream L) (exchanges : List Exchange) (connection : ServedConnection L) (client : Client L) : Type 0 where
  pub listener : client.listener ≡ connection.came.listener
  pub last : connection.last ≡ client.stream
  pub own : IsOf stream connection.came.stream client
  pub belongs : HasExchangeFor (answer_of client) (exchanges_of client.number exchanges)

-- All connections that were accepted, how many there were, and those that are still open, each under its own number. Each of the others was handed back, exactly once.
pub record AreOpen {L : Type 0} (settings : ServerSettingsEntry) (stream : Stream L) (all_connections : List (ServedConnection L)) (exchanges : List Exchange) (gone : List (Removed L)) (came : ℕ)
    (clients : List (Client L)) : Type 0 where
  pub count : length all_connections ≡ came
  pub went : AllHadExchanges settings stream all_connections exchanges
  pub apart : AllPairs (λ one other. one.number < other.number) clients
  pub known : All (λ client. client.number < length all_connections) clients
  pub stand : All (λ client. (connection : ServedConnection L) → IsOpenConnection stream exchanges (slice_index_or all_connections client.number connection) client) clients
  pub sum : length gone + length clients ≡ length all_connections
  pub left : (number : ℕ) (connection : ServedConnection L) → number < length all_connections
      → IsOpenUnder clients number ⊎ WasClosed stream gone exchanges number (slice_index_or all_connections number connection)

-- what holds for the table: connections were accepted and had their exchanges, and those in the table are open
abbrev pub IsSound : {L : Type 0} → ServerSettingsEntry → Stream L → ConnectionTable L → Type 0
IsSound {L} settings stream table = (all_connections : List (ServedConnection L)) × (exchanges : List Exchange) × (gone : List (Removed L))
    × AreOpen settings stream all_connections exchanges gone table.came table.clients.items
