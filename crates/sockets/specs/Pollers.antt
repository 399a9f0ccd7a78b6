-- What the poller watches.
use Rattle.std.specs.Prelude.{◌≡◌, ◌||◌, ◌==◌, if◌then◌else◌, ℕ, ⊤, Bool, true, false, Option, Some, None}
use Rattle.mio.specs.declared.net.uds.listener.UnixListener.{UnixListener}
use Rattle.connections.specs.declared.client.Listener.{Listener}
use Rattle.connections.specs.declared.client.Listener.TheVariants as listeners
use Rattle.connections.specs.declared.network.AcceptOutcome.{AcceptOutcome}
use Rattle.connections.specs.declared.network.AcceptOutcome.TheVariants.{One, Nobody, NotNow, Full}
use Rattle.sockets.specs.declared.loopback.Address.{Address}
use Rattle.sockets.specs.declared.loopback.Address.TheVariants.{Ipv4, Ipv6}
use Rattle.sockets.specs.declared.loopback.Loopback.{Loopback}
use Rattle.sockets.specs.declared.socket.Socket.{Socket}
use Rattle.sockets.specs.declared.socket.Socket.TheVariants as lines
use Rattle.sockets.specs.declared.poller.Waiting.{Waiting}
use Rattle.sockets.specs.declared.poller.Waiting.TheVariants as waiting
use Rattle.sockets.specs.declared.poller.Pending.{Pending}
use Rattle.sockets.specs.declared.poller.Poller.{Poller}
use Rattle.connections.specs.Tables.{NetworkEntry}

-- a listener is polled, and otherwise unchanged; or there is none
abbrev pub IsWatched : {S : Type 0} → (S → S → Type 0) → Option S → Option S → Type 0
IsWatched keeps None None = ⊤
IsWatched keeps (Some old) (Some new) = keeps old new
IsWatched keeps None (Some new) = ⊥
IsWatched keeps (Some old) None = ⊥

-- the other loopback address
abbrev pub other_address : Address → Address
other_address Ipv4 = Ipv6
other_address Ipv6 = Ipv4

-- the listeners for clients: at 127.0.0.1 and, if the machine has it, at [::1]
abbrev pub clients_of : Poller → Loopback
clients_of poller = poller.clients

-- the listener for orders, if there is one
abbrev pub orders_of : Poller → Option UnixListener
orders_of poller = poller.orders

-- the socket is of the kind that the listener accepts: a client connects through the port, an order through the socket file next to the database
abbrev pub FitsListener : Listener → Socket → Type 0
FitsListener listeners.Clients (lines.Client stream) = ⊤
FitsListener listeners.Clients (lines.Order stream) = ⊥
FitsListener listeners.Orders (lines.Client stream) = ⊥
FitsListener listeners.Orders (lines.Order stream) = ⊤

-- a connection was accepted from the given listener, and its socket is of that listener's kind
abbrev pub IsAtListener : Listener → AcceptOutcome Socket → Type 0
IsAtListener listener (One accepted) = (accepted.listener ≡ listener) × FitsListener listener accepted.stream
IsAtListener listener Nobody = ⊤
IsAtListener listener NotNow = ⊤
IsAtListener listener Full = ⊤

-- the socket of an accepted connection is of its listener's kind, so no order comes through the port
abbrev pub ComesByListener : AcceptOutcome Socket → Type 0
ComesByListener (One accepted) = FitsListener accepted.listener accepted.stream
ComesByListener Nobody = ⊤
ComesByListener NotNow = ⊤
ComesByListener Full = ⊤

-- a connection may be pending, unless none is known to be
abbrev pub is_known_waiting : Waiting → Bool
is_known_waiting waiting.Nobody = false
is_known_waiting waiting.Unknown = true
is_known_waiting waiting.Somebody = true

-- what is known about a listener after it has returned the given outcome: no connection is pending; after a connection there may be another; a full system tells us nothing
abbrev pub known_after : Waiting → AcceptOutcome Socket → Waiting
known_after known (One accepted) = waiting.Unknown
known_after known Nobody = waiting.Nobody
known_after known NotNow = waiting.Unknown
known_after known Full = known

-- the same is known about each listener
abbrev pub known_everywhere : Waiting → Pending
known_everywhere known = record { ipv4 = known; ipv6 = known; orders = known }

-- what is known about the listener at an address
abbrev pub known_at : Pending → Address → Waiting
known_at pending Ipv4 = pending.ipv4
known_at pending Ipv6 = pending.ipv6

-- what is known after an event has been reported for the listener with the given token: 0 is the one at 127.0.0.1, 1 the one at [::1], and any other the one for orders
abbrev pub reported : ℕ → Pending → Pending
reported token pending =
    if token == 0 then record { ipv4 = waiting.Somebody; ipv6 = pending.ipv6; orders = pending.orders }
    else (if token == 1 then record { ipv4 = pending.ipv4; ipv6 = waiting.Somebody; orders = pending.orders }
    else record { ipv4 = pending.ipv4; ipv6 = pending.ipv6; orders = waiting.Somebody })

-- a connection may be pending at a listener
abbrev pub may_be_pending : Pending → Bool
may_be_pending pending = is_known_waiting pending.ipv4 || is_known_waiting pending.ipv6 || is_known_waiting pending.orders

-- an event reported a connection
abbrev pub is_somebody : Waiting → Bool
is_somebody waiting.Nobody = false
is_somebody waiting.Unknown = false
is_somebody waiting.Somebody = true

-- an event reported a connection at a listener
abbrev pub is_reported : Pending → Bool
is_reported pending = is_somebody pending.ipv4 || is_somebody pending.ipv6 || is_somebody pending.orders

abbrev pub has_pending : Poller → Bool
has_pending poller = may_be_pending poller.pending

-- nothing is known about sockets: neither which connections were accepted and closed, nor how many calls failed, nor what the clock returned
abbrev pub unknown : {L : Type 0} → NetworkEntry L
unknown = record { came = None; left = None; failed = None; waits = None; events = None }
