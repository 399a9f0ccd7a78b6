-- Proof that `accept_one` meets its contract.
use Rattle.std.proofs.Common.{[], Some, ap, refl}
use Rattle.connections.specs.Clients.{IsOf}
use Rattle.connections.specs.Closing.{IsClosedByRule, IsEvicted, eviction_rule}
use Rattle.connections.specs.Streams.{stream_of}
use Rattle.connections.specs.Tables.{NetworkEntry}
use Rattle.connections.proofs.BoundLemmas.{within_more, within_still}
use Rattle.connections.proofs.ClosingLemmas.{crowd_outs, let_go_maybe, room_outs}
use Rattle.connections.proofs.TraceLemmas.{course_closes, course_enters, trace_none, trace_then, course_way, eviction_due}
use Rattle.server.proofs.ServerLemmas.{goes_more, goes_none, goes_then, goes_without, still_full, still_known}
use Rattle.server.proofs.serving.accept_one.Goals as goal

pub returns-then-table-clause-goes_on : goal.returns-then-table-clause-goes_on
returns-then-table-clause-goes_on g c = λ settings.
    goes_none settings (stream_of g.D.Stream.Stream.held g.D.Stream.Stream.taken g.D.Stream.Stream.failed) (g.D.Network.known c.args.network.now)
    (g.D.Network.known c.args.network.now) c.args.table.now (refl, refl)

pub returns-then-not-evict_if_full-clause-goes_on : goal.returns-then-not-evict_if_full-clause-goes_on
returns-then-not-evict_if_full-clause-goes_on g c = λ settings.
    goes_without settings (stream_of g.D.Stream.Stream.held g.D.Stream.Stream.taken g.D.Stream.Stream.failed) (IsEvicted c.args.now)
    (crowd_outs c.args.now) (g.D.Network.known c.args.network.now) (g.D.Network.known c.evict_if_full.new.network)
    c.args.table.now c.evict_if_full.new.table c.evict_if_full.ensures.go

pub returns-then-not-evict_if_full-clause-within : goal.returns-then-not-evict_if_full-clause-within
returns-then-not-evict_if_full-clause-within g c =
    within_still (IsEvicted c.args.now) (crowd_outs c.args.now) (g.D.Network.known c.args.network.now)
    (g.D.Network.known c.evict_if_full.new.network) c.args.table.now c.evict_if_full.new.table c.evict_if_full.ensures.go c.requires

pub returns-in-One-clause-goes_on : goal.returns-in-One-clause-goes_on
returns-in-One-clause-goes_on g c = λ settings.
    let stream = stream_of g.D.Stream.Stream.held g.D.Stream.Stream.taken g.D.Stream.Stream.failed in
    let before = g.D.Network.known c.args.network.now in
    let mid = g.D.Network.known c.evict_if_full.new.network in
    let later = g.D.Network.known c.accept.new.self in
    let table = c.evict_if_full.new.table in
    goes_then settings stream [] [] before mid later c.args.table.now table c.add.new.self
    (goes_without settings stream (IsEvicted c.args.now) (crowd_outs c.args.now) before mid c.args.table.now table c.evict_if_full.ensures.go)
    (goes_more settings stream mid later table c.add.new.self c.in-One.accepted c.args.now c.in-One.ensures.known c.in-One.ensures.fresh c.add.ensures.came c.add.ensures.counted c.add.ensures.entered)

pub returns-in-One-clause-within : goal.returns-in-One-clause-within
returns-in-One-clause-within g c =
    let table = c.evict_if_full.new.table in
    let still = within_still (IsEvicted c.args.now) (crowd_outs c.args.now) (g.D.Network.known c.args.network.now)
    (g.D.Network.known c.evict_if_full.new.network) c.args.table.now table c.evict_if_full.ensures.go c.requires in
    within_more table c.add.new.self c.in-One.accepted c.args.now (IsOf (stream_of g.D.Stream.Stream.held g.D.Stream.Stream.taken g.D.Stream.Stream.failed) c.in-One.accepted.stream)
    (c.evict_if_full.ensures.table c.if-not-evict_if_full.false) still.1
    c.add.ensures.entered

pub returns-in-Nobody-clause-goes_on : goal.returns-in-Nobody-clause-goes_on
returns-in-Nobody-clause-goes_on g c = λ settings.
    let stream = stream_of g.D.Stream.Stream.held g.D.Stream.Stream.taken g.D.Stream.Stream.failed in
    let before = g.D.Network.known c.args.network.now in
    let mid = g.D.Network.known c.evict_if_full.new.network in
    let later = g.D.Network.known c.accept.new.self in
    let table = c.evict_if_full.new.table in
    goes_then settings stream [] [] before mid later c.args.table.now table table
    (goes_without settings stream (IsEvicted c.args.now) (crowd_outs c.args.now) before mid c.args.table.now table c.evict_if_full.ensures.go)
    (goes_none settings stream mid later table (still_known mid later c.in-Nobody.ensures.known))

pub returns-in-Nobody-clause-within : goal.returns-in-Nobody-clause-within
returns-in-Nobody-clause-within g c =
    within_still (IsEvicted c.args.now) (crowd_outs c.args.now) (g.D.Network.known c.args.network.now)
    (g.D.Network.known c.evict_if_full.new.network) c.args.table.now c.evict_if_full.new.table c.evict_if_full.ensures.go c.requires

pub returns-in-NotNow-clause-goes_on : goal.returns-in-NotNow-clause-goes_on
returns-in-NotNow-clause-goes_on g c = λ settings.
    let stream = stream_of g.D.Stream.Stream.held g.D.Stream.Stream.taken g.D.Stream.Stream.failed in
    let before = g.D.Network.known c.args.network.now in
    let mid = g.D.Network.known c.evict_if_full.new.network in
    let later = g.D.Network.known c.accept.new.self in
    let table = c.evict_if_full.new.table in
    goes_then settings stream [] [] before mid later c.args.table.now table table
    (goes_without settings stream (IsEvicted c.args.now) (crowd_outs c.args.now) before mid c.args.table.now table c.evict_if_full.ensures.go)
    (goes_none settings stream mid later table (still_known mid later c.in-NotNow.ensures.known))

pub returns-in-NotNow-clause-within : goal.returns-in-NotNow-clause-within
returns-in-NotNow-clause-within g c =
    within_still (IsEvicted c.args.now) (crowd_outs c.args.now) (g.D.Network.known c.args.network.now)
    (g.D.Network.known c.evict_if_full.new.network) c.args.table.now c.evict_if_full.new.table c.evict_if_full.ensures.go c.requires

pub returns-then-evict_one-clause-goes_on : goal.returns-then-evict_one-clause-goes_on
returns-then-evict_one-clause-goes_on g c = λ settings.
    let stream = stream_of g.D.Stream.Stream.held g.D.Stream.Stream.taken g.D.Stream.Stream.failed in
    let before = g.D.Network.known c.args.network.now in
    let mid = g.D.Network.known c.evict_if_full.new.network in
    let at = g.D.Network.known c.accept.new.self in
    let later = g.D.Network.known c.evict_one.new.network in
    let table = c.evict_if_full.new.table in
    goes_then settings stream [] [] before at later c.args.table.now table c.evict_one.new.table
    (goes_then settings stream [] [] before mid at c.args.table.now table table
    (goes_without settings stream (IsEvicted c.args.now) (crowd_outs c.args.now) before mid c.args.table.now table c.evict_if_full.ensures.go)
    (goes_none settings stream mid at table (still_full mid at c.in-Full.ensures.known)))
    (goes_without settings stream (IsClosedByRule (eviction_rule c.args.now)) (room_outs c.args.now) at later table c.evict_one.new.table
    (let_go_maybe (IsClosedByRule (eviction_rule c.args.now)) c.evict_one.result at later table c.evict_one.new.table c.evict_one.ensures.go))

pub returns-then-evict_one-clause-within : goal.returns-then-evict_one-clause-within
returns-then-evict_one-clause-within g c =
    let goes = IsClosedByRule (eviction_rule c.args.now) in
    let outs = room_outs c.args.now in
    let table = c.evict_if_full.new.table in
    let at = g.D.Network.known c.accept.new.self in
    let later = g.D.Network.known c.evict_one.new.network in
    within_still goes outs at later table c.evict_one.new.table (let_go_maybe goes c.evict_one.result at later table c.evict_one.new.table c.evict_one.ensures.go)
    (within_still (IsEvicted c.args.now) (crowd_outs c.args.now) (g.D.Network.known c.args.network.now)
    (g.D.Network.known c.evict_if_full.new.network) c.args.table.now table c.evict_if_full.ensures.go c.requires)

pub returns-else-evict_one-clause-goes_on : goal.returns-else-evict_one-clause-goes_on
returns-else-evict_one-clause-goes_on g c = λ settings.
    let stream = stream_of g.D.Stream.Stream.held g.D.Stream.Stream.taken g.D.Stream.Stream.failed in
    let before = g.D.Network.known c.args.network.now in
    let mid = g.D.Network.known c.evict_if_full.new.network in
    let at = g.D.Network.known c.accept.new.self in
    let later = g.D.Network.known c.evict_one.new.network in
    let table = c.evict_if_full.new.table in
    goes_then settings stream [] [] before at later c.args.table.now table c.evict_one.new.table
    (goes_then settings stream [] [] before mid at c.args.table.now table table
    (goes_without settings stream (IsEvicted c.args.now) (crowd_outs c.args.now) before mid c.args.table.now table c.evict_if_full.ensures.go)
    (goes_none settings stream mid at table (still_full mid at c.in-Full.ensures.known)))
    (goes_without settings stream (IsClosedByRule (eviction_rule c.args.now)) (room_outs c.args.now) at later table c.evict_one.new.table
    (let_go_maybe (IsClosedByRule (eviction_rule c.args.now)) c.evict_one.result at later table c.evict_one.new.table c.evict_one.ensures.go))

pub returns-else-evict_one-clause-within : goal.returns-else-evict_one-clause-within
returns-else-evict_one-clause-within g c =
    let goes = IsClosedByRule (eviction_rule c.args.now) in
    let outs = room_outs c.args.now in
    let table = c.evict_if_full.new.table in
    let at = g.D.Network.known c.accept.new.self in
    let later = g.D.Network.known c.evict_one.new.network in
    within_still goes outs at later table c.evict_one.new.table (let_go_maybe goes c.evict_one.result at later table c.evict_one.new.table c.evict_one.ensures.go)
    (within_still (IsEvicted c.args.now) (crowd_outs c.args.now) (g.D.Network.known c.args.network.now)
    (g.D.Network.known c.evict_if_full.new.network) c.args.table.now table c.evict_if_full.ensures.go c.requires)

pub returns-then-table-clause-trace : goal.returns-then-table-clause-trace
returns-then-table-clause-trace g c = λ gated.
    trace_none gated (stream_of g.D.Stream.Stream.held g.D.Stream.Stream.taken g.D.Stream.Stream.failed) (Some c.args.now) (g.D.Network.known c.args.network.now)
    (g.D.Network.known c.args.network.now) c.args.table.now.clients.items refl

pub returns-then-not-evict_if_full-clause-trace : goal.returns-then-not-evict_if_full-clause-trace
returns-then-not-evict_if_full-clause-trace g c = λ gated.
    let stream = stream_of g.D.Stream.Stream.held g.D.Stream.Stream.taken g.D.Stream.Stream.failed in
    let before = g.D.Network.known c.args.network.now in
    let mid = g.D.Network.known c.evict_if_full.new.network in
    let table = c.evict_if_full.new.table in
    course_closes gated stream (IsEvicted c.args.now) (Some c.args.now) (eviction_due gated stream c.args.now) before mid c.args.table.now table c.evict_if_full.ensures.go

pub returns-in-One-clause-trace : goal.returns-in-One-clause-trace
returns-in-One-clause-trace g c = λ gated.
    let stream = stream_of g.D.Stream.Stream.held g.D.Stream.Stream.taken g.D.Stream.Stream.failed in
    let before = g.D.Network.known c.args.network.now in
    let mid = g.D.Network.known c.evict_if_full.new.network in
    let table = c.evict_if_full.new.table in
    let later = g.D.Network.known c.accept.new.self in
    trace_then gated stream [] [] (Some c.args.now) (Some c.args.now) (Some c.args.now) before mid later c.args.table.now.clients.items table.clients.items c.add.new.self.clients.items
    (course_closes gated stream (IsEvicted c.args.now) (Some c.args.now) (eviction_due gated stream c.args.now) before mid c.args.table.now table c.evict_if_full.ensures.go)
    (course_enters gated stream c.args.now table.came c.in-One.accepted mid later table.clients.items c.add.new.self.clients.items c.in-One.ensures.known c.add.ensures.entered)

pub returns-in-Nobody-clause-trace : goal.returns-in-Nobody-clause-trace
returns-in-Nobody-clause-trace g c = λ gated.
    let stream = stream_of g.D.Stream.Stream.held g.D.Stream.Stream.taken g.D.Stream.Stream.failed in
    let before = g.D.Network.known c.args.network.now in
    let mid = g.D.Network.known c.evict_if_full.new.network in
    let table = c.evict_if_full.new.table in
    let later = g.D.Network.known c.accept.new.self in
    trace_then gated stream [] [] (Some c.args.now) (Some c.args.now) (Some c.args.now) before mid later c.args.table.now.clients.items table.clients.items table.clients.items
    (course_closes gated stream (IsEvicted c.args.now) (Some c.args.now) (eviction_due gated stream c.args.now) before mid c.args.table.now table c.evict_if_full.ensures.go)
    (trace_none gated stream (Some c.args.now) mid later table.clients.items (ap (λ (d : NetworkEntry _). d.events) c.in-Nobody.ensures.known))

pub returns-in-NotNow-clause-trace : goal.returns-in-NotNow-clause-trace
returns-in-NotNow-clause-trace g c = λ gated.
    let stream = stream_of g.D.Stream.Stream.held g.D.Stream.Stream.taken g.D.Stream.Stream.failed in
    let before = g.D.Network.known c.args.network.now in
    let mid = g.D.Network.known c.evict_if_full.new.network in
    let table = c.evict_if_full.new.table in
    let later = g.D.Network.known c.accept.new.self in
    trace_then gated stream [] [] (Some c.args.now) (Some c.args.now) (Some c.args.now) before mid later c.args.table.now.clients.items table.clients.items table.clients.items
    (course_closes gated stream (IsEvicted c.args.now) (Some c.args.now) (eviction_due gated stream c.args.now) before mid c.args.table.now table c.evict_if_full.ensures.go)
    (trace_none gated stream (Some c.args.now) mid later table.clients.items (ap (λ (d : NetworkEntry _). d.events) c.in-NotNow.ensures.known))

pub returns-then-evict_one-clause-trace : goal.returns-then-evict_one-clause-trace
returns-then-evict_one-clause-trace g c = λ gated.
    let stream = stream_of g.D.Stream.Stream.held g.D.Stream.Stream.taken g.D.Stream.Stream.failed in
    let before = g.D.Network.known c.args.network.now in
    let mid = g.D.Network.known c.evict_if_full.new.network in
    let table = c.evict_if_full.new.table in
    let at = g.D.Network.known c.accept.new.self in
    let later = g.D.Network.known c.evict_one.new.network in
    trace_then gated stream [] [] (Some c.args.now) (Some c.args.now) (Some c.args.now) before mid later c.args.table.now.clients.items table.clients.items c.evict_one.new.table.clients.items
    (course_closes gated stream (IsEvicted c.args.now) (Some c.args.now) (eviction_due gated stream c.args.now) before mid c.args.table.now table c.evict_if_full.ensures.go)
    (course_way gated stream c.args.now c.evict_one.result mid at later table c.evict_one.new.table c.in-Full.ensures.known c.evict_one.ensures.go)

pub returns-else-evict_one-clause-trace : goal.returns-else-evict_one-clause-trace
returns-else-evict_one-clause-trace g c = λ gated.
    let stream = stream_of g.D.Stream.Stream.held g.D.Stream.Stream.taken g.D.Stream.Stream.failed in
    let before = g.D.Network.known c.args.network.now in
    let mid = g.D.Network.known c.evict_if_full.new.network in
    let table = c.evict_if_full.new.table in
    let at = g.D.Network.known c.accept.new.self in
    let later = g.D.Network.known c.evict_one.new.network in
    trace_then gated stream [] [] (Some c.args.now) (Some c.args.now) (Some c.args.now) before mid later c.args.table.now.clients.items table.clients.items c.evict_one.new.table.clients.items
    (course_closes gated stream (IsEvicted c.args.now) (Some c.args.now) (eviction_due gated stream c.args.now) before mid c.args.table.now table c.evict_if_full.ensures.go)
    (course_way gated stream c.args.now c.evict_one.result mid at later table c.evict_one.new.table c.in-Full.ensures.known c.evict_one.ensures.go)
