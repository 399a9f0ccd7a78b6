-- Why `close_all` keeps its promise.
use Rattle.std.proofs.Common.{refl}
use Rattle.connections.specs.Closing.{IsClosed}
use Rattle.connections.proofs.ClosingLemmas.{goes_first, let_go_one, let_go_then}
use Rattle.connections.proofs.closing.close_all.Goals as goal

pub loop-network-preserved : goal.loop-network-preserved
loop-network-preserved g c =
    let table = c.loop-network.table in
    let new = c.close_at.new.table in
    let before = g.D.Network.known c.loop-network.network in
    let later = g.D.Network.known c.close_at.new.network in
    let did = c.close_at.ensures in
    let_go_then IsClosed (g.D.Network.known c.args.network.now) before later c.args.table.now table new c.loop-network.invariant
    (let_go_one IsClosed before later table new (goes_first _ before later table new refl did.closed did.came did.counted))
