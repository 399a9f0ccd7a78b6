-- Why `keep_within` keeps its promise.
use Rattle.connections.specs.Closing.{IsClosedForBytes}
use Rattle.connections.proofs.ClosingLemmas.{let_go_maybe, let_go_then, thinner_maybe}
use Rattle.connections.proofs.closing.keep_within.Goals as goal

pub loop-turn-preserved : goal.loop-turn-preserved
loop-turn-preserved g c =
    let table = c.loop-turn.table in
    let new = c.close_one_for_bytes.new.table in
    let before = g.D.Network.known c.loop-turn.network in
    let later = g.D.Network.known c.close_one_for_bytes.new.network in
    let did = c.close_one_for_bytes.ensures in
    record {
      go = let_go_then IsClosedForBytes (g.D.Network.known c.args.network.now) before later c.args.table.now table new c.loop-turn.invariant.go
          (let_go_maybe IsClosedForBytes c.close_one_for_bytes.result before later table new did.go);
      thinner = thinner_maybe c.args.table.now.clients.items c.loop-turn.turn c.close_one_for_bytes.result before later table new did.go did.nobody c.loop-turn.invariant.thinner;
    }
