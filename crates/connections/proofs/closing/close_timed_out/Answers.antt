-- Why `close_timed_out` keeps its promise.
use Rattle.std.proofs.Common.{subst}
use Rattle.connections.specs.Closing.{IsClosedByRule, OneIsClosed, timeout_rule}
use Rattle.connections.specs.declared.closing.Rule.{Rule}
use Rattle.connections.proofs.ClosingLemmas.{late_outs, let_go_one, let_go_then, one_fewer, thinner}
use Rattle.connections.proofs.closing.close_timed_out.Goals as goal

pub loop-turn-preserved : goal.loop-turn-preserved
loop-turn-preserved g c =
    let goes = subst (λ (r : Rule). OneIsClosed (IsClosedByRule r) (g.D.Network.known c.loop-turn.network) (g.D.Network.known c.close_one.new.network)
    c.loop-turn.table c.close_one.new.table) c.timeout_rule.ensures c.if-not-close_one.ensures.go in
    let table = c.loop-turn.table in
    let new = c.close_one.new.table in
    let before = g.D.Network.known c.loop-turn.network in
    let later = g.D.Network.known c.close_one.new.network in
    record {
      go = let_go_then (IsClosedByRule (timeout_rule c.args.now)) (g.D.Network.known c.args.network.now) before later c.args.table.now table new c.loop-turn.invariant.go
          (let_go_one (IsClosedByRule (timeout_rule c.args.now)) before later table new goes);
      thinner = thinner c.args.table.now.clients.items table.clients.items new.clients.items c.loop-turn.turn
          (one_fewer (IsClosedByRule (timeout_rule c.args.now)) (late_outs c.args.now) table new before later goes) c.loop-turn.invariant.thinner;
    }
