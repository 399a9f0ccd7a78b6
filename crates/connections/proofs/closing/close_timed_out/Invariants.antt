-- The loop invariant of `close_timed_out`.
use Rattle.connections.specs.Closing.{AreClosedByRule, IsClosedByRule, timeout_rule}
use Rattle.connections.proofs.ClosingLemmas.{IsThinner}
use Rattle.connections.proofs.closing.close_timed_out.Given as goal

-- a connection was closed in each iteration, or there are none left
abbrev pub invariant-loop-turn : goal.invariant-loop-turn
invariant-loop-turn g l = record {
  go : AreClosedByRule (IsClosedByRule (timeout_rule l.now)) (g.D.Network.known l.fn.network) (g.D.Network.known l.network) l.fn.table l.table;
  thinner : IsThinner l.fn.table.clients.items l.turn l.table.clients.items;
}
