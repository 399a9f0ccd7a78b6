-- The loop invariant of `keep_within`.
use Rattle.connections.specs.Closing.{AreClosedByRule, IsClosedForBytes}
use Rattle.connections.proofs.ClosingLemmas.{IsThinner}
use Rattle.connections.proofs.closing.keep_within.Given as goal

-- a connection was closed in each iteration, or there are none left
abbrev pub invariant-loop-turn : goal.invariant-loop-turn
invariant-loop-turn g l = record {
  go : AreClosedByRule IsClosedForBytes (g.D.Network.known l.fn.network) (g.D.Network.known l.network) l.fn.table l.table;
  thinner : IsThinner l.fn.table.clients.items l.turn l.table.clients.items;
}
