-- The loop invariant and the measure of `close_all`.
use Rattle.std.proofs.Common.{length}
use Rattle.connections.specs.Closing.{AreClosedByRule, IsClosed}
use Rattle.connections.proofs.closing.close_all.Given as goal

-- connections have been closed so far
abbrev pub invariant-loop-network : goal.invariant-loop-network
invariant-loop-network g l = AreClosedByRule IsClosed (g.D.Network.known l.fn.network) (g.D.Network.known l.network) l.fn.table l.table

abbrev pub decreases-loop-network : goal.decreases-loop-network
decreases-loop-network g l = length l.table.clients.items
