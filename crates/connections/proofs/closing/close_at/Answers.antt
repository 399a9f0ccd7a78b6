-- Why `close_at` keeps its promise.
use Rattle.connections.proofs.ClosingLemmas.{closed_at}
use Rattle.connections.proofs.closing.close_at.Goals as goal

pub returns-clause-closed : goal.returns-clause-closed
returns-clause-closed g c =
    closed_at c.args.why c.args.place c.args.table.now.clients.items c.remove_at.new.self.clients.items c.remove_at.result c.into_removed.result
    (g.D.Network.known c.args.network.now) (g.D.Network.known c.close.new.self)
    c.requires c.remove_at.ensures.client c.remove_at.ensures.clients c.into_removed.ensures c.close.ensures
