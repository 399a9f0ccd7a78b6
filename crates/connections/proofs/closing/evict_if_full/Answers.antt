-- Why `evict_if_full` keeps its promise.
use Rattle.connections.proofs.ClosingLemmas.{let_go_full}
use Rattle.connections.proofs.closing.evict_if_full.Goals as goal

pub returns-clause-go : goal.returns-clause-go
returns-clause-go g c =
    let_go_full c.args.now c.evict_one.result (g.D.Network.known c.args.network.now) (g.D.Network.known c.evict_one.new.network) c.args.table.now c.evict_one.new.table
    (c.is_full.ensures.full c.if-not-is_full.false) c.evict_one.ensures.go
