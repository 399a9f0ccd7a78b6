-- Why `close_one_for_bytes` keeps its promise.
use Rattle.std.proofs.Common.{subst, true}
use Rattle.connections.specs.Closing.{byte_limit_rule}
use Rattle.connections.specs.declared.closing.Rule.{Rule}
use Rattle.connections.specs.declared.connection_table.ConnectionTable.{ConnectionTable}
use Rattle.connections.proofs.ClosingLemmas.{NoneDue, client_for_bytes, none_there, none_unseen, order_for_bytes}
use Rattle.connections.proofs.closing.close_one_for_bytes.Goals as goal

pub returns-then-close_one-clause-go : goal.returns-then-close_one-clause-go
returns-then-close_one-clause-go g c =
    client_for_bytes c.byte_limit_rule.result c.close_one.result (g.D.Network.known c.args.network.now) (g.D.Network.known c.close_one.new.network)
    c.args.table.now c.close_one.new.table c.byte_limit_rule.ensures c.requires c.if-close_one.true
    c.if-close_one.ensures.go

pub returns-else-close_one-clause-go : goal.returns-else-close_one-clause-go
returns-else-close_one-clause-go g c =
    let table = c.args.table.now in
    let none = subst (λ (r : Rule). NoneDue r table.clients.items) c.byte_limit_rule.ensures (c.close_one.ensures.nobody c.if-close_one.false) in
    order_for_bytes c.byte_limit_rule-else-close_one.result c.close_one-else-close_one.result (g.D.Network.known c.args.network.now)
    (g.D.Network.known c.close_one.new.network) (g.D.Network.known c.close_one-else-close_one.new.network)
    table c.close_one.new.table c.close_one-else-close_one.new.table c.byte_limit_rule-else-close_one.ensures c.requires
    (none_unseen table.clients.items none) c.if-close_one.ensures.go.0 c.if-close_one.ensures.go.1
    c.close_one-else-close_one.ensures.go

pub returns-else-close_one-clause-nobody : goal.returns-else-close_one-clause-nobody
returns-else-close_one-clause-nobody g c = λ no.
    let table = c.args.table.now in
    let none = subst (λ (r : Rule). NoneDue r c.close_one.new.table.clients.items) c.byte_limit_rule-else-close_one.ensures (c.close_one-else-close_one.ensures.nobody no) in
    none_there table.clients.items (subst (λ (r : ConnectionTable _). NoneDue (byte_limit_rule true) r.clients.items) c.if-close_one.ensures.go.0 none)
