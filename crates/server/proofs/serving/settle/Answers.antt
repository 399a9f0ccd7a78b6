-- Proof that `settle` meets its contract.
use Rattle.std.proofs.Common.{◌∙◌, Option, ap, refl, subst, sym}
use Rattle.connections.specs.Closing.{IsClosedForBytes}
use Rattle.connections.specs.Tables.{with_removed}
use Rattle.connections.specs.declared.removed.CloseReason.{CloseReason}
use Rattle.connections.specs.declared.removed.Removed.{Removed}
use Rattle.connections.proofs.BoundLemmas.{within_again}
use Rattle.connections.proofs.ClosingLemmas.{bytes_outs}
use Rattle.server.specs.Servers.{IsSettled}
use Rattle.server.proofs.ServerLemmas.{few_again}
use Rattle.server.proofs.serving.settle.Goals as goal

pub returns-in-Some-clause-settles : goal.returns-in-Some-clause-settles
returns-in-Some-clause-settles g c =
    let known = g.D.Network.known in
    let table = c.args.table.now in
    subst (λ (r : Option CloseReason). IsSettled r c.args.place c.args.client (known c.args.network.now) (known c.close.new.self) table table) (sym c.in-Some.is)
    (c.close.ensures ∙ ap (λ (l : Removed _). with_removed (known c.args.network.now) l) c.into_removed.ensures, refl)

pub returns-in-None-clause-settles : goal.returns-in-None-clause-settles
returns-in-None-clause-settles g c =
    let known = g.D.Network.known in
    let back = c.put_back_at in
    subst (λ (r : Option CloseReason). IsSettled r c.args.place c.args.client (known c.args.network.now) (known c.keep_within.new.network) c.args.table.now c.keep_within.new.table) (sym c.in-None.is)
    (back.new.self, record { clients = back.ensures.clients; came = back.ensures.came; counted = back.ensures.counted }, c.keep_within.ensures.go)

pub returns-in-None-clause-within : goal.returns-in-None-clause-within
returns-in-None-clause-within g c =
    let known = g.D.Network.known in
    let back = c.put_back_at in
    let few = few_again c.args.table.now.clients.items back.new.self.clients.items c.args.place c.args.client c.requires.place.0 c.requires.place.1 back.ensures.clients in
    within_again IsClosedForBytes bytes_outs (known c.args.network.now) (known c.keep_within.new.network) back.new.self c.keep_within.new.table few c.keep_within.ensures.go
    (c.keep_within.ensures.within few)
