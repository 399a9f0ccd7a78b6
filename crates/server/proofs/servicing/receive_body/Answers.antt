-- Proof that `receive_body` meets its contract.
use Rattle.std.proofs.Common.{Ok, ap, length}
use Rattle.connections.specs.Streams.{stream_of}
use Rattle.server.proofs.ServicingLemmas.{come_ended, come_whole, parsed_on}
use Rattle.server.proofs.servicing.receive_body.Goals as goal

pub returns-in-Complete-clause-come : goal.returns-in-Complete-clause-come
returns-in-Complete-clause-come g c = λ its lasts all.
    let old = c.args.client.now in
    let client = c.receive.new.self in
    come_whole its (g.L.Stream.held client.stream) client.got.items c.args.parsed c.completeness_of.result _ (ap length c.as_slice-got.ensures.value) c.in-Complete.is c.completeness_of.ensures
    (parsed_on (stream_of g.L.Stream.held g.L.Stream.taken g.L.Stream.failed) its c.args.parsed old.stream client.stream old.got.items client.got.items c.receive.ensures.receives lasts)

pub returns-in-Ended-clause-come : goal.returns-in-Ended-clause-come
returns-in-Ended-clause-come g c = λ its lasts all.
    let old = c.args.client.now in
    let client = c.receive.new.self in
    come_ended its (g.L.Stream.held client.stream) client.got.items c.args.parsed (c.in_ok-receive.ensures.ended (ap Ok c.in-Ended.is))
    (parsed_on (stream_of g.L.Stream.held g.L.Stream.taken g.L.Stream.failed) its c.args.parsed old.stream client.stream old.got.items client.got.items c.receive.ensures.receives lasts)
