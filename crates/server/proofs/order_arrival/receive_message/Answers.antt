-- Proof that `receive_message` meets its contract.
use Rattle.connections.specs.Streams.{stream_of}
use Rattle.connections.proofs.StreamLemmas.{gathers_then}
use Rattle.server.proofs.order_arrival.receive_message.Goals as goal

pub returns-in_err-receive-clause-receives : goal.returns-in_err-receive-clause-receives
returns-in_err-receive-clause-receives g c =
    gathers_then (stream_of g.L.Stream.held g.L.Stream.taken g.L.Stream.failed) c.args.client.now.stream c.receive_length.new.client.stream
    c.receive.new.self.stream c.args.client.now.got.items c.receive_length.new.client.got.items c.receive.new.self.got.items
    c.receive_length.ensures.receives c.receive.ensures.receives

pub returns-in-Enough-clause-receives : goal.returns-in-Enough-clause-receives
returns-in-Enough-clause-receives g c =
    gathers_then (stream_of g.L.Stream.held g.L.Stream.taken g.L.Stream.failed) c.args.client.now.stream c.receive_length.new.client.stream
    c.receive.new.self.stream c.args.client.now.got.items c.receive_length.new.client.got.items c.receive.new.self.got.items
    c.receive_length.ensures.receives c.receive.ensures.receives

pub returns-in-Waits-clause-receives : goal.returns-in-Waits-clause-receives
returns-in-Waits-clause-receives g c =
    gathers_then (stream_of g.L.Stream.held g.L.Stream.taken g.L.Stream.failed) c.args.client.now.stream c.receive_length.new.client.stream
    c.receive.new.self.stream c.args.client.now.got.items c.receive_length.new.client.got.items c.receive.new.self.got.items
    c.receive_length.ensures.receives c.receive.ensures.receives

pub returns-in-Ended-clause-receives : goal.returns-in-Ended-clause-receives
returns-in-Ended-clause-receives g c =
    gathers_then (stream_of g.L.Stream.held g.L.Stream.taken g.L.Stream.failed) c.args.client.now.stream c.receive_length.new.client.stream
    c.receive.new.self.stream c.args.client.now.got.items c.receive_length.new.client.got.items c.receive.new.self.got.items
    c.receive_length.ensures.receives c.receive.ensures.receives
