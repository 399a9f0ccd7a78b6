-- Proof that `end` meets its contract.
use Rattle.std.proofs.Common.{inl, inr, refl}
use Rattle.connections.specs.Streams.{stream_of}
use Rattle.connections.specs.declared.client.PendingResponse.{PendingResponse}
use Rattle.server.proofs.FrameSinkLemmas.{ended, said_from}
use Rattle.server.proofs.frame_sink.FrameSink.end.Goals as goal

pub returns-in-Ok : goal.returns-in-Ok
returns-in-Ok g c = λ said took.
    let stream = stream_of g.L.Stream.held g.L.Stream.taken g.L.Stream.failed in
    let after : PendingResponse = record { bytes = c.put_end.new.out; sent = c.args.self.answer.sent } in
    let (goes, is) = said_from stream c.args.self said took in
    let says = c.in-Ok.ensures.says goes.whole in
    ended stream c.args.self said c.args.status c.args.err.now says.0 after took refl c.in-Ok.ensures.begins says.1 (inr says.2)

pub returns-in-Err : goal.returns-in-Err
returns-in-Err g c = λ said took.
    let stream = stream_of g.L.Stream.held g.L.Stream.taken g.L.Stream.failed in
    let after : PendingResponse = record { bytes = c.put_end.new.out; sent = c.args.self.answer.sent } in
    let (goes, is) = said_from stream c.args.self said took in
    let says = c.put_end.ensures.says goes.whole in
    ended stream c.args.self said c.args.status c.args.err.now says.0 after took refl c.put_end.ensures.begins says.1 (inl tt)
