-- Proof that `send_frame` meets its contract.
use Rattle.std.proofs.Common.{◌∙◌, ◌++◌, ap, arith, refl}
use Rattle.connections.specs.Streams.{stream_of}
use Rattle.connections.specs.declared.client.PendingResponse.{PendingResponse}
use Rattle.order_protocol.specs.Frames.{output_of}
use Rattle.server.proofs.FrameSinkLemmas.{out_more, out_said}
use Rattle.server.proofs.frame_sink.send_frame.Goals as goal

pub returns-in-Ok-clause-goes_out : goal.returns-in-Ok-clause-goes_out
returns-in-Ok-clause-goes_out g c = λ goes.
    let stream = stream_of g.L.Stream.held g.L.Stream.taken g.L.Stream.failed in
    let before = c.deliver.new.answer in
    let between : PendingResponse = record { bytes = c.put_output.new.out; sent = before.sent } in
    let first = out_more stream c.args.stream.now c.deliver.new.stream c.args.answer.now before c.deliver.ensures.delivers c.deliver.ensures.same goes in
    let more = out_said stream c.deliver.new.stream before between c.args.bytes.now (omega (arith, c.requires)) (c.in-Ok.ensures.said) refl first in
    out_more stream c.deliver.new.stream c.deliver-in-Ok.new.stream between c.deliver-in-Ok.new.answer c.deliver-in-Ok.ensures.delivers c.deliver-in-Ok.ensures.same more.0

pub returns-in-Ok-clause-said : goal.returns-in-Ok-clause-said
returns-in-Ok-clause-said g c = λ goes.
    let stream = stream_of g.L.Stream.held g.L.Stream.taken g.L.Stream.failed in
    let before = c.deliver.new.answer in
    let between : PendingResponse = record { bytes = c.put_output.new.out; sent = before.sent } in
    let first = out_more stream c.args.stream.now c.deliver.new.stream c.args.answer.now before c.deliver.ensures.delivers c.deliver.ensures.same goes in
    let more = out_said stream c.deliver.new.stream before between c.args.bytes.now (omega (arith, c.requires)) (c.in-Ok.ensures.said) refl first in
    ap output_of c.deliver-in-Ok.ensures.same ∙ more.1 ∙ ap (λ bytes. output_of bytes ++ c.args.bytes.now) c.deliver.ensures.same
