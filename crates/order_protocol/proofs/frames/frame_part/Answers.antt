-- Why `frame_part` keeps its promise.
use Rattle.std.proofs.Common.{arith, sym}
use Rattle.std.proofs.lemmas.List.{length-take, take_all}
use Rattle.order_protocol.proofs.frames.frame_part.Goals as goal

pub slice_bounds-result-end : goal.slice_bounds-result-end
slice_bounds-result-end c = omega (arith, length-take 65536 c.args.bytes.now, c.if-bytes-gt-MAX_FRAME.true)

pub returns-else-bytes-gt-MAX_FRAME : goal.returns-else-bytes-gt-MAX_FRAME
returns-else-bytes-gt-MAX_FRAME c = sym (take_all 65536 c.args.bytes.now (omega (arith, c.if-bytes-gt-MAX_FRAME.false)))
