-- Why `put_err_parts` keeps its promise.
use Rattle.std.proofs.Common.{◌≡◌, arith, drop, take}
use Rattle.std.proofs.lemmas.List.{take_rest}
use Rattle.order_protocol.specs.Frames.{frame_bytes, said_err}
use Rattle.order_protocol.proofs.FrameLemmas.{begins_still, errors_on, part_len}
use Rattle.order_protocol.proofs.encoding.put_err_parts.Goals as goal

pub put_error_output-requires : goal.put_error_output-requires
put_error_output-requires c =
    let part = c.frame_part-part.result.now in
    let is : part ≡ take 65536 (drop c.loop-at.at c.args.bytes.now) = rw take_rest at c.frame_part-part.ensures in
    omega (arith, part_len c.args.bytes.now part c.loop-at.at is)

pub loop-at-smaller : goal.loop-at-smaller
loop-at-smaller c =
    let part = c.frame_part-part.result.now in
    let is : part ≡ take 65536 (drop c.loop-at.at c.args.bytes.now) = rw take_rest at c.frame_part-part.ensures in
    omega (arith, c.loop-at-test.true, part_len c.args.bytes.now part c.loop-at.at is)

pub loop-at-preserved : goal.loop-at-preserved
loop-at-preserved c =
    let bytes = c.args.bytes.now in
    let part = c.frame_part-part.result.now in
    let at = c.loop-at.at in
    let old = c.args.out.now.items in
    let mid = c.loop-at.out.items in
    let new = c.put_error_output.new.out.items in
    let is : part ≡ take 65536 (drop at bytes) = rw take_rest at c.frame_part-part.ensures in
    let len = part_len bytes part at is in
    record {
      within = omega (arith, c.loop-at-test.true, len);
      behind = begins_still old mid new (frame_bytes (said_err part)) c.loop-at.invariant.behind c.in_ok-put_error_output.ensures.said;
      decoded = λ whole.
          let first = c.loop-at.invariant.decoded whole in
          errors_on old mid new bytes part at is first (c.in_ok-put_error_output.ensures.decoded first.whole);
    }
