-- The invariant and the variant of the loop in `put_err_parts`.
use Rattle.std.proofs.Common.{◌≡◌, ◌-◌, ◌≤◌, [], length, take}
use Rattle.order_protocol.specs.Frames.{AreWhole, SaysMore}
use Rattle.order_protocol.proofs.encoding.put_err_parts.Given as goal

abbrev pub invariant-loop-at : goal.invariant-loop-at
invariant-loop-at l = record {
  within : l.at ≤ length l.bytes;
  behind : take (length l.fn.out.items) l.out.items ≡ l.fn.out.items;
  decoded : AreWhole l.fn.out.items → SaysMore l.fn.out.items l.out.items [] (take l.at l.bytes);
}

abbrev pub decreases-loop-at : goal.decreases-loop-at
decreases-loop-at l = length l.bytes - l.at
