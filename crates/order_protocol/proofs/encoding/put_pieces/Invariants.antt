use Rattle.std.proofs.Common.{◌≡◌, ◌++◌, length, take}
use Rattle.std.specs.Int.{w32, to_be_bytes}
use Rattle.std.specs.List.{flat_map}
use Rattle.order_protocol.specs.Messages.{piece, message_part_entries}
use Rattle.order_protocol.proofs.encoding.put_pieces.Given as goal

abbrev pub invariant-loop-p : goal.invariant-loop-p
invariant-loop-p l = l.out.items ≡ l.fn.out.items ++ (to_be_bytes w32 (length l.ps) ++ flat_map piece (message_part_entries (take l.p-index l.ps)))
