use Rattle.std.proofs.Common.{◌≡◌, ◌-◌}
use Rattle.order_protocol.specs.Messages.{message_part_entries}
use Rattle.order_protocol.specs.Reading.{pieces_at}
use Rattle.order_protocol.proofs.Loop.{with_front}
use Rattle.order_protocol.proofs.decoding.pieces_of.Given as goal

abbrev pub invariant-loop : goal.invariant-loop
invariant-loop l = with_front (message_part_entries l.pieces.items) (pieces_at (l.count - l.counter) l.rest) ≡ pieces_at l.count l.bytes
