-- The loop invariant of `fitting_parts`: the parts made so far can be encoded.
use Rattle.std.specs.List.{AllByRecursion}
use Rattle.order_protocol.specs.Messages.{PieceFits, message_part_entries}
use Rattle.count_office.proofs.order_client.fitting_parts.Given as goal

abbrev pub invariant-loop-part : goal.invariant-loop-part
invariant-loop-part l = AllByRecursion PieceFits (message_part_entries l.pieces.items)
