-- The loop invariant of `files_of`: the files made so far are the ones that were read.
use Rattle.std.proofs.Common.{◌≡◌, map, take}
use Rattle.order_protocol.specs.Messages.{message_part_entries}
use Rattle.wire.specs.ConsoleOrders.{console_file_entry}
use Rattle.server.specs.ConsoleOrders.{sent_file}
use Rattle.server.proofs.console_order.files_of.Given as goal

abbrev pub invariant-loop-file : goal.invariant-loop-file
invariant-loop-file l = message_part_entries l.parts.items ≡ map sent_file (map console_file_entry (take l.file-index l.files))
