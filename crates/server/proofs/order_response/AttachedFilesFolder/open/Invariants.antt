-- The loop invariant of `open`: none of the files examined so far has the path, so a file with that path, if any, is among the remaining ones.
use Rattle.std.proofs.Common.{◌≡◌, drop}
use Rattle.order_protocol.specs.Messages.{message_part_entries}
use Rattle.server.specs.ServedOrders.{attached_at}
use Rattle.server.proofs.order_response.AttachedFilesFolder.open.Given as goal

abbrev pub invariant-loop-file : goal.invariant-loop-file
invariant-loop-file l = attached_at (message_part_entries l.self.files.now) l.path ≡ attached_at (message_part_entries (drop l.file-index l.self.files.now)) l.path
