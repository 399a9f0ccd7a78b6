-- The loop invariant and the measure of `files_of`.
use Rattle.std.proofs.Common.{map, length}
use Rattle.serde_json.specs.View.{members_view}
use Rattle.wire.specs.ConsoleOrders.{console_file_entry}
use Rattle.wire.proofs.FileLemmas.{AreReadOf}
use Rattle.wire.proofs.console_order.files_of.Given as goal

abbrev pub invariant-loop-name : goal.invariant-loop-name
invariant-loop-name l = record {
  read : AreReadOf (members_view l.fn.members.entries) (map console_file_entry l.files.items) (members_view l.rest.entries);
}

abbrev pub decreases-loop-name : goal.decreases-loop-name
decreases-loop-name l = length l.rest.entries
