-- The loop invariant of `list_value`.
use Rattle.std.proofs.Common.{◌≡◌, map, take}
use Rattle.serde_json.specs.View.{view}
use Rattle.register.specs.Offices.{receipt_entry}
use Rattle.wire.specs.OfficeReplies.{receipt_data}
use Rattle.wire.proofs.read_responses.receipts.list_value.Given as goal

abbrev pub invariant-loop-receipt : goal.invariant-loop-receipt
invariant-loop-receipt l = map view l.values.items ≡ map receipt_data (map receipt_entry (take l.receipt-index l.receipts))
