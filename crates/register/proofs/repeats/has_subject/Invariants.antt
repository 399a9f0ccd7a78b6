-- The invariant of the loop in `has_subject`.
use Rattle.std.proofs.Common.{◌≡◌, map, drop}
use Rattle.std.specs.List.{list_any}
use Rattle.register.specs.Offices.{receipt_entry}
use Rattle.register.specs.Repeats.{has_subject}
use Rattle.register.proofs.repeats.has_subject.Given as goal

abbrev pub invariant-loop-receipt : goal.invariant-loop-receipt
invariant-loop-receipt l = list_any (has_subject l.subject) (map receipt_entry l.receipts) ≡ list_any (has_subject l.subject) (map receipt_entry (drop l.receipt-index l.receipts))
