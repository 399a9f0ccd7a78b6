-- Proof that `answer_receipts` meets its contract.
use Rattle.std.proofs.Common.{subst, sym}
use Rattle.std.proofs.Common.{List, map}
use Rattle.register.specs.Offices.{ReceiptEntry, receipt_entry}
use Rattle.wire.specs.OfficeReplies.{receipts_data}
use Rattle.wire.specs.Serving.{IsReadTold, data_response}
use Rattle.wire.proofs.OfficeReplyLemmas.{receipts-float}
use Rattle.wire.proofs.read_responses.receipts.answer_receipts.Goals as goal

pub returns-in-Ok : goal.returns-in-Ok
returns-in-Ok c =
    subst (λ told. IsReadTold (λ (receipts : List ReceiptEntry). data_response (receipts_data receipts)) (λ receipts. map receipt_entry receipts.items) told c.valued.result) (sym c.in-Ok.is)
    (c.valued.ensures (receipts_data (map receipt_entry c.in-Ok.receipts.items)) (receipts-float (map receipt_entry c.in-Ok.receipts.items)) (rw c.deref.ensures.value at c.receipts_value.ensures))
