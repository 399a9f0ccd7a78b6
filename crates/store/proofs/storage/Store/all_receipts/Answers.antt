-- Proof that `all_receipts` meets its contract.
use Rattle.std.proofs.Common.{refl}
use Rattle.register.specs.Offices.{receipt_entry}
use Rattle.store.specs.EntryRows.{row_of_receipt}
use Rattle.store.proofs.StateLemmas.{receipt_in, receipt_back}
use Rattle.store.proofs.FindLemmas.{all_receipts_listed}
use Rattle.store.proofs.FitLemmas.{receipts_fit}
use Rattle.store.proofs.LoadsLemmas.{loads_entries}
use Rattle.store.proofs.storage.Store.all_receipts.Goals as goal

pub returns : goal.returns
returns g c =
    let e = c.entries_beginning.ensures in
    rw (← c.self.view_is) (loads_entries (λ found. found.items) receipt_entry row_of_receipt receipt_in receipt_back
    (λ s. s.receipts) all_receipts_listed receipts_fit e.finds e.cause refl e.opens e.reads)
