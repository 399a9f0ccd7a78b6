-- Proof that `list_receipts` meets its contract.
use Rattle.std.proofs.Common.{Some, refl}
use Rattle.register.specs.Offices.{receipt_entry}
use Rattle.store.specs.EntryRows.{row_of_receipt}
use Rattle.store.specs.Overviews.{receipts_of}
use Rattle.store.proofs.StateLemmas.{receipt_in, receipt_back}
use Rattle.store.proofs.FindLemmas.{receipts_listed}
use Rattle.store.proofs.FitLemmas.{receipts_fit}
use Rattle.store.proofs.LoadsLemmas.{loads_entries}
use Rattle.store.proofs.storage.Store.list_receipts.Goals as goal

pub returns : goal.returns
returns g c =
    let e = c.entries_beginning.ensures in
    rw (← c.self.view_is) (loads_entries (λ found. found.items) receipt_entry row_of_receipt receipt_in receipt_back (λ s. receipts_of s (Some c.args.actor))
    (λ s is. receipts_listed s is c.args.actor) receipts_fit (rw c.number.ensures at e.finds) (rw c.number.ensures at e.cause) refl e.opens e.reads)
