-- Proof that `find_receipt` meets its contract.
use Rattle.std.proofs.Common.{refl}
use Rattle.register.specs.Offices.{receipt_entry, receipt_at}
use Rattle.store.specs.EntryRows.{row_of_receipt}
use Rattle.store.proofs.StateLemmas.{receipt_in, receipt_back}
use Rattle.store.proofs.FindLemmas.{receipt_found, receipt_fits}
use Rattle.store.proofs.LoadsLemmas.{loads_entry}
use Rattle.store.proofs.storage.Store.find_receipt.Goals as goal

pub returns : goal.returns
returns g c =
    let e = c.find_entry.ensures in
    rw (← c.self.view_is) (loads_entry _ _ _ receipt_entry row_of_receipt receipt_in receipt_back (λ s. receipt_at s c.args.actor c.args.id.now)
    (λ s is. receipt_found s is c.args.actor c.args.id.now) (λ s is. receipt_fits s is c.args.actor c.args.id.now) (rw (c.number.ensures, c.text.ensures) at e.found)
    (rw (c.number.ensures, c.text.ensures) at e.cause) refl e.opens e.reads)
