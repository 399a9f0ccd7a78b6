-- Proof that `list_lots` meets its contract.
use Rattle.std.proofs.Common.{refl}
use Rattle.register.specs.Offices.{lot_entry, lots_of}
use Rattle.store.specs.EntryRows.{row_of_lot}
use Rattle.store.proofs.StateLemmas.{lot_in, lot_back}
use Rattle.store.proofs.FindLemmas.{lots_listed}
use Rattle.store.proofs.FitLemmas.{lots_fit}
use Rattle.store.proofs.LoadsLemmas.{loads_entries}
use Rattle.store.proofs.storage.Store.list_lots.Goals as goal

pub returns : goal.returns
returns g c =
    let e = c.entries_beginning.ensures in
    rw (← c.self.view_is) (loads_entries (λ found. found.items) lot_entry row_of_lot lot_in lot_back (λ s. lots_of s c.args.ward)
    (λ s is. lots_listed s is c.args.ward) lots_fit (rw c.number.ensures at e.finds) (rw c.number.ensures at e.cause) refl e.opens e.reads)
