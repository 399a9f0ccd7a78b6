-- Proof that `list_batches` meets its contract.
use Rattle.std.proofs.Common.{refl}
use Rattle.register.specs.Offices.{batch_entry}
use Rattle.register.specs.Agreement.{batches_of}
use Rattle.store.specs.EntryRows.{row_of_batch}
use Rattle.store.proofs.StateLemmas.{batch_in, batch_back}
use Rattle.store.proofs.FindLemmas.{batches_listed}
use Rattle.store.proofs.FitLemmas.{batches_fit}
use Rattle.store.proofs.LoadsLemmas.{loads_entries}
use Rattle.store.proofs.storage.Store.list_batches.Goals as goal

pub returns : goal.returns
returns g c =
    let e = c.entries_referring.ensures in
    rw (← c.self.view_is) (loads_entries (λ found. found.items) batch_entry row_of_batch batch_in batch_back (λ s. batches_of s c.args.ward)
    (λ s is. batches_listed s is c.args.ward) batches_fit (rw c.number.ensures at e.finds) (rw c.number.ensures at e.cause) refl e.opens e.reads)
