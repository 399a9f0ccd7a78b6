-- Proof that `find_batch` meets its contract.
use Rattle.std.proofs.Common.{refl}
use Rattle.register.specs.Offices.{batch_entry, batch_at}
use Rattle.store.specs.EntryRows.{row_of_batch}
use Rattle.store.proofs.StateLemmas.{batch_in, batch_back}
use Rattle.store.proofs.FindLemmas.{batch_found, batch_fits}
use Rattle.store.proofs.LoadsLemmas.{loads_entry}
use Rattle.store.proofs.storage.Store.find_batch.Goals as goal

pub returns : goal.returns
returns g c =
    let e = c.find_entry.ensures in
    rw (← c.self.view_is) (loads_entry _ _ _ batch_entry row_of_batch batch_in batch_back (λ s. batch_at s c.args.batch) (λ s is. batch_found s is c.args.batch)
    (λ s is. batch_fits s is c.args.batch) (rw c.number.ensures at e.found) (rw c.number.ensures at e.cause) refl e.opens e.reads)
