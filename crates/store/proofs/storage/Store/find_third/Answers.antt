-- Proof that `find_third` meets its contract.
use Rattle.std.proofs.Common.{refl}
use Rattle.register.specs.Offices.{third_entry, third_at}
use Rattle.store.specs.EntryRows.{row_of_third}
use Rattle.store.proofs.StateLemmas.{third_in, third_back}
use Rattle.store.proofs.FindLemmas.{third_found, third_fits}
use Rattle.store.proofs.LoadsLemmas.{loads_entry}
use Rattle.store.proofs.storage.Store.find_third.Goals as goal

pub returns : goal.returns
returns g c =
    let e = c.find_entry.ensures in
    rw (← c.self.view_is) (loads_entry _ _ _ third_entry row_of_third third_in third_back (λ s. third_at s c.args.batch) (λ s is. third_found s is c.args.batch)
    (λ s is. third_fits s is c.args.batch) (rw c.number.ensures at e.found) (rw c.number.ensures at e.cause) refl e.opens e.reads)
