-- Proof that `find_ward` meets its contract.
use Rattle.std.proofs.Common.{refl}
use Rattle.register.specs.Offices.{ward_entry, ward_at}
use Rattle.store.specs.EntryRows.{row_of_ward}
use Rattle.store.proofs.StateLemmas.{ward_in, ward_back}
use Rattle.store.proofs.FindLemmas.{ward_found, ward_fits}
use Rattle.store.proofs.LoadsLemmas.{loads_entry}
use Rattle.store.proofs.storage.Store.find_ward.Goals as goal

pub returns : goal.returns
returns g c =
    let e = c.find_entry.ensures in
    rw (← c.self.view_is) (loads_entry _ _ _ ward_entry row_of_ward ward_in ward_back (λ s. ward_at s c.args.ward) (λ s is. ward_found s is c.args.ward)
    (λ s is. ward_fits s is c.args.ward) (rw c.number.ensures at e.found) (rw c.number.ensures at e.cause) refl e.opens e.reads)
