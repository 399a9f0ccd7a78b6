-- Proof that `all_wards` meets its contract.
use Rattle.std.proofs.Common.{refl}
use Rattle.register.specs.Offices.{ward_entry}
use Rattle.store.specs.EntryRows.{row_of_ward}
use Rattle.store.proofs.StateLemmas.{ward_in, ward_back}
use Rattle.store.proofs.FindLemmas.{all_wards_listed}
use Rattle.store.proofs.FitLemmas.{wards_fit}
use Rattle.store.proofs.LoadsLemmas.{loads_entries}
use Rattle.store.proofs.storage.Store.all_wards.Goals as goal

pub returns : goal.returns
returns g c =
    let e = c.entries_beginning.ensures in
    rw (← c.self.view_is) (loads_entries (λ found. found.items) ward_entry row_of_ward ward_in ward_back (λ s. s.wards) all_wards_listed wards_fit e.finds e.cause refl e.opens e.reads)
