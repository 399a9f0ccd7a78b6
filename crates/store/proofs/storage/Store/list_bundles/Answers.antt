-- Proof that `list_bundles` meets its contract.
use Rattle.std.proofs.Common.{refl}
use Rattle.register.specs.Tabulated.{placed_entry}
use Rattle.store.specs.EntryRows.{row_of_placed}
use Rattle.store.specs.Elections.{bundles_at}
use Rattle.store.proofs.StateLemmas.{bundle_in, bundle_back}
use Rattle.store.proofs.FindLemmas.{bundles_listed}
use Rattle.store.proofs.CountFits.{bundles_fit}
use Rattle.store.proofs.LoadsLemmas.{loads_entries}
use Rattle.store.proofs.storage.Store.list_bundles.Goals as goal

pub returns : goal.returns
returns g c =
    let e = c.entries_beginning.ensures in
    rw (← c.self.view_is) (loads_entries (λ found. found.items) placed_entry row_of_placed bundle_in bundle_back (λ s. bundles_at s c.args.ward)
    (λ s is. bundles_listed s is c.args.ward) bundles_fit (rw c.number.ensures at e.finds) (rw c.number.ensures at e.cause) refl e.opens e.reads)
