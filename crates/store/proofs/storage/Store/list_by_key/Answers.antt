-- Proof that `list_by_key` meets its contract.
use Rattle.std.proofs.Common.{refl}
use Rattle.register.specs.Offices.{keyed_entry, keying_of}
use Rattle.store.specs.EntryRows.{row_of_keyed}
use Rattle.store.proofs.StateLemmas.{keyed_in, keyed_back}
use Rattle.store.proofs.FindLemmas.{keying_listed}
use Rattle.store.proofs.FitLemmas.{keyings_fit}
use Rattle.store.proofs.LoadsLemmas.{loads_entries}
use Rattle.store.proofs.storage.Store.list_by_key.Goals as goal

pub returns : goal.returns
returns g c =
    let e = c.entries_beginning.ensures in
    rw (← c.self.view_is) (loads_entries (λ found. found.items) keyed_entry row_of_keyed keyed_in keyed_back (λ s. keying_of s c.args.batch c.args.round c.args.clerk)
    (λ s is. keying_listed s is c.args.batch c.args.round c.args.clerk) keyings_fit (rw (c.number.ensures, c.number-2.ensures, c.number-3.ensures) at e.finds)
    (rw (c.number.ensures, c.number-2.ensures, c.number-3.ensures) at e.cause) refl e.opens e.reads)
