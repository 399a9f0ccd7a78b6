-- Proof that `list_verdicts` meets its contract.
use Rattle.std.proofs.Common.{refl}
use Rattle.register.specs.Offices.{judged_entry, verdicts_of}
use Rattle.store.specs.EntryRows.{row_of_judged}
use Rattle.store.proofs.StateLemmas.{judged_in, judged_back}
use Rattle.store.proofs.FindLemmas.{verdicts_listed}
use Rattle.store.proofs.FitLemmas.{verdicts_fit}
use Rattle.store.proofs.LoadsLemmas.{loads_entries}
use Rattle.store.proofs.storage.Store.list_verdicts.Goals as goal

pub returns : goal.returns
returns g c =
    let e = c.entries_beginning.ensures in
    rw (← c.self.view_is) (loads_entries (λ found. found.items) judged_entry row_of_judged judged_in judged_back (λ s. verdicts_of s c.args.batch)
    (λ s is. verdicts_listed s is c.args.batch) verdicts_fit (rw c.number.ensures at e.finds) (rw c.number.ensures at e.cause) refl e.opens e.reads)
