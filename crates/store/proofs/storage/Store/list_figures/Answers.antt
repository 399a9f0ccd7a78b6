-- Proof that `list_figures` meets its contract.
use Rattle.std.proofs.Common.{refl}
use Rattle.register.specs.Tabulated.{figure_entry}
use Rattle.store.specs.EntryRows.{row_of_figure}
use Rattle.store.specs.Elections.{figures_at}
use Rattle.store.proofs.StateLemmas.{figure_in, figure_back}
use Rattle.store.proofs.FindLemmas.{figures_listed}
use Rattle.store.proofs.CountFits.{figures_fit}
use Rattle.store.proofs.LoadsLemmas.{loads_entries}
use Rattle.store.proofs.storage.Store.list_figures.Goals as goal

pub returns : goal.returns
returns g c =
    let e = c.entries_beginning.ensures in
    rw (← c.self.view_is) (loads_entries (λ found. found.items) figure_entry row_of_figure figure_in figure_back (λ s. figures_at s c.args.ward)
    (λ s is. figures_listed s is c.args.ward) figures_fit (rw c.number.ensures at e.finds) (rw c.number.ensures at e.cause) refl e.opens e.reads)
