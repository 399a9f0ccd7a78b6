-- Proof that `ward_doubtful` meets its contract.
use Rattle.std.proofs.Common.{map, ap, ◌∙◌}
use Rattle.register.specs.Offices.{candidate_entry}
use Rattle.register.specs.Marks.{columns_of}
use Rattle.store.proofs.OverviewLemmas.{doubtful_told}
use Rattle.store.proofs.LoadsLemmas.{loads_as, loads_both, loads_cut}
use Rattle.store.proofs.storage.Store.ward_doubtful.Goals as goal

pub returns : goal.returns
returns g c =
    loads_as (loads_both (loads_both c.in_ok-candidates.ensures c.in_ok-batches.ensures) (rw c.deref-2.ensures.value at c.in_ok-papers.ensures))
    (λ s is told.
    doubtful_told s c.args.ward _ c.columns_of-columns.result _ told.0.0 (c.columns_of-columns.ensures.is ∙ ap columns_of (ap (map candidate_entry) c.deref.ensures.value)) told.0.1 told.1)

pub returns-in_err-batches : goal.returns-in_err-batches
returns-in_err-batches g c = loads_cut c.from_residual-in_err-batches.ensures.1 c.in_ok-candidates.ensures c.in_err-batches.ensures

pub returns-in_err-papers : goal.returns-in_err-papers
returns-in_err-papers g c = loads_cut c.from_residual-in_err-papers.ensures.1 (loads_both c.in_ok-candidates.ensures c.in_ok-batches.ensures) c.in_err-papers.ensures
