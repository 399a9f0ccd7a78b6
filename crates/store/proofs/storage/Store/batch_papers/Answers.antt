-- Proof that `batch_papers` meets its contract.
use Rattle.std.proofs.Common.{◌∙◌}
use Rattle.register.specs.Offices.{batch_entry}
use Rattle.store.proofs.OverviewLemmas.{papers_told}
use Rattle.store.proofs.LoadsLemmas.{loads_as, loads_both, loads_cut, loads_stopped}
use Rattle.store.proofs.storage.Store.batch_papers.Goals as goal

pub returns : goal.returns
returns g c =
    loads_as (loads_both c.in_ok-candidates.ensures c.in_ok-papers.ensures)
    (λ s is told. c.in_ok-found.ensures.is ∙ papers_told s (batch_entry c.args.batch.now) _ _ told.0 told.1)

pub returns-in_err-papers : goal.returns-in_err-papers
returns-in_err-papers g c = loads_cut c.from_residual-in_err-papers.ensures.1 c.in_ok-candidates.ensures c.in_err-papers.ensures

pub returns-in_err-found : goal.returns-in_err-found
returns-in_err-found g c =
    loads_stopped c.from_residual-in_err-found.ensures.1 (loads_both c.in_ok-candidates.ensures c.in_ok-papers.ensures) (λ s is told. c.in_err-found.ensures.cause)
