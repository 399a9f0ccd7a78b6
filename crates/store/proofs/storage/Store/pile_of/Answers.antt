-- Proof that `pile_of` meets its contract.
use Rattle.store.proofs.LoadsLemmas.{loads_as, loads_both, loads_cut}
use Rattle.store.proofs.storage.Store.pile_of.Goals as goal

pub returns : goal.returns
returns g c =
    loads_as (loads_both c.in_ok-keyings.ensures c.in_ok-papers.ensures) (λ s is told. told.1 (record { third_is = told.0.0; they_are = told.0.1 }))

pub returns-in_err-papers : goal.returns-in_err-papers
returns-in_err-papers g c = loads_cut c.from_residual-in_err-papers.ensures.1 c.in_ok-keyings.ensures c.in_err-papers.ensures
