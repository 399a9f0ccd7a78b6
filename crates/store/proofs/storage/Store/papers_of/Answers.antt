-- Proof that `papers_of` meets its contract.
use Rattle.std.proofs.Common.{refl}
use Rattle.store.proofs.LoadsLemmas.{loads_as, loads_both, loads_cut}
use Rattle.store.proofs.storage.Store.papers_of.Goals as goal

pub returns : goal.returns
returns g c = loads_as (loads_both c.in_ok-keyings.ensures c.in_ok-verdicts.ensures) (λ s is told. rw (told.0.1, told.1) refl)

pub returns-in_err-verdicts : goal.returns-in_err-verdicts
returns-in_err-verdicts g c = loads_cut c.from_residual-in_err-verdicts.ensures.1 c.in_ok-keyings.ensures c.in_err-verdicts.ensures
