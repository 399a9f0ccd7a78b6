-- Proof that `ward_overview_by` meets its contract.
use Rattle.std.proofs.Common.{refl}
use Rattle.store.proofs.OverviewLemmas.{same_ward_view}
use Rattle.store.proofs.LoadsLemmas.{loads_as, loads_both, loads_cut}
use Rattle.store.proofs.storage.Store.ward_overview_by.Goals as goal

pub returns : goal.returns
returns g c = loads_as (loads_both c.in_ok-status.ensures c.in_ok-declared.ensures) (λ s is told. λ there known. same_ward_view _ _ refl (told.0 known) (told.1 there).0 (told.1 there).1)

pub returns-in_err-declared : goal.returns-in_err-declared
returns-in_err-declared g c = loads_cut c.from_residual-in_err-declared.ensures.1 c.in_ok-status.ensures c.in_err-declared.ensures
