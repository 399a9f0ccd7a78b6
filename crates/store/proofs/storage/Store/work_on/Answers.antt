-- Proof that `work_on` meets its contract.
use Rattle.std.proofs.Common.{map, refl, ap, ◌∙◌}
use Rattle.register.specs.Offices.{candidate_entry}
use Rattle.register.specs.Marks.{columns_of}
use Rattle.store.proofs.WorkLemmas.{same_work}
use Rattle.store.proofs.LoadsLemmas.{loads_as, loads_both, loads_cut}
use Rattle.store.proofs.storage.Store.work_on.Goals as goal

pub returns : goal.returns
returns g c =
    loads_as (loads_both c.in_ok-candidates.ensures c.in_ok-keyed.ensures)
    (λ s is told. same_work _ _ refl refl (c.columns_of.ensures.is ∙ ap columns_of (ap (map candidate_entry) c.deref.ensures.value ∙ told.0)) refl refl told.1)

pub returns-in_err-keyed : goal.returns-in_err-keyed
returns-in_err-keyed g c = loads_cut c.from_residual-in_err-keyed.ensures.1 c.in_ok-candidates.ensures c.in_err-keyed.ensures
