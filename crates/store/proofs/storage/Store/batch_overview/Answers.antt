-- Proof that `batch_overview` meets its contract.
use Rattle.std.proofs.Common.{map, ap, ◌∙◌}
use Rattle.register.specs.Offices.{batch_entry, judged_entry}
use Rattle.register.specs.Agreement.{clerks}
use Rattle.store.specs.Overviews.{clerk_view_of}
use Rattle.store.proofs.PileLemmas.{view_told}
use Rattle.store.proofs.LoadsLemmas.{loads_as, loads_both, loads_cut}
use Rattle.store.proofs.storage.Store.batch_overview.Goals as goal

pub returns : goal.returns
returns g c =
    let b = batch_entry c.args.batch in
    loads_as (loads_both (rw c.deref.ensures.value at c.in_ok-clerks.ensures) c.in_ok-verdicts.ensures)
    (λ s is told. λ are.
    c.overview_by.ensures
    ∙ view_told s b _ _ _ (told.0 ∙ ap (map (clerk_view_of s b)) (c.in-Ok.ensures ∙ c.clerks_of.ensures ∙ ap (clerks b) are.third_is)) are.they_are
    (ap (map judged_entry) c.deref-2.ensures.value ∙ told.1))

pub returns-in_err-verdicts : goal.returns-in_err-verdicts
returns-in_err-verdicts g c = loads_cut c.from_residual-in_err-verdicts.ensures.1 (rw c.deref.ensures.value at c.in_ok-clerks.ensures) c.in_err-verdicts.ensures
