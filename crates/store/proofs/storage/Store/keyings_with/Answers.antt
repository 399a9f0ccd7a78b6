-- Proof that `keyings_with` meets its contract.
use Rattle.std.proofs.Common.{refl}
use Rattle.register.specs.Offices.{batch_entry}
use Rattle.store.proofs.ClerkLemmas.{keyings_read}
use Rattle.store.proofs.LoadsLemmas.{loads_as, loads_both, loads_cut}
use Rattle.store.proofs.storage.Store.keyings_with.Goals as goal

pub returns : goal.returns
returns g c =
    loads_as (loads_both (loads_both c.in_ok-first.ensures c.in_ok-second.ensures) c.in_ok-third.ensures)
    (λ s is told. (refl, λ same. keyings_read s (batch_entry c.args.batch.now) _ c.clerks_of-clerks.result _ _ _ told.0.0 told.0.1 told.1 c.clerks_of-clerks.ensures same))

pub returns-in_err-second : goal.returns-in_err-second
returns-in_err-second g c = loads_cut c.from_residual-in_err-second.ensures.1 c.in_ok-first.ensures c.in_err-second.ensures

pub returns-in_err-third : goal.returns-in_err-third
returns-in_err-third g c = loads_cut c.from_residual-in_err-third.ensures.1 (loads_both c.in_ok-first.ensures c.in_ok-second.ensures) c.in_err-third.ensures
