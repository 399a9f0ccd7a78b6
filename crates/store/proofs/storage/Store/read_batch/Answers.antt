-- Proof that `read_batch` meets its contract.
use Rattle.std.proofs.Common.{refl}
use Rattle.register.specs.Offices.{batch_entry}
use Rattle.store.specs.Piles.{KeyingsAre}
use Rattle.store.proofs.PileLemmas.{same_read_view}
use Rattle.store.proofs.LoadsLemmas.{loads_as, loads_both, loads_cut}
use Rattle.store.proofs.storage.Store.read_batch.Goals as goal

pub returns : goal.returns
returns g c =
    loads_as (loads_both (loads_both c.in_ok-keyings.ensures c.in_ok-pile.ensures) c.in_ok-overview.ensures)
    (λ s is told.
    let are : KeyingsAre s (batch_entry c.args.batch) c.in_ok-keyings.keyings = record { third_is = told.0.0.0; they_are = told.0.0.1 } in
    same_read_view _ _ refl (told.0.1 are) (told.1 are))

pub returns-in_err-pile : goal.returns-in_err-pile
returns-in_err-pile g c = loads_cut c.from_residual-in_err-pile.ensures.1 c.in_ok-keyings.ensures c.in_err-pile.ensures

pub returns-in_err-overview : goal.returns-in_err-overview
returns-in_err-overview g c = loads_cut c.from_residual-in_err-overview.ensures.1 (loads_both c.in_ok-keyings.ensures c.in_ok-pile.ensures) c.in_err-overview.ensures
