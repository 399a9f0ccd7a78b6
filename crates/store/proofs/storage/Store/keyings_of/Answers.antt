-- Proof that `keyings_of` meets its contract.
use Rattle.std.proofs.Common.{option_map, ap, ◌∙◌}
use Rattle.register.specs.Offices.{third_entry}
use Rattle.store.proofs.LoadsLemmas.{loads_as, loads_both, loads_cut}
use Rattle.store.proofs.storage.Store.keyings_of.Goals as goal

pub returns : goal.returns
returns g c = loads_as (loads_both c.in_ok-third.ensures c.in_ok-keyings.ensures) (λ s is told. (ap (option_map third_entry) told.1.0 ∙ told.0, told.1.1 told.0))

pub returns-in_err-keyings : goal.returns-in_err-keyings
returns-in_err-keyings g c = loads_cut c.from_residual-in_err-keyings.ensures.1 c.in_ok-third.ensures c.in_err-keyings.ensures
