-- Proof that `batch_differences` meets its contract.
use Rattle.std.proofs.Common.{ap, ◌∙◌}
use Rattle.register.specs.Offices.{batch_entry}
use Rattle.store.specs.Overviews.{differences_by}
use Rattle.store.proofs.LoadsLemmas.{loads_as, loads_stopped}
use Rattle.store.proofs.storage.Store.batch_differences.Goals as goal

pub returns : goal.returns
returns g c = loads_as c.in_ok-keyings.ensures (λ s is told. c.in_ok-found.ensures.is ∙ ap (differences_by (batch_entry c.args.batch)) told.1)

pub returns-in_err-found : goal.returns-in_err-found
returns-in_err-found g c = loads_stopped c.from_residual-in_err-found.ensures.1 c.in_ok-keyings.ensures (λ s is told. c.in_err-found.ensures.cause)
