-- Proof that `clerk_overview` meets its contract.
use Rattle.std.proofs.Common.{Bool, ap}
use Rattle.store.proofs.LoadsLemmas.{loads_as}
use Rattle.store.proofs.storage.Store.clerk_overview.Goals as goal

pub returns : goal.returns
returns g c = loads_as c.in_ok-keyed.ensures (λ s is told. ap (λ (q : Bool). (c.args.clerk, q)) told)
