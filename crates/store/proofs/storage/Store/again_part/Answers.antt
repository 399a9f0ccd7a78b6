-- Proof that `again_part` meets its contract.
use Rattle.std.proofs.Common.{None, ap}
use Rattle.register.specs.CommandInputs.{CommandInputEntries}
use Rattle.store.proofs.LoadsLemmas.{loads_as}
use Rattle.store.proofs.storage.Store.again_part.Goals as goal

pub returns : goal.returns
returns g c = loads_as c.in_ok-part.ensures (λ s is told. ap (λ (p : CommandInputEntries). record p { third = None }) told)
