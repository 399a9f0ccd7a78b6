-- Proof that `rejected_of` meets its contract.
use Rattle.store.proofs.LoadsLemmas.{loads_as}
use Rattle.store.proofs.storage.Store.rejected_of.Goals as goal

pub returns : goal.returns
returns g c = loads_as c.in_ok-ballots.ensures (λ s is told counted. (told (λ taken. counted)).rejected_are)
