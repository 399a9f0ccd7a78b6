-- Proof that `refresh` meets its contract.
use Rattle.std.proofs.Common.{◌≡◌}
use Rattle.store.proofs.MemoryLemmas.{all_right}
use Rattle.store.proofs.LoadsLemmas.{loads_as}
use Rattle.store.proofs.storage.Store.refresh.Goals as goal

pub returns-clause-refreshes : goal.returns-clause-refreshes
returns-clause-refreshes g c = loads_as (rw c.deref.ensures.value at c.in_ok-found.ensures) (λ s is told. told)

pub returns-clause-stays : goal.returns-clause-stays
returns-clause-stays g c = λ clean s at are.
    let loads = rw c.deref.ensures.value at c.in_ok-found.ensures in
    all_right s c.in_ok-found.found.items s.batches (loads.shows clean s at are)
