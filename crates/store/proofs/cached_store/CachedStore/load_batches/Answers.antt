-- Proof that `load_batches` meets its contract.
use Rattle.sqlite.specs.Held.{state}
use Rattle.store.proofs.CachedStoreLemmas.{loads_known}
use Rattle.store.proofs.cached_store.CachedStore.load_batches.Goals as goal

pub returns-in-Some : goal.returns-in-Some
returns-in-Some g c = rw (← c.self.view_is) (loads_known c.in-Some.known (rw c.in-Some.is at c.self.invariant) c.batches_with.ensures.loads)
