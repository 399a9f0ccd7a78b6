-- Proof that `load_next` meets its contract.
use Rattle.sqlite.specs.Held.{state}
use Rattle.store.proofs.CachedStoreLemmas.{loads_known}
use Rattle.store.proofs.cached_store.CachedStore.load_next.Goals as goal

pub returns-in-Some : goal.returns-in-Some
returns-in-Some g c = rw (← c.self.view_is) (loads_known c.in-Some.known (rw c.in-Some.is at c.self.invariant) c.next_with.ensures.loads)
