-- Proof that `load_receipts` meets its contract.
use Rattle.sqlite.specs.Held.{state}
use Rattle.store.proofs.CachedStoreLemmas.{tied_read}
use Rattle.store.proofs.cached_store.CachedStore.load_receipts.Goals as goal

pub invariant_of-self : goal.invariant_of-self
invariant_of-self g c = tied_read (state g.S.Store c.self.inside.store) (state g.S.Store c.load_receipts.new.self) c.self.inside.cache c.self.invariant c.load_receipts.ensures.reads

pub returns : goal.returns
returns g c = rw (← c.self.view_is) c.load_receipts.ensures
