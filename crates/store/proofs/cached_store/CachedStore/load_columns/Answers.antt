-- Proof that `load_columns` meets its contract.
use Rattle.sqlite.specs.Held.{state}
use Rattle.store.proofs.CachedStoreLemmas.{tied_read}
use Rattle.store.proofs.cached_store.CachedStore.load_columns.Goals as goal

pub invariant_of-self : goal.invariant_of-self
invariant_of-self g c = tied_read (state g.S.Store c.self.inside.store) (state g.S.Store c.load_columns.new.self) c.self.inside.cache c.self.invariant c.load_columns.ensures.reads

pub returns : goal.returns
returns g c = rw (← c.self.view_is) c.load_columns.ensures
