-- Proof that `load_sheet` meets its contract.
use Rattle.sqlite.specs.Held.{state}
use Rattle.store.proofs.CachedStoreLemmas.{tied_read}
use Rattle.store.proofs.cached_store.CachedStore.load_sheet.Goals as goal

pub invariant_of-self : goal.invariant_of-self
invariant_of-self g c = tied_read (state g.S.Store c.self.inside.store) (state g.S.Store c.load_sheet.new.self) c.self.inside.cache c.self.invariant c.load_sheet.ensures.reads

pub returns : goal.returns
returns g c = rw (← c.self.view_is) c.load_sheet.ensures
