-- Proof that `load_view` meets its contract.
use Rattle.std.proofs.Common.{IsTrue, subst}
use Rattle.sqlite.specs.Held.{Held, state}
use Rattle.tables.specs.Contents.{RestsAt}
use Rattle.store.proofs.CachedStoreLemmas.{tied_read, kept_before}
use Rattle.store.specs.StateTables.{IsAt}
use Rattle.store.proofs.cached_store.CachedStore.load_view.Goals as goal

pub invariant_of-self : goal.invariant_of-self
invariant_of-self g c =
    tied_read (state g.S.Store c.self.inside.store) (state g.S.Store c.load_view.new.self) c.self.inside.cache c.self.invariant c.load_view.ensures.reads

pub returns-clause-kept : goal.returns-clause-kept
returns-clause-kept g c clean is_open s at =
    subst (λ (h : Held _). IsAt s (state g.S.Store h)) c.self.view_is
    (kept_before (state g.S.Store c.self.inside.store) (state g.S.Store c.load_view.new.self)
    (λ trees was may. g.met.S.Store.settled c.self.inside.store.store trees was may) c.open_store_rests.ensures c.load_view.ensures.reads clean is_open s at)
