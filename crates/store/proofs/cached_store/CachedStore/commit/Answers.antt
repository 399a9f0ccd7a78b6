-- Proof that `commit` meets its contract.
use Rattle.std.proofs.Common.{IsTrue, sym, subst}
use Rattle.sqlite.specs.Held.{Held, state}
use Rattle.sqlite.specs.State.{HasCleanDisk}
use Rattle.store.specs.StateTables.{IsAt}
use Rattle.store.proofs.CachedStoreLemmas.{tied_changed}
use Rattle.store.proofs.cached_store.CachedStore.commit.Goals as goal

pub invariant_of-self : goal.invariant_of-self
invariant_of-self g c =
    tied_changed c.args.change.now (state g.S.Store c.self.inside.store) (state g.S.Store c.commit.new.self) c.self.inside.cache c.forget_in.new.memory c.forget_in.ensures c.self.invariant
    (rw (← c.self.view_is) at c.requires.opened) (rw (← c.self.view_is) at c.requires.leads) c.commit.ensures.clean c.in-Ok.ensures.done

pub returns-in-Ok-clause-done : goal.returns-in-Ok-clause-done
returns-in-Ok-clause-done g c = rw (← c.self.view_is) c.in-Ok.ensures.done
