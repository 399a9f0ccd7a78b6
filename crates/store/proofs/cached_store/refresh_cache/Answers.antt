-- Proof that `refresh_cache` meets its contract.
use Rattle.sqlite.specs.Held.{state}
use Rattle.store.proofs.CachedStoreLemmas.{tied_renewed}
use Rattle.store.proofs.cached_store.refresh_cache.Goals as goal

pub returns-in-Some-clause-tied : goal.returns-in-Some-clause-tied
returns-in-Some-clause-tied g c tied =
    let step = c.refresh-refreshed.ensures in
    tied_renewed (state g.S.Store c.args.store.now) (state g.S.Store c.refresh-refreshed.new.self) c.in-Some.known c.refresh-refreshed.new.known
    (rw c.in-Some.is at tied) step.refreshes.reads step.stays
