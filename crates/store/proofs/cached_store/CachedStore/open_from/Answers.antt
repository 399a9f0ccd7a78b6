-- Proof that `open_from` meets its contract.
use Rattle.sqlite.specs.Held.{state}
use Rattle.tables.proofs.ReadLemmas.{only_reads_then}
use Rattle.store.proofs.CachedStoreLemmas.{tied_new}
use Rattle.store.proofs.cached_store.CachedStore.open_from.Goals as goal

pub invariant_of-result : goal.invariant_of-result
invariant_of-result g c =
    c.refresh_cache.ensures.tied
    (tied_new (state g.S.Store c.args.conn) (state g.S.Store c.in-Ok.store) c.new_cache-cache.result c.may_be_remembered-remembers.result c.new_cache-cache.ensures c.in-Ok.ensures.reads
    c.may_be_remembered-remembers.ensures.schema c.may_be_remembered-remembers.ensures.rests c.in-Ok.ensures.opened)

pub returns-in-Ok-clause-opened : goal.returns-in-Ok-clause-opened
returns-in-Ok-clause-opened g c clean db ours rests =
    let it = c.in-Ok.ensures.opened (c.refresh_cache.ensures.reads.clean clean) db ours rests in
    (it.0, it.1, c.refresh_cache.ensures.keeps clean it.0 it.2)

pub returns-in-Ok-clause-reopens : goal.returns-in-Ok-clause-reopens
returns-in-Ok-clause-reopens g c clean db rests s left = c.refresh_cache.ensures.keeps clean s (c.in-Ok.ensures.reopens (c.refresh_cache.ensures.reads.clean clean) db rests s left)

pub returns-in-Ok-clause-reads : goal.returns-in-Ok-clause-reads
returns-in-Ok-clause-reads g c = only_reads_then _ _ _ c.in-Ok.ensures.reads c.refresh_cache.ensures.reads
