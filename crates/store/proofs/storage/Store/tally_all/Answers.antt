-- Proof that `tally_all` meets its contract.
use Rattle.std.proofs.Common.{refl, map, take, sym, subst, List}
use Rattle.register.specs.Offices.{BatchEntry, batch_entry}
use Rattle.store.specs.Tallies.{IsTally}
use Rattle.store.proofs.TallyLemmas.{no_tally, more_tally}
use Rattle.store.proofs.LoadsLemmas.{loads_none, loads_as, loads_both, loads_cut, entries_more, entries_all, no_batch}
use Rattle.store.proofs.storage.Store.tally_all.Goals as goal

pub loop-batch-init : goal.loop-batch-init
loop-batch-init g c = loads_none c.requires (λ s is. no_tally s _ refl refl refl)

pub loop-batch-preserved : goal.loop-batch-preserved
loop-batch-preserved g c =
    let k = c.loop-batch.batch-index in
    let next = entries_more batch_entry c.args.batches.now k no_batch c.loop-batch-test.true in
    let sum = c.both-tally in
    loads_as (loads_both c.loop-batch.invariant c.in_ok-one.ensures)
    (λ s is told.
    subst (λ (l : List BatchEntry). IsTally s l sum.result) (sym next)
    (more_tally s (take k (map batch_entry c.args.batches.now)) _ c.loop-batch.tally c.in_ok-one.one sum.result told.0 told.1 (sum.ensures.taken, sum.ensures.differing, sum.ensures.doubtful_open)))

pub returns-in_err-one : goal.returns-in_err-one
returns-in_err-one g c = loads_cut c.from_residual.ensures.1 c.loop-batch.invariant c.in_err-one.ensures

pub returns : goal.returns
returns g c =
    loads_as c.loop-batch.invariant (λ s is told. subst (λ (l : List BatchEntry). IsTally s l c.loop-batch.tally) (entries_all batch_entry c.args.batches.now _ c.loop-batch-test.false) told)
