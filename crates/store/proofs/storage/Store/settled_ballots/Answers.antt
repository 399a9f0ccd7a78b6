-- Proof that `settled_ballots` meets its contract.
use Rattle.std.proofs.Common.{List, map, take, get_or, sym, subst, ap, ◌∙◌, ◌++◌}
use Rattle.register.specs.declared.polls.Judgement.{Judgement}
use Rattle.register.specs.Offices.{BatchEntry, JudgedEntry, batch_entry}
use Rattle.register.specs.Polls.{StandFor, judgements_on, settled_papers, settled_judgements, ballots_by}
use Rattle.store.proofs.LoadsLemmas.{loads_none, loads_as, loads_both, loads_cut, entries_more, entries_all, no_batch}
use Rattle.store.proofs.SettledLemmas.{judgements_after}
use Rattle.store.proofs.storage.Store.settled_ballots.Goals as goal

pub loop-batch-init : goal.loop-batch-init
loop-batch-init g c = loads_none c.requires.is_open (λ s is. c.new-ballots.ensures c.args.columns)

pub loop-batch-preserved : goal.loop-batch-preserved
loop-batch-preserved g c =
    let k = c.loop-batch.batch-index in
    let b = batch_entry (get_or c.args.batches.now k no_batch) in
    let next = entries_more batch_entry c.args.batches.now k no_batch c.loop-batch-test.true in
    loads_as (loads_both (loads_both c.loop-batch.invariant c.in_ok-verdicts.ensures) c.in_ok-ballots.ensures)
    (λ s is told.
    let bs = take k (map batch_entry c.args.batches.now) in
    let js = settled_judgements s c.args.columns bs in
    subst (λ (ls : List Judgement). StandFor g.P.KeepsPapers.holds c.in_ok-ballots.ballots (ballots_by ls))
    (ap (λ (vs : List JudgedEntry). js ++ judgements_on c.args.columns vs (settled_papers s b)) told.0.1 ∙
    (judgements_after s c.args.columns bs b ∙ ap (settled_judgements s c.args.columns) (sym next)))
    (told.1 js told.0.0))

pub returns-in_err-verdicts : goal.returns-in_err-verdicts
returns-in_err-verdicts g c = loads_cut c.from_residual.ensures.1 c.loop-batch.invariant c.in_err-verdicts.ensures

pub returns-in_err-ballots : goal.returns-in_err-ballots
returns-in_err-ballots g c = loads_cut c.from_residual-in_err-ballots.ensures.1 (loads_both c.loop-batch.invariant c.in_ok-verdicts.ensures) c.in_err-ballots.ensures

pub returns : goal.returns
returns g c =
    loads_as c.loop-batch.invariant
    (λ s is told. subst (λ (bs : List BatchEntry). StandFor g.P.KeepsPapers.holds c.loop-batch.ballots (ballots_by (settled_judgements s c.args.columns bs)))
    (entries_all batch_entry c.args.batches.now _ c.loop-batch-test.false) told)
