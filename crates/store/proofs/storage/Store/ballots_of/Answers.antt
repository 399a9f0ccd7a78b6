-- Proof that `ballots_of` meets its contract.
use Rattle.std.proofs.Common.{List, map, take, sym, subst, ap, ◌∙◌, ◌++◌, ◌∷◌, []}
use Rattle.std.proofs.lemmas.List.{map-append}
use Rattle.register.specs.Offices.{BatchEntry, batch_entry}
use Rattle.register.specs.Polls.{Pile, pile_of, StandFor, ballots_in}
use Rattle.store.proofs.LoadsLemmas.{loads_none, loads_as, loads_both, loads_cut, loads_stopped, entries_more, entries_all, no_batch}
use Rattle.store.proofs.storage.Store.ballots_of.Goals as goal

pub loop-batch-init : goal.loop-batch-init
loop-batch-init g c = loads_none c.requires.is_open (λ s is. c.new-ballots.ensures c.args.columns)

pub loop-batch-preserved : goal.loop-batch-preserved
loop-batch-preserved g c =
    let k = c.loop-batch.batch-index in
    let next = entries_more batch_entry c.args.batches.now k no_batch c.loop-batch-test.true in
    loads_as (loads_both c.loop-batch.invariant c.in_ok-papers.ensures)
    (λ s is told.
    let bs = take k (map batch_entry c.args.batches.now) in
    let piles = map (pile_of s) bs in
    subst (StandFor g.P.KeepsPapers.holds c.add_papers.new.ballots)
    (ap (ballots_in c.args.columns) (ap (λ (p : Pile). piles ++ p ∷ []) told.1 ∙ sym (ap (map (pile_of s)) next ∙ map-append (pile_of s) bs (_ ∷ []))))
    (c.in_ok-add_papers.ensures.adds piles told.0))

pub returns-in_err-papers : goal.returns-in_err-papers
returns-in_err-papers g c = loads_cut c.from_residual.ensures.1 c.loop-batch.invariant c.in_err-papers.ensures

pub returns-in_err-add_papers : goal.returns-in_err-add_papers
returns-in_err-add_papers g c = loads_stopped c.from_residual-in_err-add_papers.ensures.1 (loads_both c.loop-batch.invariant c.in_ok-papers.ensures) (λ s is told. c.in_err-add_papers.ensures.cause)

pub returns : goal.returns
returns g c =
    loads_as c.loop-batch.invariant
    (λ s is told. subst (λ (bs : List BatchEntry). StandFor g.P.KeepsPapers.holds c.loop-batch.ballots (ballots_in c.args.columns (map (pile_of s) bs)))
    (entries_all batch_entry c.args.batches.now _ c.loop-batch-test.false) told)
