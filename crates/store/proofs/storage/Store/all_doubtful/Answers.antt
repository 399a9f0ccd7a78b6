-- Proof that `all_doubtful` meets its contract.
use Rattle.std.proofs.Common.{◌++◌, ◌∷◌, [], List, map, take, get_or, rules, sym, ap, ◌∙◌, append-nil}
use Rattle.std.specs.List.{flat_map}
use Rattle.std.proofs.lemmas.List.Concat.{flat_map-append}
use Rattle.register.specs.Offices.{batch_entry}
use Rattle.store.specs.Overviews.{DoubtfulView, doubtful_in}
use Rattle.store.proofs.LoadsLemmas.{loads_none, loads_as, loads_both, loads_cut, entries_more, entries_all, no_batch}
use Rattle.store.proofs.storage.Store.all_doubtful.Goals as goal

pub loop-batch-init : goal.loop-batch-init
loop-batch-init g c = loads_none c.requires (λ s is. search rules)

pub loop-batch-preserved : goal.loop-batch-preserved
loop-batch-preserved g c =
    let k = c.loop-batch.batch-index in
    let b = batch_entry (get_or c.args.batches.now k no_batch) in
    let next = entries_more batch_entry c.args.batches.now k no_batch c.loop-batch-test.true in
    loads_as (loads_both c.loop-batch.invariant c.in_ok-found.ensures)
    (λ s is told.
    let bs = take k (map batch_entry c.args.batches.now) in
    let found = doubtful_in s c.args.columns in
    told.1 ∙ ap (λ (ds : List DoubtfulView). ds ++ found b) told.0
    ∙ sym (flat_map-append found bs (b ∷ []) ∙ ap (λ (ds : List DoubtfulView). flat_map found bs ++ ds) (append-nil (found b)))
    ∙ ap (flat_map found) (sym next))

pub returns-in_err-found : goal.returns-in_err-found
returns-in_err-found g c = loads_cut c.from_residual.ensures.1 c.loop-batch.invariant c.in_err-found.ensures

pub returns : goal.returns
returns g c = loads_as c.loop-batch.invariant (λ s is told. told ∙ ap (flat_map (doubtful_in s c.args.columns)) (entries_all batch_entry c.args.batches.now _ c.loop-batch-test.false))
