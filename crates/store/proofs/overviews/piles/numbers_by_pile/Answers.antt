-- Proof that `numbers_by_pile` meets its contract.
use Rattle.std.proofs.Common.{◌++◌, ◌∷◌, [], ℕ, List, map, take, sym, ap, ◌∙◌}
use Rattle.store.specs.declared.overviews.piles.ReadBatch.{ReadBatch}
use Rattle.store.specs.Piles.{ReadView, read_view, numbers_with}
use Rattle.store.proofs.PileLemmas.{numbers_more}
use Rattle.store.proofs.LoadsLemmas.{entries_more, entries_all}
use Rattle.store.proofs.overviews.piles.numbers_by_pile.Goals as goal

pub loop-batch-preserved : goal.loop-batch-preserved
loop-batch-preserved c = λ q.
    let k = c.loop-batch.batch-index in
    let all = c.args.batches.now in
    let one = c.batch-item.result in
    let before = take k (map read_view all) in
    let next = entries_more read_view all k one c.loop-batch-test.true ∙ ap (λ (x : ReadBatch). before ++ read_view x ∷ []) (sym c.batch-item.is) in
    c.in_ok-put_batch.ensures q
    ∙ ap (λ (ns : List ℕ). ns ++ numbers_with (read_view one ∷ []) q) (c.loop-batch.invariant q)
    ∙ numbers_more before (read_view one) q
    ∙ ap (λ (rs : List ReadView). numbers_with rs q) (sym next)

pub returns : goal.returns
returns c = λ q. c.loop-batch.invariant q ∙ ap (λ (rs : List ReadView). numbers_with rs q) (entries_all read_view c.args.batches.now _ c.loop-batch-test.false)
