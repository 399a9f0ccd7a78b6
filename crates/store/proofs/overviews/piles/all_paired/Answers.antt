-- Proof that `all_paired` meets its contract.
use Rattle.std.proofs.Common.{◌∷◌, [], Some, None, map, sym, ap, ◌∙◌, append-nil}
use Rattle.std.proofs.lemmas.List.{map-append}
use Rattle.store.specs.Overviews.{batch_view}
use Rattle.store.specs.Piles.{read_view, numbers_under, all_paired}
use Rattle.store.proofs.PileLemmas.{one_paired}
use Rattle.store.proofs.overviews.piles.all_paired.Goals as goal

pub loop-batch-preserved-in-Continue-1 : goal.loop-batch-preserved-in-Continue-1
loop-batch-preserved-in-Continue-1 c =
    let numbers = numbers_under c.args.numbers.now in
    let before = c.loop-batch.found.items in
    let done = c.loop-batch.yielded in
    let one = c.in-Some.batch in
    record {
      goes = (tt, tt);
      all = ap (map batch_view) c.in_ok-push.ensures.items
          ∙ one_paired numbers before (Some c.in-Some-paired.overview) (map read_view done) (read_view one) c.loop-batch.invariant.all c.in-Some-paired.ensures
          ∙ ap (all_paired numbers) (sym (map-append read_view done (one ∷ [])));
    }

pub loop-batch-preserved : goal.loop-batch-preserved
loop-batch-preserved c =
    let numbers = numbers_under c.args.numbers.now in
    let before = c.loop-batch.found.items in
    let done = c.loop-batch.yielded in
    let one = c.in-Some.batch in
    record {
      goes = (tt, tt);
      all = ap (map batch_view) (sym (append-nil before))
          ∙ one_paired numbers before None (map read_view done) (read_view one) c.loop-batch.invariant.all (rw c.in_default.is at c.paired.ensures)
          ∙ ap (all_paired numbers) (sym (map-append read_view done (one ∷ [])));
    }
