-- Parts of the proof of `empty_holdings` that are done by hand.
use Rattle.std.proofs.Common.{rules, ◌≡◌, ◌+◌, length}
use Rattle.count.proofs.ParcelTotals.{total-empty, numbered-push}
use Rattle.count.proofs.sorting_papers.empty_holdings.Goals as goal

pub loop-holder-preserved : goal.loop-holder-preserved
loop-holder-preserved c = record {
  len = search rules;
  numbered =
      let at : c.loop-holder.holder ≡ 0 + length c.loop-holder.holdings.items = search rules in
      rw c.in_ok-push.ensures.items (numbered-push 0 c.loop-holder.holdings.items _ c.loop-holder.invariant.numbered at);
  empty = λ f. total-empty f _ _ _ c.in_ok-push.ensures.items c.new.ensures.items (c.loop-holder.invariant.empty f);
}
