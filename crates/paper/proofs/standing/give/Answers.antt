-- Parts of the proof of `give` that are done by hand.
use Rattle.std.proofs.Common.{◌<◌, ◌≢◌, length, slice_index, arith, length-set, sym, ◌∙◌, subst, get_or-set_other}
use Rattle.paper.specs.Columns.{IsCandidateSet}
use Rattle.paper.proofs.Standings.{status_of-set}
use Rattle.paper.proofs.standing.give.Goals as goal

pub loop-c-preserved : goal.loop-c-preserved
loop-c-preserved c =
    let set = subst IsCandidateSet (sym c.as_slice-c-items.ensures.is) c.as_slice-c-items.ensures.set in
    let column = set.within c.loop-c.c-index c.loop-c-test.true in
    let few : slice_index c.as_slice-c-items.result.now c.loop-c.c-index < length c.loop-c.statuses = omega (arith, column.1, c.loop-c.invariant.size) in
    let some : 0 ≢ slice_index c.as_slice-c-items.result.now c.loop-c.c-index = omega (arith, column.0) in
    record {
      size = length-set _ _ _ ∙ c.loop-c.invariant.size;
      given = λ k. rw c.from.ensures (status_of-set c.args.statuses.now c.loop-c.statuses c.args.status c.as_slice-c-items.result.now c.loop-c.c-index k c.loop-c-test.true few
          (c.loop-c.invariant.given k));
      none = rw c.from.ensures (get_or-set_other c.loop-c.statuses _ 0 c.args.status _ some ∙ c.loop-c.invariant.none);
    }
