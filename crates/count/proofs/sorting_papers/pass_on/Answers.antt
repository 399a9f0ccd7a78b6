-- Parts of the proof of `pass_on` that are done by hand.
use Rattle.std.proofs.Common.{◌<◌, length, ap, arith}
use Rattle.paper.specs.Standing.{is_continuing}
use Rattle.count.specs.Inside.Holdings.{total_of, at_passed}
use Rattle.count.proofs.ParcelTotals.{passed-more, passed-other}
use Rattle.count.proofs.sorting_papers.pass_on.Goals as goal
use Rattle.count.proofs.sorting_papers.pass_on.Goals.{then-holding-c+in_ok-pass_parcels, else-holding-c}

pub loop-holding-preserved : goal.loop-holding-preserved
loop-holding-preserved c =
    let within : c.loop-holding.holding-index < length c.args.holdings.now = omega arith in
    elim c.if-holding-c.branch [
      | then-holding-c+in_ok-pass_parcels w ↦
          rw w.moved-is (record {
            len = w.in_ok-pass_parcels.ensures.len;
            numbered = w.in_ok-pass_parcels.ensures.numbered;
            passed = λ f.
                let papers = ap (total_of (at_passed f (is_continuing c.args.standing.now) c.args.rule.now)) w.deref.ensures.value in
                omega (
                  arith,
                  w.in_ok-pass_parcels.ensures.passed f,
                  papers,
                  c.loop-holding.invariant.passed f,
                  passed-more f c.args.c (is_continuing c.args.standing.now) c.args.rule.now c.args.holdings.now c.loop-holding.holding-index
                      c.holding-item.result within c.holding-item.is w.if-holding-c.true,
                );
          })
      | else-holding-c w ↦
          rw w.moved-is (record {
            len = c.loop-holding.invariant.len;
            numbered = c.loop-holding.invariant.numbered;
            passed = λ f. omega (
              arith,
              c.loop-holding.invariant.passed f,
              passed-other f c.args.c (is_continuing c.args.standing.now) c.args.rule.now c.args.holdings.now c.loop-holding.holding-index c.holding-item.result
                  within c.holding-item.is w.if-holding-c.false,
            );
          })
    ]
