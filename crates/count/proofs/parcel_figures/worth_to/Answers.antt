-- Parts of the proof of `worth_to` that are done by hand.
use Rattle.std.proofs.Common.{◌≡◌, ◌<◌, length, ap, arith, ◌∙◌}
use Rattle.count.specs.Inside.Holdings.{total_of}
use Rattle.count.proofs.WorthLemmas.{worth_to-more, worth_to-other, worth_to-within-more}
use Rattle.count.proofs.parcel_figures.worth_to.Goals as goal
use Rattle.count.proofs.parcel_figures.worth_to.Goals.{then-holding-holder, else-holding-holder}

pub overflow_add-sum : goal.overflow_add-sum
overflow_add-sum c =
    let within : c.loop-holding.holding-index < length c.args.holdings.now = omega arith in
    let own : c.worth_of_parcels-sum.result ≡ total_of (λ rest v. v) c.holding-item.result.parcels.items = c.worth_of_parcels-sum.ensures ∙ ap (total_of (λ rest v. v)) c.deref.ensures.value in
    omega (arith, worth_to-within-more c.args.holder c.args.holdings.now c.loop-holding.holding-index c.holding-item.result within c.holding-item.is, own, c.loop-holding.invariant, c.requires)

pub loop-holding-preserved : goal.loop-holding-preserved
loop-holding-preserved c =
    let within : c.loop-holding.holding-index < length c.args.holdings.now = omega arith in
    elim c.if-holding-holder.branch [
      | then-holding-holder w ↦
          let own : w.worth_of_parcels-sum.result ≡ total_of (λ rest v. v) c.holding-item.result.parcels.items = w.worth_of_parcels-sum.ensures ∙ ap (total_of (λ rest v. v)) w.deref.ensures.value in
          omega (
            arith,
            w.sum-is,
            own,
            c.loop-holding.invariant,
            worth_to-more c.args.holder c.args.holdings.now c.loop-holding.holding-index c.holding-item.result within c.holding-item.is w.if-holding-holder.true,
          )
      | else-holding-holder w ↦
          omega (
            arith,
            w.sum-is,
            c.loop-holding.invariant,
            worth_to-other c.args.holder c.args.holdings.now c.loop-holding.holding-index c.holding-item.result
                within c.holding-item.is w.if-holding-holder.false,
          )
    ]
