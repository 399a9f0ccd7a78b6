-- Proof that `tally_among` meets its contract.
use Rattle.std.proofs.Common.{refl}
use Rattle.store.proofs.TallyLemmas.{no_tally}
use Rattle.store.proofs.KnownLemmas.{tally_next, tally_whole}
use Rattle.store.proofs.overviews.known_wards.tally_among.Goals as goal

pub loop-overview-init : goal.loop-overview-init
loop-overview-init c = λ s bs are. no_tally s _ refl refl refl

pub loop-overview-preserved : goal.loop-overview-preserved
loop-overview-preserved c = λ s bs are.
    tally_next s bs c.args.overviews.now c.loop-overview.overview-index c.overview-item.result c.loop-overview.tally c.tally_by.result c.both-tally.result are c.loop-overview-test.true
    c.overview-item.is
    (c.loop-overview.invariant s bs are) c.tally_by.ensures (c.both-tally.ensures.taken, c.both-tally.ensures.differing, c.both-tally.ensures.doubtful_open)

pub returns : goal.returns
returns c = λ s bs are. tally_whole s bs c.args.overviews.now c.loop-overview.overview-index c.loop-overview.tally are c.loop-overview-test.false (c.loop-overview.invariant s bs are)
