-- Proof that `counted_among` meets its contract.
use Rattle.std.proofs.Common.{map, ap}
use Rattle.register.specs.Offices.{keyed_entry, judged_entry}
use Rattle.register.specs.declared.polls.Judgement.{Judgement}
use Rattle.store.specs.Overviews.{PaperView, paper_view, paper_view_of}
use Rattle.store.proofs.OverviewLemmas.{told_more}
use Rattle.store.proofs.overviews.papers.counted_among.Goals as goal

pub loop-keyed-preserved : goal.loop-keyed-preserved
loop-keyed-preserved c =
    let k = c.keyed-item.result in
    let judged : Judgement → PaperView = λ j. record { batch = k.batch; paper = k.paper; judgement = j } in
    told_more paper_view (paper_view_of c.args.columns (map judged_entry c.args.verdicts.now)) keyed_entry c.loop-keyed.found.items c.push.new.self.items _ c.args.papers.now c.loop-keyed.keyed-index k
    c.loop-keyed-test.true c.keyed-item.is c.in_ok-push.ensures.items (ap judged c.judgement_on-judgement.ensures) c.loop-keyed.invariant
