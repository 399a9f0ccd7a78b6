-- Parts of the proof of `all_votes` that are done by hand.
use Rattle.std.proofs.Common.{reverse, rules, arith}
use Rattle.std.proofs.Math.ListN.{length-set}
use Rattle.count.specs.Inside.Holdings.{votes_with}
use Rattle.count.proofs.ArrayLemmas.{made-more, made-all}
use Rattle.count.proofs.parcel_figures.all_votes.Goals as goal

pub loop-i-preserved : goal.loop-i-preserved
loop-i-preserved c = record {
  size = search (rules, length-set);
  made = made-more (votes_with c.args.quota (reverse c.args.stages.now) c.args.action.now c.args.moved.now)
      c.loop-i.votes c.loop-i.i c.votes_with.result (omega (arith, c.loop-i.invariant.size, c.loop-i-test.true)) c.loop-i.invariant.made (search rules);
}

pub returns : goal.returns
returns c = made-all (votes_with c.args.quota (reverse c.args.stages.now) c.args.action.now c.args.moved.now)
    c.loop-i.votes c.loop-i.i c.loop-i.invariant.size (omega (arith, c.loop-i-test.false, c.loop-i.auto.i-end)) c.loop-i.invariant.made
