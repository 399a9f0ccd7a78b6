-- Of the proof of `put_all`: what is shown by hand.
use Rattle.std.proofs.Common.{rules, ◌∙◌}
use Rattle.std.proofs.lemmas.List.{take_rest}
use Rattle.streams.proofs.Beginnings.{Appends-take_more}
use Rattle.streams.proofs.streams.put_all.Goals as goal

pub loop-at-preserved : goal.loop-at-preserved
loop-at-preserved g c = record {
  within = search rules;
  taken = Appends-take_more _ _ _ c.args.bytes.now c.loop-at.at c.in_ok-n.n c.loop-at.invariant.taken (rw take_rest at c.in_ok-n.ensures.took);
  failed = c.in_ok-n.ensures.ok ∙ c.loop-at.invariant.failed;
}
