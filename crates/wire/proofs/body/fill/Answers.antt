-- Proof that `fill` meets its contract.
use Rattle.std.proofs.Common.{rules}
use Rattle.wire.proofs.HeadLemmas.{Consumes-more}
use Rattle.wire.proofs.BodyLemmas.{HasRead-few}
use Rattle.wire.proofs.body.fill.Goals as goal

pub loop-filled-preserved : goal.loop-filled-preserved
loop-filled-preserved g c = record {
  room = search rules;
  within = search rules;
  failed = search rules;
  consumed = Consumes-more _ _ _ _ _ _ _ _ c.loop-filled.invariant.within (search rules) c.loop-filled.invariant.consumed (search rules);
}

pub returns-in_err-n-clause-wanting : goal.returns-in_err-n-clause-wanting
returns-in_err-n-clause-wanting g c =
    HasRead-few _ _ _ c.loop-filled.room c.loop-filled.filled _ c.from_residual.result c.loop-filled.invariant.within (search rules) c.loop-filled.invariant.consumed c.in_err-n.ensures.kept
