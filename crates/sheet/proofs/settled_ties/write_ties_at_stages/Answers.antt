-- Proof that `write_ties_at_stages` meets its contract.
use Rattle.std.proofs.Common.{arith, ◌≤◌}
use Rattle.std.proofs.lemmas.List.{take_all}
use Rattle.sheet.specs.Entries.{shown}
use Rattle.sheet.specs.Ties.{ties_at}
use Rattle.sheet.proofs.EachAfter.{Writes-no_stage, Writes-next, Writes-next_cut}
use Rattle.sheet.proofs.settled_ties.write_ties_at_stages.Goals as goal

pub loop-k-init : goal.loop-k-init
loop-k-init g c = Writes-no_stage (ties_at (shown c.args.ward.now)) 0 c.args.stages.now _ _

pub loop-k-preserved : goal.loop-k-preserved
loop-k-preserved g c =
    let from : 0 ≤ c.loop-k.k = omega arith in
    Writes-next (ties_at (shown c.args.ward.now)) 0 c.args.stages.now c.loop-k.k c.index-stages-k.result _ from c.loop-k-test.true c.index-stages-k.is
    c.loop-k.invariant c.in_ok-write_ties_at.ensures

pub returns-in_err-write_ties_at : goal.returns-in_err-write_ties_at
returns-in_err-write_ties_at g c =
    let from : 0 ≤ c.loop-k.k = omega arith in
    Writes-next_cut (ties_at (shown c.args.ward.now)) 0 c.args.stages.now c.loop-k.k c.index-stages-k.result c.from_residual.result from c.loop-k-test.true c.index-stages-k.is
    c.loop-k.invariant c.in_err-write_ties_at.ensures c.from_residual.ensures.0

pub returns : goal.returns
returns g c = rw (take_all _ _ c.loop-k-test.false) at c.loop-k.invariant
