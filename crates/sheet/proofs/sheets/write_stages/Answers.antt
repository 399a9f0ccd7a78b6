-- Proof that `write_stages` meets its contract.
use Rattle.std.proofs.Common.{arith, ◌≤◌}
use Rattle.std.proofs.lemmas.List.{take_all}
use Rattle.sheet.specs.Entries.{shown}
use Rattle.sheet.specs.Sheet.{stage_text}
use Rattle.sheet.proofs.EachAfter.{Writes-no_stage, Writes-next, Writes-next_cut}
use Rattle.sheet.proofs.sheets.write_stages.Goals as goal

pub loop-k-init : goal.loop-k-init
loop-k-init g c = Writes-no_stage (stage_text (shown c.args.ward.now)) 0 c.args.stages.now _ _

pub loop-k-preserved : goal.loop-k-preserved
loop-k-preserved g c =
    let from : 0 ≤ c.loop-k.k = omega arith in
    Writes-next (stage_text (shown c.args.ward.now)) 0 c.args.stages.now c.loop-k.k c.index-stages-k.result _ from c.loop-k-test.true c.index-stages-k.is c.loop-k.invariant c.in_ok-write_stage.ensures

pub returns-in_err-write_stage : goal.returns-in_err-write_stage
returns-in_err-write_stage g c =
    let from : 0 ≤ c.loop-k.k = omega arith in
    Writes-next_cut (stage_text (shown c.args.ward.now)) 0 c.args.stages.now c.loop-k.k c.index-stages-k.result c.from_residual.result from c.loop-k-test.true c.index-stages-k.is
    c.loop-k.invariant c.in_err-write_stage.ensures c.from_residual.ensures.0

pub returns : goal.returns
returns g c = rw (take_all _ _ c.loop-k-test.false) at c.loop-k.invariant
