-- Proof that `write_cells` meets its contract.
use Rattle.std.proofs.Common.{arith, ◌≤◌}
use Rattle.std.proofs.lemmas.List.{take_all}
use Rattle.sheet.specs.Cells.{cell_text}
use Rattle.sheet.proofs.EachAfter.{Writes-no_stage, Writes-next, Writes-next_cut}
use Rattle.sheet.proofs.cells.write_cells.Goals as goal

pub loop-k-init : goal.loop-k-init
loop-k-init g c = Writes-no_stage (cell_text c.args.cell.now) c.args.place c.args.stages.now _ _

pub loop-k-preserved : goal.loop-k-preserved
loop-k-preserved g c =
    let from : c.args.place ≤ c.loop-k.k = omega arith in
    Writes-next (cell_text c.args.cell.now) c.args.place c.args.stages.now c.loop-k.k c.index-stages-k.result _ from c.loop-k-test.true c.index-stages-k.is
    c.loop-k.invariant c.in_ok-write_cell.ensures

pub returns-in_err-write_cell : goal.returns-in_err-write_cell
returns-in_err-write_cell g c =
    let from : c.args.place ≤ c.loop-k.k = omega arith in
    Writes-next_cut (cell_text c.args.cell.now) c.args.place c.args.stages.now c.loop-k.k c.index-stages-k.result c.from_residual.result from c.loop-k-test.true c.index-stages-k.is
    c.loop-k.invariant c.in_err-write_cell.ensures c.from_residual.ensures.0

pub returns : goal.returns
returns g c = rw (take_all _ _ c.loop-k-test.false) at c.loop-k.invariant
