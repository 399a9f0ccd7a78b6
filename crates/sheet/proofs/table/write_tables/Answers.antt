-- Proof that `write_tables` meets its contract.
use Rattle.std.proofs.Common.{length}
use Rattle.sheet.specs.Entries.{shown}
use Rattle.sheet.specs.Table.{table_at}
use Rattle.sheet.proofs.Places.{all_places, Writes-place, Writes-place_cut}
use Rattle.sheet.proofs.Writing.{Writes-none}
use Rattle.sheet.proofs.table.write_tables.Goals as goal

pub loop-place-init : goal.loop-place-init
loop-place-init g c = Writes-none _ _

pub loop-place-preserved : goal.loop-place-preserved
loop-place-preserved g c =
    Writes-place (table_at (shown c.args.ward.now) c.args.stages.now) (length c.args.stages.now) c.loop-place.place _ c.loop-place-test.true c.loop-place.invariant c.in_ok-write_table_at.ensures

pub returns-in_err-write_table_at : goal.returns-in_err-write_table_at
returns-in_err-write_table_at g c =
    Writes-place_cut (table_at (shown c.args.ward.now) c.args.stages.now) (length c.args.stages.now) c.loop-place.place c.from_residual.result
    c.loop-place-test.true c.loop-place.invariant c.in_err-write_table_at.ensures c.from_residual.ensures.0

pub returns : goal.returns
returns g c = rw (all_places _ _ c.loop-place-test.false) at c.loop-place.invariant
