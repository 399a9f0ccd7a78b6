-- Proof that `write_index_rows` meets its contract.
use Rattle.std.proofs.lemmas.List.{take_all}
use Rattle.std.proofs.lemmas.List.Folds.{flat_map-map}
use Rattle.sheet.specs.Index.{index_row, listed}
use Rattle.sheet.proofs.Writing.{Writes-none, Writes-item, Writes-item_cut}
use Rattle.sheet.proofs.index.write_index_rows.Goals as goal

pub loop-ward-init : goal.loop-ward-init
loop-ward-init g c = Writes-none _ _

pub loop-ward-preserved : goal.loop-ward-preserved
loop-ward-preserved g c =
    Writes-item (λ ward. index_row (listed ward)) c.args.wards.now c.loop-ward.ward-index c.ward-item.result _ c.loop-ward-test.true c.ward-item.is
    c.loop-ward.invariant c.in_ok-write_index_row.ensures

pub returns-in_err-write_index_row : goal.returns-in_err-write_index_row
returns-in_err-write_index_row g c =
    rw flat_map-map (Writes-item_cut (λ ward. index_row (listed ward)) c.args.wards.now c.loop-ward.ward-index c.ward-item.result c.from_residual.result
    c.loop-ward-test.true c.ward-item.is c.loop-ward.invariant c.in_err-write_index_row.ensures c.from_residual.ensures.0)

pub returns : goal.returns
returns g c = rw flat_map-map (rw (take_all _ _ c.loop-ward-test.false) at c.loop-ward.invariant)
