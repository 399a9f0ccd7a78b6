use Rattle.register.specs.StateConditions.{is_lot}
use Rattle.rowcheck.proofs.ranges.DrawnLotRanged.is_in_range.Goals as goal

pub returns : goal.returns
unfolding is_lot
returns c = rw (c.is_ward_number-ward.ensures, c.is_lot_stage-stage.ensures, c.is_candidate_number.ensures)
