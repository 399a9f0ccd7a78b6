-- Proof that `write_sheet` meets its contract.
use Rattle.sheet.proofs.Writing.{Writes-then, Writes-failed, Writes-front}
use Rattle.sheet.proofs.sheets.write_sheet.Goals as goal

pub returns-in_err-write_ward_line : goal.returns-in_err-write_ward_line
returns-in_err-write_ward_line g c = Writes-front _ c.from_residual.result c.from_residual.ensures.0 (Writes-failed c.from_residual.result c.from_residual.ensures.0 c.in_err-write_ward_line.ensures)

pub returns : goal.returns
returns g c = Writes-then _ c.in_ok-write_ward_line.ensures c.write_below_ward.ensures
