-- Proof that `write_preference` meets its contract.
use Rattle.sheet.proofs.Writing.{Writes-then, Writes-failed, Writes-front}
use Rattle.sheet.proofs.line.write_preference.Goals as goal

pub returns-in_err-write_text : goal.returns-in_err-write_text
returns-in_err-write_text g c = Writes-front _ c.from_residual.result c.from_residual.ensures.0 (Writes-failed c.from_residual.result c.from_residual.ensures.0 c.in_err-write_text.ensures)

pub returns : goal.returns
returns g c = Writes-then _ c.in_ok-write_text.ensures c.write_number.ensures
