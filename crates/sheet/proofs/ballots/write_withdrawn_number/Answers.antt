-- Proof that `write_withdrawn_number` meets its contract.
use Rattle.sheet.proofs.Writing.{Writes-then, Writes-failed, Writes-front}
use Rattle.sheet.proofs.ballots.write_withdrawn_number.Goals as goal

pub returns-in_err-write_text : goal.returns-in_err-write_text
returns-in_err-write_text g c = Writes-front _ c.from_residual.result c.from_residual.ensures.0
    (rw c.minus.ensures at (Writes-failed c.from_residual.result c.from_residual.ensures.0 c.in_err-write_text.ensures))

pub returns : goal.returns
returns g c = Writes-then _ (rw c.minus.ensures at c.in_ok-write_text.ensures) c.write_number.ensures
