-- Proof that `write_below_ward` meets its contract.
use Rattle.sheet.proofs.Writing.{Writes-then, Writes-failed, Writes-front}
use Rattle.sheet.proofs.sheets.write_below_ward.Goals as goal

pub returns-in_err-write_seats_line : goal.returns-in_err-write_seats_line
returns-in_err-write_seats_line g c =
    let r = c.from_residual.result in
    let failure = c.from_residual.ensures.0 in
    rw c.in-Some.is (Writes-front _ r failure (Writes-front _ r failure (Writes-failed r failure c.in_err-write_seats_line.ensures)))

pub returns-in_err-write_rejected_line : goal.returns-in_err-write_rejected_line
returns-in_err-write_rejected_line g c =
    let r = c.from_residual-in_err-write_rejected_line.result in
    let failure = c.from_residual-in_err-write_rejected_line.ensures.0 in
    rw c.in-Some.is (Writes-front _ r failure (Writes-failed r failure (Writes-then _ c.in_ok-write_seats_line.ensures c.in_err-write_rejected_line.ensures)))

pub returns : goal.returns
returns g c = rw c.in-Some.is (Writes-then _ (Writes-then _ c.in_ok-write_seats_line.ensures c.in_ok-write_rejected_line.ensures) c.write_stages.ensures)
