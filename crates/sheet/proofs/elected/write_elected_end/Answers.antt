-- Proof that `write_elected_end` meets its contract.
use Rattle.sheet.proofs.Writing.{Writes-then, Writes-failed, Writes-front}
use Rattle.sheet.proofs.elected.write_elected_end.Goals as goal

pub returns-in_err-write_empty_seats : goal.returns-in_err-write_empty_seats
returns-in_err-write_empty_seats g c =
    let r = c.from_residual.result in
    let failure = c.from_residual.ensures.0 in
    rw c.if-is_final.true (Writes-front _ r failure (Writes-failed r failure c.in_err-write_empty_seats.ensures))

pub returns-then-is_final : goal.returns-then-is_final
returns-then-is_final g c = rw c.if-is_final.true (Writes-then _ c.in_ok-write_empty_seats.ensures c.write_line.ensures)

pub returns : goal.returns
returns g c = rw c.if-is_final.false c.write_open_end.ensures
