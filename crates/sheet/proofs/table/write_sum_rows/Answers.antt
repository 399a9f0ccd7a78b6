-- Proof that `write_sum_rows` meets its contract.
use Rattle.sheet.proofs.Writing.{Writes-then, Writes-failed, Writes-front}
use Rattle.sheet.proofs.table.write_sum_rows.Goals as goal

pub returns-in_err-write_row : goal.returns-in_err-write_row
returns-in_err-write_row g c =
    let r = c.from_residual.result in
    let failure = c.from_residual.ensures.0 in
    Writes-front _ r failure (Writes-failed r failure c.in_err-write_row.ensures)

pub returns : goal.returns
returns g c = Writes-then _ c.in_ok-write_row.ensures c.write_row-2.ensures
