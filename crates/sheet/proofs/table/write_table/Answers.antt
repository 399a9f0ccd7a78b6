-- Proof that `write_table` meets its contract.
use Rattle.sheet.proofs.Writing.{Writes-then, Writes-failed, Writes-front}
use Rattle.sheet.proofs.table.write_table.Goals as goal

pub returns-in_err-write_head_row : goal.returns-in_err-write_head_row
returns-in_err-write_head_row g c =
    let r = c.from_residual.result in
    let failure = c.from_residual.ensures.0 in
    Writes-front _ r failure (Writes-front _ r failure (Writes-failed r failure c.in_err-write_head_row.ensures))

pub returns-in_err-write_each : goal.returns-in_err-write_each
returns-in_err-write_each g c =
    let r = c.from_residual-in_err-write_each.result in
    let failure = c.from_residual-in_err-write_each.ensures.0 in
    Writes-front _ r failure (Writes-failed r failure (Writes-then _ c.in_ok-write_head_row.ensures c.in_err-write_each.ensures))

pub returns : goal.returns
returns g c = Writes-then _ (Writes-then _ c.in_ok-write_head_row.ensures c.in_ok-write_each.ensures) c.write_sum_rows.ensures
