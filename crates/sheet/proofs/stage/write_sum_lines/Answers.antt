-- Proof that `write_sum_lines` meets its contract.
use Rattle.sheet.proofs.Writing.{Writes-then, Writes-failed, Writes-front}
use Rattle.sheet.proofs.stage.write_sum_lines.Goals as goal

pub returns-in_err-write_sum_line : goal.returns-in_err-write_sum_line
returns-in_err-write_sum_line g c =
    let r = c.from_residual.result in
    let failure = c.from_residual.ensures.0 in
    Writes-front _ r failure (Writes-failed r failure c.in_err-write_sum_line.ensures)

pub returns : goal.returns
returns g c = Writes-then _ c.in_ok-write_sum_line.ensures c.write_sum_line-2.ensures
