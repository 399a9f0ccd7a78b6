-- Proof that `write_chart` meets its contract.
use Rattle.sheet.proofs.Writing.{Writes-then, Writes-failed, Writes-front}
use Rattle.sheet.proofs.chart.write_chart.Goals as goal

pub returns-in_err-write_chart_head : goal.returns-in_err-write_chart_head
returns-in_err-write_chart_head g c =
    let r = c.from_residual.result in
    let failure = c.from_residual.ensures.0 in
    Writes-front _ r failure (Writes-front _ r failure (Writes-failed r failure (rw c.from_units.ensures at c.in_err-write_chart_head.ensures)))

pub returns-in_err-write_each : goal.returns-in_err-write_each
returns-in_err-write_each g c =
    let r = c.from_residual-in_err-write_each.result in
    let failure = c.from_residual-in_err-write_each.ensures.0 in
    Writes-front _ r failure (Writes-failed r failure (Writes-then _ (rw c.from_units.ensures at c.in_ok-write_chart_head.ensures) c.in_err-write_each.ensures))

pub returns : goal.returns
returns g c = Writes-then _ (Writes-then _ (rw c.from_units.ensures at c.in_ok-write_chart_head.ensures) c.in_ok-write_each.ensures) c.write_line.ensures
