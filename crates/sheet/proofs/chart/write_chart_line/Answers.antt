-- Proof that `write_chart_line` meets its contract.
use Rattle.sheet.proofs.Writing.{Writes-then, Writes-failed, Writes-front}
use Rattle.sheet.proofs.chart.write_chart_line.Goals as goal

pub returns-in_err-write_who : goal.returns-in_err-write_who
returns-in_err-write_who g c =
    let r = c.from_residual.result in
    let failure = c.from_residual.ensures.0 in
    Writes-front _ r failure (Writes-front _ r failure (Writes-failed r failure c.in_err-write_who.ensures))

pub returns-in_err-write_bar : goal.returns-in_err-write_bar
returns-in_err-write_bar g c =
    let r = c.from_residual-in_err-write_bar.result in
    let failure = c.from_residual-in_err-write_bar.ensures.0 in
    Writes-front _ r failure (Writes-failed r failure (Writes-then _ c.in_ok-write_who.ensures c.in_err-write_bar.ensures))

pub returns : goal.returns
returns g c = Writes-then _ (Writes-then _ c.in_ok-write_who.ensures c.in_ok-write_bar.ensures) c.write_figures.ensures
