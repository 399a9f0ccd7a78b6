-- Proof that `write_chart_head` meets its contract.
use Rattle.sheet.proofs.chart.write_chart_head.Goals as goal

pub returns : goal.returns
returns g c = rw (c.patterns.ensures, c.legend.ensures) at c.write_line.ensures
