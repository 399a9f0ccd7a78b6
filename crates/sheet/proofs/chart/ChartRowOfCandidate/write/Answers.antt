-- Proof that `write` of a `ChartRow` meets its contract.
use Rattle.sheet.proofs.chart.ChartRowOfCandidate.write.Goals as goal

pub returns : goal.returns
returns g c = rw (c.first_votes.ensures, c.from_units.ensures, c.most_votes.ensures, c.ending_of.ensures, c.as_str.ensures.value) at c.write_chart_line.ensures
