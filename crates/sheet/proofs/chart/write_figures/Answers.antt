-- Proof that `write_figures` meets its contract.
use Rattle.sheet.proofs.chart.write_figures.Goals as goal

pub returns : goal.returns
returns g c = rw (c.ending_words.ensures, c.ending_stage.ensures) at c.write_line.ensures
