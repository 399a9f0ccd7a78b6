-- Proof that `write_bar` meets its contract.
use Rattle.sheet.proofs.chart.write_bar.Goals as goal

pub returns : goal.returns
returns g c = rw (c.saturating_sub.ensures, c.bar_length.ensures.is, c.bar_length-kept.ensures.is, c.bar_length-all.ensures.is, c.units.ensures, c.units-2.ensures) at c.write_pieces.ensures
