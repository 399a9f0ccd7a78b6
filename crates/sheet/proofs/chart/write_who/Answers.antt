-- Proof that `write_who` meets its contract.
use Rattle.sheet.proofs.chart.write_who.Goals as goal

pub returns : goal.returns
returns g c = rw c.ending_class.ensures at c.write_pieces.ensures
