-- Proof that `write_column_head` meets its contract.
use Rattle.sheet.proofs.cells.write_column_head.Goals as goal

pub returns : goal.returns
returns g c = rw c.name_in.ensures at c.write_line.ensures
