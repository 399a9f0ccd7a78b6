-- Proof that `write_ward_line` meets its contract.
use Rattle.sheet.proofs.heading_lines.write_ward_line.Goals as goal

pub returns : goal.returns
returns g c = rw c.from.ensures at c.write_line.ensures
