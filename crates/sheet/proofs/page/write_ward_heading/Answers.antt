-- Proof that `write_ward_heading` meets its contract.
use Rattle.sheet.proofs.page.write_ward_heading.Goals as goal

pub returns : goal.returns
returns g c = rw c.note.ensures at c.write_line.ensures
