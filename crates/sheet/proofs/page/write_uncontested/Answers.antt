-- Proof that `write_uncontested` meets its contract.
use Rattle.sheet.proofs.page.write_uncontested.Goals as goal

pub returns : goal.returns
returns g c = rw c.from.ensures at c.write_line.ensures
