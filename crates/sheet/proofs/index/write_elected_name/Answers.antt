-- Proof that `write_elected_name` meets its contract.
use Rattle.sheet.proofs.index.write_elected_name.Goals as goal

pub returns : goal.returns
returns g c = rw c.as_str.ensures.value at c.write_line.ensures
