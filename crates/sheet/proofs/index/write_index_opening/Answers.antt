-- Proof that `write_index_opening` meets its contract.
use Rattle.sheet.proofs.index.write_index_opening.Goals as goal

pub returns : goal.returns
returns g c = rw (c.title_mark.ensures, c.style.ensures) at c.write_line.ensures
