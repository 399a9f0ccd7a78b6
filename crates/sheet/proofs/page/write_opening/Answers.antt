-- Proof that `write_opening` meets its contract.
use Rattle.sheet.proofs.page.write_opening.Goals as goal

pub returns : goal.returns
returns g c = rw (c.from.ensures, c.title_mark.ensures, c.style.ensures) at c.write_line.ensures
