-- Proof that `write_row_opening` meets its contract.
use Rattle.sheet.proofs.index.write_row_opening.Goals as goal

pub returns : goal.returns
returns g c = rw (c.from.ensures, c.standing_words.ensures, c.as_str.ensures.value) at c.write_line.ensures
