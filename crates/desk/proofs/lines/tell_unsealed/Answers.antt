-- Proof that `tell_unsealed` meets its contract: the pieces are the line, by the texts of both numbers.
use Rattle.desk.proofs.lines.tell_unsealed.Goals as goal

pub returns : goal.returns
returns g c = rw (c.format.ensures.text, c.format-2.ensures.text) at c.tell_error.ensures
