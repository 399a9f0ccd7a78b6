-- Proof that `tell_unmended` meets its contract.
use Rattle.std.proofs.lemmas.List.{append-nil}
use Rattle.desk.proofs.lines.tell_unmended.Goals as goal

pub returns : goal.returns
returns g c = rw (append-nil, c.line_before.ensures) at c.tell_error.ensures
