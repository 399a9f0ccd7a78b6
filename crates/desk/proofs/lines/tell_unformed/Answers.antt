-- Proof that `tell_unformed` meets its contract.
use Rattle.desk.proofs.lines.tell_unformed.Goals as goal

pub returns : goal.returns
returns g c = rw c.no_form_text.ensures at c.tell_error.ensures
