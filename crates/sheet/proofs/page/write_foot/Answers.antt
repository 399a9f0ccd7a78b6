-- Proof that `write_foot` meets its contract.
use Rattle.sheet.proofs.page.write_foot.Goals as goal

pub returns : goal.returns
returns g c = rw c.if-is_declared.false c.write_text.ensures
