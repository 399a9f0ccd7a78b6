-- Proof that `write_escaped` meets its contract.
use Rattle.sheet.proofs.Quoted.{IsUtf8-page_text}
use Rattle.sheet.proofs.Writing.{Writes-puts}
use Rattle.sheet.proofs.escaping.write_escaped.Goals as goal

pub returns : goal.returns
returns g c = Writes-puts _ (IsUtf8-page_text c.args.text.now c.utf8.text) (rw c.as_bytes.ensures.value at c.put_plain.ensures)
