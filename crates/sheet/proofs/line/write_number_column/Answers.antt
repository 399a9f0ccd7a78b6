-- Proof that `write_number_column` meets its contract.
use Rattle.sheet.proofs.Writing.{Writes-then}
use Rattle.sheet.proofs.line.write_number_column.Goals as goal

pub returns : goal.returns
returns g c =
    let text = rw c.format-text.ensures.text at c.write_text.ensures in
    let spaces = rw (c.saturating_sub.ensures, c.format-text.ensures.text) at c.in_ok-write_spaces.ensures in
    Writes-then c.write_text.result spaces text
