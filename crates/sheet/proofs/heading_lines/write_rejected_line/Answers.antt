-- Proof that `write_rejected_line` meets its contract.
use Rattle.sheet.proofs.heading_lines.write_rejected_line.Goals as goal

pub returns : goal.returns
returns g c = rw (c.from.ensures, c.from-2.ensures, c.from-3.ensures, c.from-4.ensures, c.from-5.ensures) at c.write_line.ensures
