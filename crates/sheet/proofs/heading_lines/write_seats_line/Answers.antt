-- Proof that `write_seats_line` meets its contract.
use Rattle.sheet.proofs.heading_lines.write_seats_line.Goals as goal

pub returns : goal.returns
returns g c = rw (c.from.ensures, c.from-2.ensures, c.quota.ensures.is) at c.write_line.ensures
