-- Proof that `write_size_line` meets its contract.
use Rattle.sheet.proofs.ballots.write_size_line.Goals as goal

pub returns : goal.returns
returns g c = rw (c.from.ensures, c.from-2.ensures, c.highest_number.ensures) at c.write_line.ensures
