-- Proof that `write_lot_comment` meets its contract.
use Rattle.sheet.proofs.ballots.write_lot_comment.Goals as goal

pub returns : goal.returns
returns g c = rw (c.from.ensures, c.from-2.ensures) at c.write_line.ensures
