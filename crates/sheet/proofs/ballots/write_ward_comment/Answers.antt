-- Proof that `write_ward_comment` meets its contract.
use Rattle.sheet.proofs.ballots.write_ward_comment.Goals as goal

pub returns : goal.returns
returns g c = rw c.from.ensures at c.write_line.ensures
