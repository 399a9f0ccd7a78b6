-- Proof that `write_piece` meets its contract.
use Rattle.sheet.proofs.Joined.{right_in_none}
use Rattle.sheet.proofs.line.write_piece.Goals as goal

pub returns-in-Value : goal.returns-in-Value
returns-in-Value g c = rw c.in-Value.is (rw right_in_none at c.write_value.ensures)

pub returns-in-Named : goal.returns-in-Named
returns-in-Named g c = rw c.in-Named.is (rw c.from.ensures at c.write_named.ensures)

pub returns-in-Listed : goal.returns-in-Listed
returns-in-Listed g c = rw c.in-Listed.is (rw c.from-in-Listed.ensures at c.write_named-in-Listed.ensures)
