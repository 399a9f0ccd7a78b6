-- Proof that `write` of the cells of a candidate meets its contract.
use Rattle.sheet.proofs.table.CandidateCellsOfCandidate.write.Goals as goal

pub returns : goal.returns
returns g c = rw c.as_str.ensures.value at c.write_row.ensures
