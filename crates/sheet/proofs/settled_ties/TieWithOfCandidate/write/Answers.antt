-- Proof that `write` of a `TieWith` meets its contract.
use Rattle.std.proofs.Common.{sym, ◌∙◌}
use Rattle.sheet.proofs.settled_ties.TieWithOfCandidate.write.Goals as goal

pub returns : goal.returns
returns g c = rw (sym c.tie_between.ensures ∙ c.in-Some.is) (rw c.as_str.ensures.value at c.write_tie.ensures)
