-- Proof that `write_ties_at` meets its contract.
use Rattle.std.proofs.Common.{sym, ◌∙◌}
use Rattle.sheet.proofs.settled_ties.write_ties_at.Goals as goal

pub returns : goal.returns
returns g c = rw (sym c.candidate_of.ensures ∙ c.in-Some.is) (rw c.name_in-name.ensures at c.write_each.ensures)
