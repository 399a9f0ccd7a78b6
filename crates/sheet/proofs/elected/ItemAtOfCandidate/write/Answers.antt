-- Proof that `write` of an `ItemAt` meets its contract.
use Rattle.std.proofs.Common.{sym, ◌∙◌}
use Rattle.sheet.proofs.elected.ItemAtOfCandidate.write.Goals as goal

pub returns : goal.returns
returns g c = rw (sym c.has.ensures.is ∙ c.if-not-has.false) (rw (c.votes_of.ensures, c.as_str.ensures.value) at c.write_line.ensures)
