-- Proof that `outcome_of` meets its contract.
use Rattle.std.proofs.Common.{ap, inl}
use Rattle.desk.specs.Pages.{printed}
use Rattle.desk.proofs.overviews.outcome_of.Goals as goal

pub returns-in-Ok-lines_of-clause-lines : goal.returns-in-Ok-lines_of-clause-lines
returns-in-Ok-lines_of-clause-lines g c = rw c.in-Ok.is (inl (ap printed (rw c.deref.ensures.value at c.in-Ok-lines_of.ensures)))
