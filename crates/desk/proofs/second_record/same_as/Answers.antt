-- Proof that `same_as` meets its contract.
use Rattle.std.proofs.Common.{ap, inl}
use Rattle.desk.specs.Pages.{printed}
use Rattle.desk.proofs.second_record.same_as.Goals as goal

pub returns-in-Ok : goal.returns-in-Ok
returns-in-Ok c = inl (ap printed c.in-Ok.ensures)
