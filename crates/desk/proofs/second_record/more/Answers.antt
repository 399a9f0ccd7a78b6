-- Proof that `more` meets its contract.
use Rattle.std.proofs.Common.{ap, inl}
use Rattle.desk.specs.Pages.{unequal}
use Rattle.desk.proofs.second_record.more.Goals as goal

pub returns-in-Ok : goal.returns-in-Ok
returns-in-Ok c = inl (ap unequal c.in-Ok.ensures)
