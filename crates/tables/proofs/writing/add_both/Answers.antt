-- Proof that `add_both` meets its contract.
use Rattle.tables.proofs.AlterLemmas.{alters_sees, alters_failed}
use Rattle.tables.proofs.writing.add_both.Goals as goal

pub returns-in_err-add_entries : goal.returns-in_err-add_entries
returns-in_err-add_entries g c = alters_failed c.from_residual.ensures.1 c.in_err-add_entries.ensures

pub returns : goal.returns
returns g c = alters_sees c.in_ok-add_entries.ensures c.add_entries-2.ensures
