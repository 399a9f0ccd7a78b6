-- Proof that `replace_entry` meets its contract.
use Rattle.tables.proofs.AlterLemmas.{alters_refused}
use Rattle.tables.proofs.writing.replace_entry.Goals as goal

pub returns-in_err-values : goal.returns-in_err-values
returns-in_err-values g c = alters_refused c.from_residual.ensures.1 c.in_err-values.ensures.cause

pub returns : goal.returns
returns g c = rw (c.deref.ensures.value, c.in_ok-values.ensures.values, c.TABLE.ensures) at c.replace.ensures.replaces
