-- Proof that `create_last_three` meets its contract.
use Rattle.tables.specs.Making.{SeesMade}
use Rattle.tables.proofs.AlterLemmas.{alters_told, alters_both, alters_after, alters_failed, alters_cut}
use Rattle.store.proofs.writing.older.create_last_three.Goals as goal

pub returns-in_err-create_table : goal.returns-in_err-create_table
returns-in_err-create_table g c = alters_failed c.from_residual.ensures.1 c.in_err-create_table.ensures.makes

pub returns-in_err-create_table-2 : goal.returns-in_err-create_table-2
returns-in_err-create_table-2 g c = alters_cut c.from_residual-in_err-create_table-2.ensures.1 c.in_ok-create_table.ensures.makes c.in_err-create_table-2.ensures.makes

pub returns : goal.returns
returns g c =
    alters_both
    (alters_both {To = SeesMade 10} (alters_told {To = SeesMade 9} c.in_ok-create_table.ensures.makes (λ rows none. (rows, (none.0, none.3), λ made. made))) c.in_ok-create_table-2.ensures.makes
    (λ rows none made. (rows, (none.1, made), λ more. more))) c.create_table-3.ensures.makes
    (λ rows none made. (rows, (none.2, made), λ more. more))
