-- Proof that `write_migration` meets its contract.
use Rattle.std.proofs.Common.{subst}
use Rattle.sqlite.specs.Held.{state}
use Rattle.register.specs.Offices.{OfficeState}
use Rattle.register.specs.Tabulated.{addition_entries}
use Rattle.tables.specs.Contents.{Contents, Sees}
use Rattle.tables.proofs.SameLemmas.{sees_same}
use Rattle.tables.proofs.AlterLemmas.{alters_told, alters_both, alters_failed, alters_cut}
use Rattle.store.specs.StateTables.{SeesState}
use Rattle.store.specs.Migrations.{older_tables, tabulation_in}
use Rattle.store.proofs.MigrationLemmas.{completed_filled, version_put}
use Rattle.store.proofs.writing.older.write_migration.Goals as goal

pub returns-in_err-create_missing : goal.returns-in_err-create_missing
returns-in_err-create_missing g c = alters_failed c.from_residual.ensures.1 c.in_err-create_missing.ensures

pub returns-in_err-set_value : goal.returns-in_err-set_value
returns-in_err-set_value g c = alters_cut c.from_residual-in_err-set_value.ensures.1 c.in_ok-create_missing.ensures c.in_err-set_value.ensures.sets

pub returns : goal.returns
returns g c =
    let form = c.args.older.now.form in
    let a = addition_entries c.args.older.now.missing in
    alters_both
    (alters_both {To = λ (s : OfficeState). SeesState (s, tabulation_in form s)}
    (alters_told {To = λ (s : OfficeState). Sees (older_tables form s)} c.in_ok-create_missing.ensures (λ s told. (s, told.1, λ made. made)))
    (rw (c.number.ensures, c.number-2.ensures) at c.in_ok-set_value.ensures.sets)
    (λ s told sees. (older_tables form s, sees, λ given. sees_same _ _ (state g.S.Store c.set_value.new.tx.conn.now) (version_put form s) given)))
    c.write_addition.ensures
    (λ s told sees. ((s, tabulation_in form s), sees, λ given. subst (λ (x : Contents). Sees x (state g.S.Store c.write_addition.new.tx.conn.now)) (completed_filled form s a told.0) given))
