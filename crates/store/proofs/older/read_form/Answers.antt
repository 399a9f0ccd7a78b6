-- Proof that `read_form` meets its contract.
use Rattle.std.proofs.lemmas.Result.{err_from_is_err_and}
use Rattle.rowcheck.specs.States.{state_of, tabulated}
use Rattle.tables.proofs.MakeLemmas.{first_begins}
use Rattle.store.specs.Migrations.{tables_in}
use Rattle.store.proofs.MigrationLemmas.{older_held, older_are, none_of_form, strange_older}
use Rattle.store.proofs.older.read_form.Goals as goal

pub returns-in_err-rows-clause-told : goal.returns-in_err-rows-clause-told
returns-in_err-rows-clause-told g c clean db schema rests =
    let p = err_from_is_err_and c.from_residual.result c.from_residual.ensures.1 in
    rw (p.1, p.2) (strange_older c.args.form db schema _ (c.in_err-rows.ensures.lists.told clean db (first_begins (tables_in c.args.form) db.schema schema) rests))

pub returns-in-Ok-Some-clause-found : goal.returns-in-Ok-Some-clause-found
returns-in-Ok-Some-clause-found g c clean db sound schema office rests =
    let rows = c.in_ok-rows.rows in
    let lists = c.in_ok-rows.ensures.lists.lists clean db (first_begins (tables_in c.args.form) db.schema schema) rests in
    let it = rw c.in-Ok-Some.field-0-is at c.in-Ok-Some.ensures.some in
    (state_of rows, older_held c.args.form db (state_of rows) (tabulated rows) schema sound office it.0 lists, it.1)

pub returns-in-Ok-None-clause-told : goal.returns-in-Ok-None-clause-told
returns-in-Ok-None-clause-told g c clean db schema rests =
    let rows = c.in_ok-rows.rows in
    let lists = c.in_ok-rows.ensures.lists.lists clean db (first_begins (tables_in c.args.form) db.schema schema) rests in
    none_of_form c.args.form db schema (λ x held. (rw c.in-Ok-None.field-0-is at c.in-Ok-None.ensures.none)
    (older_are c.args.form db (state_of rows) x (tabulated rows) lists c.in_ok-rows.ensures.rise c.in_ok-rows.ensures.bare held))

pub returns-in_err-rows-clause-fails : goal.returns-in_err-rows-clause-fails
returns-in_err-rows-clause-fails g c clean db schema rests =
    let p = err_from_is_err_and c.from_residual.result c.from_residual.ensures.1 in
    rw (p.1, p.2) (c.in_err-rows.ensures.lists.fails clean db (first_begins (tables_in c.args.form) db.schema schema) rests)
