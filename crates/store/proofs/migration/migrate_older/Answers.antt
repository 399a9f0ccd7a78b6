-- Proof that `migrate_older` meets its contract.
use Rattle.std.proofs.Common.{inl, inr}
use Rattle.std.proofs.lemmas.Result.{err_from_is_err_and}
use Rattle.sqlite.specs.Held.{state}
use Rattle.store.proofs.KeepLemmas.{rests_is_at, reads_connection, connection_then}
use Rattle.store.proofs.MigrationLemmas.{rests_older, older_leaves, store_older, broken}
use Rattle.store.proofs.migration.migrate_older.Goals as goal

pub returns-clause-opened : goal.returns-clause-opened
returns-clause-opened g c clean db is office rests =
    let before = c.commit_migration.ensures.clean clean in
    let mid = c.read_older.ensures.reads.rests before (c.in_ok-older.ensures.opens before) db rests in
    let found = c.in_ok-older.ensures.found before db is office rests in
    let form = c.in_ok-older.older.form in
    let new = state g.S.Store c.commit_migration.new.conn in (
      found.0,
      (form, found.1),
      rests_is_at found.0 new (λ trees is_open may. g.met.S.Store.settled c.commit_migration.new.conn.store trees is_open may) found.1.is.is
          (c.in_ok-commit_migration.ensures.done clean found.0 (rests_older form db found.0 (state g.S.Store c.read_older.new.conn) mid found.1, found.2)),
    )

pub returns-clause-leaves : goal.returns-clause-leaves
returns-clause-leaves g c clean db is office rests =
    let before = c.commit_migration.ensures.clean clean in
    let mid = c.read_older.ensures.reads.rests before (c.in_ok-older.ensures.opens before) db rests in
    let found = c.in_ok-older.ensures.found before db is office rests in
    let form = c.in_ok-older.older.form in
    older_leaves form db found.0 _ (state g.S.Store c.read_older.new.conn) _ found.1 c.read_older.ensures.reads before clean
    (c.commit_migration.ensures.survives found.0 (rests_older form db found.0 (state g.S.Store c.read_older.new.conn) mid found.1, found.2))

pub returns-in_err-commit_migration-clause-leaves : goal.returns-in_err-commit_migration-clause-leaves
returns-in_err-commit_migration-clause-leaves g c clean db is office rests =
    let before = c.commit_migration.ensures.clean clean in
    let mid = c.read_older.ensures.reads.rests before (c.in_ok-older.ensures.opens before) db rests in
    let found = c.in_ok-older.ensures.found before db is office rests in
    let form = c.in_ok-older.older.form in
    older_leaves form db found.0 _ (state g.S.Store c.read_older.new.conn) _ found.1 c.read_older.ensures.reads before clean
    (c.commit_migration.ensures.survives found.0 (rests_older form db found.0 (state g.S.Store c.read_older.new.conn) mid found.1, found.2))

pub returns-in_err-older-clause-leaves : goal.returns-in_err-older-clause-leaves
returns-in_err-older-clause-leaves g c clean db is office rests trees may = inl (c.read_older.ensures.reads.leaves clean trees may)

pub returns-in_err-older-clause-told : goal.returns-in_err-older-clause-told
returns-in_err-older-clause-told g c clean db is office rests =
    let p = err_from_is_err_and c.from_residual.result c.from_residual.ensures.1 in
    rw (p.1, p.2) (c.in_err-older.ensures.told clean db is rests)

pub returns-in_err-commit_migration-clause-told : goal.returns-in_err-commit_migration-clause-told
returns-in_err-commit_migration-clause-told g c clean db is office rests =
    let p = err_from_is_err_and c.from_residual-in_err-commit_migration.result c.from_residual-in_err-commit_migration.ensures.1 in
    rw (p.1, p.2) (store_older db _ c.in_err-commit_migration.ensures.cause)

pub returns-in_err-older-clause-unchanged : goal.returns-in_err-older-clause-unchanged
returns-in_err-older-clause-unchanged g c =
    let p = err_from_is_err_and c.from_residual.result c.from_residual.ensures.1 in
    rw (p.1, p.2) (inr (inr c.read_older.ensures.reads))

pub returns-in_err-commit_migration-clause-unchanged : goal.returns-in_err-commit_migration-clause-unchanged
returns-in_err-commit_migration-clause-unchanged g c =
    let p = err_from_is_err_and c.from_residual-in_err-commit_migration.result c.from_residual-in_err-commit_migration.ensures.1 in
    rw (p.1, p.2) (broken _ _ _ c.in_err-commit_migration.ensures.cause)

pub returns-clause-keeps_connection : goal.returns-clause-keeps_connection
returns-clause-keeps_connection g c = connection_then _ _ _ c.commit_migration.ensures.clean (reads_connection _ _ c.read_older.ensures.reads) c.commit_migration.ensures.keeps_connection

pub returns-in_err-commit_migration-clause-keeps_connection : goal.returns-in_err-commit_migration-clause-keeps_connection
returns-in_err-commit_migration-clause-keeps_connection g c = connection_then _ _ _ c.commit_migration.ensures.clean (reads_connection _ _ c.read_older.ensures.reads)
    c.commit_migration.ensures.keeps_connection

pub returns-in_err-older-clause-keeps_connection : goal.returns-in_err-older-clause-keeps_connection
returns-in_err-older-clause-keeps_connection g c = reads_connection _ _ c.read_older.ensures.reads

pub returns-in_err-older-clause-fails : goal.returns-in_err-older-clause-fails
returns-in_err-older-clause-fails g c clean db is office rests =
    let p = err_from_is_err_and c.from_residual.result c.from_residual.ensures.1 in
    rw (p.1, p.2) (inl (c.in_err-older.ensures.fails clean db is rests))

pub returns-in_err-commit_migration-clause-fails : goal.returns-in_err-commit_migration-clause-fails
returns-in_err-commit_migration-clause-fails g c clean db is office rests =
    let found = c.in_ok-older.ensures.found (c.commit_migration.ensures.clean clean) db is office rests in
    let p = err_from_is_err_and c.from_residual-in_err-commit_migration.result c.from_residual-in_err-commit_migration.ensures.1 in
    rw (p.1, p.2) (inr (c.in_ok-older.older.form, found.0, found.1))
