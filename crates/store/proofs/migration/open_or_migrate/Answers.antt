-- Proof that `open_or_migrate` meets its contract.
use Rattle.std.proofs.Common.{inl, inr}
use Rattle.sqlite.specs.Held.{state}
use Rattle.store.proofs.KeepLemmas.{opened_is_at, reads_connection, connection_then}
use Rattle.store.proofs.TellLemmas.{state_version}
use Rattle.store.proofs.MigrationLemmas.{leaves_later, told_at_once, if_told_later, if_failed_later, if_read_first, two_versions, state_ours}
use Rattle.store.proofs.migration.open_or_migrate.Goals as goal

pub returns-in-Ok-clause-opened : goal.returns-in-Ok-clause-opened
returns-in-Ok-clause-opened g c clean db ours is rests =
    opened_is_at db (state g.S.Store c.args.conn.now) (state g.S.Store c.check.new.conn) (λ trees is_open may. g.met.S.Store.settled c.check.new.conn.store trees is_open may)
    clean (c.in-Ok.ensures.opens clean) c.check.ensures.reads rests (c.in-Ok.ensures.holds clean db ours rests)

pub returns-in-Ok-clause-leaves : goal.returns-in-Ok-clause-leaves
returns-in-Ok-clause-leaves g c clean db ours is rests trees may = inl (c.check.ensures.reads.leaves clean trees may)

pub returns-in-Ok-clause-keeps_connection : goal.returns-in-Ok-clause-keeps_connection
returns-in-Ok-clause-keeps_connection g c = reads_connection _ _ c.check.ensures.reads

pub returns-in-OlderSchema-clause-opened : goal.returns-in-OlderSchema-clause-opened
returns-in-OlderSchema-clause-opened g c clean db ours is rests =
    let before = c.migrate_older.ensures.clean clean in
    let told = rw c.in-OlderSchema.is at (c.in-Err.ensures.told before db ours rests) in
    let mid = c.check.ensures.reads.rests before (c.in-Err.ensures.older before db ours rests c.in-OlderSchema.is) db rests in
    c.migrate_older.ensures.opened clean db is told.1 mid

pub returns-in-OlderSchema-clause-leaves : goal.returns-in-OlderSchema-clause-leaves
returns-in-OlderSchema-clause-leaves g c clean db ours is rests =
    let before = c.migrate_older.ensures.clean clean in
    let told = rw c.in-OlderSchema.is at (c.in-Err.ensures.told before db ours rests) in
    let mid = c.check.ensures.reads.rests before (c.in-Err.ensures.older before db ours rests c.in-OlderSchema.is) db rests in
    leaves_later db (state g.S.Store c.args.conn.now) (state g.S.Store c.check.new.conn) (state g.S.Store c.migrate_older.new.conn) c.check.ensures.reads before
    (c.migrate_older.ensures.leaves clean db is told.1 mid)

pub returns-in-OlderSchema-clause-told : goal.returns-in-OlderSchema-clause-told
returns-in-OlderSchema-clause-told g c clean db ours is rests =
    let before = c.migrate_older.ensures.clean clean in
    let told = rw c.in-OlderSchema.is at (c.in-Err.ensures.told before db ours rests) in
    let mid = c.check.ensures.reads.rests before (c.in-Err.ensures.older before db ours rests c.in-OlderSchema.is) db rests in
    if_told_later c.migrate_older.result db told (c.migrate_older.ensures.told clean db is told.1 mid)

pub returns-in-OlderSchema-clause-reads : goal.returns-in-OlderSchema-clause-reads
returns-in-OlderSchema-clause-reads g c clean db rests s held =
    let before = c.migrate_older.ensures.clean clean in
    let told = rw c.in-OlderSchema.is at (c.in-Err.ensures.told before db (state_ours db s held) rests) in
    absurd (two_versions db told.1 (state_version db s held))

pub returns-in-OlderSchema-clause-unchanged : goal.returns-in-OlderSchema-clause-unchanged
returns-in-OlderSchema-clause-unchanged g c = if_read_first c.migrate_older.result (state g.S.Store c.args.conn.now) (state g.S.Store c.check.new.conn)
    (state g.S.Store c.migrate_older.new.conn) c.check.ensures.reads c.migrate_older.ensures.unchanged

pub returns-in-OlderSchema-clause-keeps_connection : goal.returns-in-OlderSchema-clause-keeps_connection
returns-in-OlderSchema-clause-keeps_connection g c = connection_then _ _ _ c.migrate_older.ensures.clean (reads_connection _ _ c.check.ensures.reads) c.migrate_older.ensures.keeps_connection

pub returns-in_default-clause-leaves : goal.returns-in_default-clause-leaves
returns-in_default-clause-leaves g c clean db ours is rests trees may = inl (c.check.ensures.reads.leaves clean trees may)

pub returns-in_default-clause-told : goal.returns-in_default-clause-told
returns-in_default-clause-told g c clean db ours is rests = told_at_once db c.in-Err.fault (c.in-Err.ensures.told clean db ours rests) c.in_default.not-OlderSchema

pub returns-in_default-clause-unchanged : goal.returns-in_default-clause-unchanged
returns-in_default-clause-unchanged g c = inr (inr c.check.ensures.reads)

pub returns-in_default-clause-keeps_connection : goal.returns-in_default-clause-keeps_connection
returns-in_default-clause-keeps_connection g c = reads_connection _ _ c.check.ensures.reads

pub returns-in-OlderSchema-clause-fails : goal.returns-in-OlderSchema-clause-fails
returns-in-OlderSchema-clause-fails g c clean db ours is rests =
    let before = c.migrate_older.ensures.clean clean in
    let told = rw c.in-OlderSchema.is at (c.in-Err.ensures.told before db ours rests) in
    let mid = c.check.ensures.reads.rests before (c.in-Err.ensures.older before db ours rests c.in-OlderSchema.is) db rests in
    if_failed_later c.migrate_older.result db (state g.S.Store c.args.conn.now) (state g.S.Store c.check.new.conn) (state g.S.Store c.migrate_older.new.conn)
    c.check.ensures.reads before c.migrate_older.ensures.keeps_connection.counts (c.migrate_older.ensures.fails clean db is told.1 mid)

pub returns-in_default-clause-fails : goal.returns-in_default-clause-fails
returns-in_default-clause-fails g c clean db ours is rests = inl (c.in-Err.ensures.fails clean db ours rests)
