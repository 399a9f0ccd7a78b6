-- Proof that `checked_rows` meets its contract.
use Rattle.std.proofs.Common.{◌≡◌, true, false, subst, rules}
use Rattle.std.proofs.lemmas.Result.{err_from_is_err_and}
use Rattle.sqlite.specs.Held.{state}
use Rattle.rowcheck.specs.States.{state_of}
use Rattle.tables.specs.declared.table.Table.TheVariants.{Office}
use Rattle.tables.specs.Presence.{has_table, has_every_table}
use Rattle.store.specs.Openings.{TellsNoState}
use Rattle.tables.proofs.ReadLemmas.{only_reads_then}
use Rattle.tables.proofs.CauseLemmas.{lists_later}
use Rattle.store.proofs.TellLemmas.{answered, sound_at, told_office, told_tables, this_office, missing_damaged, state_held}
use Rattle.store.proofs.opening.checked_rows.Goals as goal

pub returns-clause-reads : goal.returns-clause-reads
returns-clause-reads g c = only_reads_then _ _ _ c.check_office.ensures.reads c.checked_tables.ensures.reads

pub returns-in_err-rows-clause-reads : goal.returns-in_err-rows-clause-reads
returns-in_err-rows-clause-reads g c = only_reads_then _ _ _ c.check_office.ensures.reads c.checked_tables.ensures.reads

pub returns-in_err-check_office-clause-told : goal.returns-in_err-check_office-clause-told
returns-in_err-check_office-clause-told g c clean db ours rests =
    let yes : c.has_table.result ≡ true = search rules in
    let there = answered (has_table Office) db (state g.S.Store c.args.conn.now) rests c.has_table.result true c.has_table.ensures.value yes in
    let sound = sound_at db (state g.S.Store c.args.conn.now) rests c.has_table.ensures.live in
    let p = err_from_is_err_and c.from_residual.result c.from_residual.ensures.1 in
    rw (p.1, p.2) (told_office db there _ (c.in_err-check_office.ensures.told clean db (ours.office there) sound rests))

pub returns-then-not-has_every_table-clause-told : goal.returns-then-not-has_every_table-clause-told
returns-then-not-has_every_table-clause-told g c clean db ours rests =
    let yes : c.has_table.result ≡ true = search rules in
    let no_more : c.has_every_table.result ≡ false = search rules in
    let there = answered (has_table Office) db (state g.S.Store c.args.conn.now) rests c.has_table.result true c.has_table.ensures.value yes in
    let sound = sound_at db (state g.S.Store c.args.conn.now) rests c.has_table.ensures.live in
    let mid = c.check_office.ensures.reads.rests clean (c.in_ok-check_office.ensures.opens clean) db rests in
    let missing = answered has_every_table db (state g.S.Store c.check_office.new.conn) mid c.has_every_table.result false c.has_every_table.ensures.value no_more in
    let office = this_office db there (c.in_ok-check_office.ensures.holds clean db (ours.office there) sound rests) in
    record { some_office = office.0; not_newer = office.1; not_older = office.2; no_state = missing_damaged db missing }

pub returns-in_err-rows-clause-told : goal.returns-in_err-rows-clause-told
returns-in_err-rows-clause-told g c clean db ours rests =
    let yes : c.has_table.result ≡ true = search rules in
    let all : c.has_every_table.result ≡ true = search rules in
    let before = c.checked_tables.ensures.reads.clean clean in
    let there = answered (has_table Office) db (state g.S.Store c.args.conn.now) rests c.has_table.result true c.has_table.ensures.value yes in
    let sound = sound_at db (state g.S.Store c.args.conn.now) rests c.has_table.ensures.live in
    let mid = c.check_office.ensures.reads.rests before (c.in_ok-check_office.ensures.opens before) db rests in
    let every = answered has_every_table db (state g.S.Store c.check_office.new.conn) mid c.has_every_table.result true c.has_every_table.ensures.value all in
    let p = err_from_is_err_and c.from_residual-in_err-rows.result c.from_residual-in_err-rows.ensures.1 in
    rw (p.1, p.2) (told_tables db there (c.in_ok-check_office.ensures.holds before db (ours.office there) sound rests) _ (c.in_err-rows.ensures.told clean db (ours.every every) mid))

pub returns-clause-holds : goal.returns-clause-holds
returns-clause-holds g c clean db ours rests =
    let yes : c.has_table.result ≡ true = search rules in
    let all : c.has_every_table.result ≡ true = search rules in
    let before = c.checked_tables.ensures.reads.clean clean in
    let there = answered (has_table Office) db (state g.S.Store c.args.conn.now) rests c.has_table.result true c.has_table.ensures.value yes in
    let sound = sound_at db (state g.S.Store c.args.conn.now) rests c.has_table.ensures.live in
    let mid = c.check_office.ensures.reads.rests before (c.in_ok-check_office.ensures.opens before) db rests in
    let every = ours.every (answered has_every_table db (state g.S.Store c.check_office.new.conn) mid c.has_every_table.result true c.has_every_table.ensures.value all) in
    let tables = c.in_ok-rows.ensures.holds clean db every sound mid in
    (state_held db every sound (c.in_ok-check_office.ensures.holds before db (ours.office there) sound rests) (state_of c.in_ok-rows.rows) tables.0, tables.1)

pub returns-in_err-check_office-clause-fails : goal.returns-in_err-check_office-clause-fails
returns-in_err-check_office-clause-fails g c clean db ours rests =
    let yes : c.has_table.result ≡ true = search rules in
    let there = answered (has_table Office) db (state g.S.Store c.args.conn.now) rests c.has_table.result true c.has_table.ensures.value yes in
    let p = err_from_is_err_and c.from_residual.result c.from_residual.ensures.1 in
    rw (p.1, p.2) (c.in_err-check_office.ensures.fails clean db (ours.office there) rests)

pub returns-in_err-rows-clause-fails : goal.returns-in_err-rows-clause-fails
returns-in_err-rows-clause-fails g c clean db ours rests =
    let all : c.has_every_table.result ≡ true = search rules in
    let before = c.checked_tables.ensures.reads.clean clean in
    let mid = c.check_office.ensures.reads.rests before (c.in_ok-check_office.ensures.opens before) db rests in
    let every = answered has_every_table db (state g.S.Store c.check_office.new.conn) mid c.has_every_table.result true c.has_every_table.ensures.value all in
    let p = err_from_is_err_and c.from_residual-in_err-rows.result c.from_residual-in_err-rows.ensures.1 in
    rw (p.1, p.2) (lists_later db _ _ _ _ c.check_office.ensures.reads c.checked_tables.ensures.reads clean (c.in_err-rows.ensures.fails clean db (ours.every every) mid))

pub returns-in_err-check_office-clause-older : goal.returns-in_err-check_office-clause-older
returns-in_err-check_office-clause-older g c clean db ours rests =
    let yes : c.has_table.result ≡ true = search rules in
    let there = answered (has_table Office) db (state g.S.Store c.args.conn.now) rests c.has_table.result true c.has_table.ensures.value yes in
    let p = err_from_is_err_and c.from_residual.result c.from_residual.ensures.1 in
    rw (p.1, p.2) (c.in_err-check_office.ensures.older clean db (ours.office there) rests)

pub returns-in_err-rows-clause-older : goal.returns-in_err-rows-clause-older
returns-in_err-rows-clause-older g c clean db ours rests =
    let all : c.has_every_table.result ≡ true = search rules in
    let before = c.checked_tables.ensures.reads.clean clean in
    let mid = c.check_office.ensures.reads.rests before (c.in_ok-check_office.ensures.opens before) db rests in
    let every = answered has_every_table db (state g.S.Store c.check_office.new.conn) mid c.has_every_table.result true c.has_every_table.ensures.value all in
    let p = err_from_is_err_and c.from_residual-in_err-rows.result c.from_residual-in_err-rows.ensures.1 in
    rw (p.1, p.2) (λ same. absurd (subst (TellsNoState db) same (c.in_err-rows.ensures.told clean db (ours.every every) mid)))
