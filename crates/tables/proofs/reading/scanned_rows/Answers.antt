-- Proof that `scanned_rows` meets its contract.
use Rattle.std.proofs.Common.{◌≡◌, ◌⊎◌, [], Err, ℕ, refl, rules, map}
use Rattle.std.specs.List.Sorted.{IsPermutation}
use Rattle.std.proofs.lemmas.Result.{err_from_is_err_and}
use Rattle.sqlite.specs.Held.{state}
use Rattle.sqlite.specs.State.{HasCleanDisk}
use Rattle.tables.specs.Faults.{fault_of}
use Rattle.tables.specs.Texts.{scan_text}
use Rattle.tables.specs.Reading.{OnlyReads, FailsBy}
use Rattle.tables.proofs.Queries.{scan_query}
use Rattle.tables.proofs.FaultLemmas.{error_cause}
use Rattle.tables.proofs.CauseLemmas.{all_fails}
use Rattle.tables.proofs.WalkLemmas.{refused_reads}
use Rattle.tables.proofs.CopyingLemmas.{scan_reads, all_scanned, scan_fails}
use Rattle.tables.proofs.reading.scanned_rows.Goals as goal

pub returns-in_err-rows-clause-cause : goal.returns-in_err-rows-clause-cause
returns-in_err-rows-clause-cause g c =
    let p = err_from_is_err_and c.from_residual.result c.from_residual.ensures.1 in
    rw (p.1, p.2) (error_cause c.in_err-rows.field-0.0 (fault_of c.in_err-rows.field-0.0) refl)

pub returns-in_err-rows-clause-reads : goal.returns-in_err-rows-clause-reads
returns-in_err-rows-clause-reads g c =
    let held = rw (c.scan_text.ensures, c.in_err-rows.was) at c.query.follows.holds-at-none in
    refused_reads (scan_text c.args.table) [] (state g.S.Store c.args.conn.now) (state g.S.Store c.query.follows.lender-at-none) c.in_err-rows.field-0.0
    (scan_query c.args.table) held.err held.survives

pub returns-in_err-rows-clause-fails : goal.returns-in_err-rows-clause-fails
returns-in_err-rows-clause-fails g c clean db begins rests =
    let held = rw (c.scan_text.ensures, c.in_err-rows.was) at c.query.follows.holds-at-none in
    let e = c.in_err-rows.field-0.0 in
    let p = err_from_is_err_and c.from_residual.result c.from_residual.ensures.1 in
    rw (p.1, p.2) (all_fails {X = ℕ} c.args.table db begins (state g.S.Store c.args.conn.now) (state g.S.Store c.query.follows.lender-at-none) (Err (fault_of e)) clean rests
    (e, refl, λ _. held.err clean))

pub returns-in_err-copy_rest-clause-cause : goal.returns-in_err-copy_rest-clause-cause
returns-in_err-copy_rest-clause-cause g c =
    let p = err_from_is_err_and c.from_residual-in_err-copy_rest.result c.from_residual-in_err-copy_rest.ensures.1 in
    rw (p.1, p.2) c.in_err-copy_rest.ensures.cause

pub returns-in_err-copy_rest-clause-reads : goal.returns-in_err-copy_rest-clause-reads
returns-in_err-copy_rest-clause-reads g c =
    let last = c.copy_rest.new.rows.conn.now in
    let told : OnlyReads (state g.S.Store c.args.conn.now) (state g.S.Store last) =
    scan_reads g.S.Store c.args.table c.args.conn.now c.in_ok-rows.rows.conn.now last (rw c.scan_text.ensures at c.in_ok-rows.ensures.begun)
    (rw c.scan_text.ensures at c.in_ok-rows.ensures.survives) c.copy_rest.ensures.reads in
    search rules

pub returns-in_err-copy_rest-clause-fails : goal.returns-in_err-copy_rest-clause-fails
returns-in_err-copy_rest-clause-fails g c clean db begins rests =
    let last = c.copy_rest.new.rows.conn.now in
    let f = c.in_err-copy_rest.field-0.0 in
    let honest : HasCleanDisk (state g.S.Store last) = search rules in
    let p = err_from_is_err_and c.from_residual-in_err-copy_rest.result c.from_residual-in_err-copy_rest.ensures.1 in
    let told : FailsBy (state g.S.Store c.args.conn.now) (state g.S.Store last) f =
    scan_fails g.S.Store c.args.table c.args.conn.now c.in_ok-rows.rows.conn.now last (rw c.scan_text.ensures at c.in_ok-rows.ensures.begun)
    (rw c.scan_text.ensures at c.in_ok-rows.ensures.survives) c.copy_rest.ensures.reads honest db begins rests f (rw c.new-found.ensures.items at (c.in_err-copy_rest.ensures.fails honest)) in
    rw (p.1, p.2) (search rules)

pub returns-clause-scans : goal.returns-clause-scans
returns-clause-scans g c clean db begins rests =
    let last = c.copy_rest.new.rows.conn.now in
    let honest : HasCleanDisk (state g.S.Store last) = search rules in
    all_scanned g.S.Store c.args.table c.args.conn.now c.in_ok-rows.rows.conn.now last (rw c.scan_text.ensures at c.in_ok-rows.ensures.begun)
    (rw c.scan_text.ensures at c.in_ok-rows.ensures.survives) c.copy_rest.ensures.reads honest db begins rests c.copy_rest.new.found.items
    (rw c.new-found.ensures.items at (c.in_ok-copy_rest.ensures.shows honest))

pub returns-clause-reads : goal.returns-clause-reads
returns-clause-reads g c =
    let last = c.copy_rest.new.rows.conn.now in
    let told : OnlyReads (state g.S.Store c.args.conn.now) (state g.S.Store last) =
    scan_reads g.S.Store c.args.table c.args.conn.now c.in_ok-rows.rows.conn.now last (rw c.scan_text.ensures at c.in_ok-rows.ensures.begun)
    (rw c.scan_text.ensures at c.in_ok-rows.ensures.survives) c.copy_rest.ensures.reads in
    search rules
