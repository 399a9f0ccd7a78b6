-- Proof that `entries_beginning` meets its contract.
use Rattle.std.proofs.Common.{inl}
use Rattle.std.proofs.lemmas.Result.{err_from_is_err_and}
use Rattle.sqlite.specs.Held.{state}
use Rattle.sqlite.specs.Values.{bound}
use Rattle.tables.specs.Rows.{begins_with}
use Rattle.tables.proofs.FaultLemmas.{query_cause}
use Rattle.tables.proofs.QueriedRowsLemmas.{found_as, found_cause}
use Rattle.tables.proofs.finding.entries_beginning.Goals as goal

pub returns-clause-finds : goal.returns-clause-finds
returns-clause-finds g c clean contents at =
    let rests = at (c.rows_beginning.ensures.reads.was_open clean (c.in_ok-rows.ensures.opens clean)) in
    found_as g.E.Entries.TABLE (begins_with (bound c.args.key.now)) contents c.in_ok-rows.rows.items _ (rw c.TABLE.ensures at (c.in_ok-rows.ensures.finds clean contents rests))
    (rw c.deref.ensures.value at c.in_ok-entries.ensures.reads) (state g.S.Store c.args.conn.now) rests

pub returns-in_err-entries-clause-cause : goal.returns-in_err-entries-clause-cause
returns-in_err-entries-clause-cause g c clean contents at kinds all =
    let rests = at (c.rows_beginning.ensures.reads.was_open clean (c.in_ok-rows.ensures.opens clean)) in
    let p = err_from_is_err_and c.from_residual-in_err-entries.result c.from_residual-in_err-entries.ensures.1 in
    rw (p.1, p.2) (inl (found_cause g.E.Entries.TABLE (begins_with (bound c.args.key.now)) contents g.E.Entries.is_row c.in_ok-rows.rows.items _
    (rw c.TABLE.ensures at (c.in_ok-rows.ensures.finds clean contents rests)) all (rw c.deref.ensures.value at c.in_err-entries.ensures.cause)))

pub returns-in_err-entries-clause-cause_alone : goal.returns-in_err-entries-clause-cause_alone
returns-in_err-entries-clause-cause_alone g c clean contents at all =
    let rests = at (c.rows_beginning.ensures.reads.was_open clean (c.in_ok-rows.ensures.opens clean)) in
    let p = err_from_is_err_and c.from_residual-in_err-entries.result c.from_residual-in_err-entries.ensures.1 in
    rw (p.1, p.2) (inl (found_cause g.E.Entries.TABLE (begins_with (bound c.args.key.now)) contents g.E.Entries.is_row c.in_ok-rows.rows.items _
    (rw c.TABLE.ensures at (c.in_ok-rows.ensures.finds clean contents rests)) all (rw c.deref.ensures.value at c.in_err-entries.ensures.cause)))

pub returns-in_err-rows-clause-cause : goal.returns-in_err-rows-clause-cause
returns-in_err-rows-clause-cause g c clean contents at kinds all =
    let p = err_from_is_err_and c.from_residual.result c.from_residual.ensures.1 in
    rw (p.1, p.2) ((rw c.TABLE.ensures at (c.in_err-rows.ensures.fails clean contents at)) kinds)

pub returns-in_err-rows-clause-cause_alone : goal.returns-in_err-rows-clause-cause_alone
returns-in_err-rows-clause-cause_alone g c clean contents at all =
    let p = err_from_is_err_and c.from_residual.result c.from_residual.ensures.1 in
    rw (p.1, p.2) (query_cause _ _ _ _ _ c.in_err-rows.ensures.cause)
