-- Proof that `entries_referring` meets its contract.
use Rattle.std.proofs.Common.{inl, subst}
use Rattle.std.proofs.lemmas.Result.{err_from_is_err_and}
use Rattle.sqlite.specs.Held.{state}
use Rattle.sqlite.specs.Value.{owned}
use Rattle.sqlite.specs.Values.{bound_value}
use Rattle.tables.specs.declared.table.Table.{Table}
use Rattle.tables.specs.Rows.{refers_to}
use Rattle.tables.specs.Reading.{Finds}
use Rattle.tables.proofs.FaultLemmas.{query_cause}
use Rattle.tables.proofs.QueriedRowsLemmas.{found_as, found_cause}
use Rattle.tables.proofs.finding.entries_referring.Goals as goal

pub returns-clause-finds : goal.returns-clause-finds
returns-clause-finds g c clean contents at =
    let rests = at (c.rows_referring.ensures.reads.was_open clean (c.in_ok-rows.ensures.opens clean)) in
    let test = refers_to c.args.reference (bound_value (owned c.args.value)) in
    found_as g.E.Entries.TABLE test contents c.in_ok-rows.rows.items _
    (subst (λ (t : Table). Finds t test contents c.in_ok-rows.rows.items) c.requires.table (c.in_ok-rows.ensures.finds clean contents rests))
    (rw c.deref.ensures.value at c.in_ok-entries.ensures.reads) (state g.S.Store c.args.conn.now) rests

pub returns-in_err-entries-clause-cause : goal.returns-in_err-entries-clause-cause
returns-in_err-entries-clause-cause g c clean contents at kinds all =
    let rests = at (c.rows_referring.ensures.reads.was_open clean (c.in_ok-rows.ensures.opens clean)) in
    let test = refers_to c.args.reference (bound_value (owned c.args.value)) in
    let p = err_from_is_err_and c.from_residual-in_err-entries.result c.from_residual-in_err-entries.ensures.1 in
    rw (p.1, p.2) (inl (found_cause g.E.Entries.TABLE test contents g.E.Entries.is_row c.in_ok-rows.rows.items _
    (subst (λ (t : Table). Finds t test contents c.in_ok-rows.rows.items) c.requires.table (c.in_ok-rows.ensures.finds clean contents rests)) all
    (rw c.deref.ensures.value at c.in_err-entries.ensures.cause)))

pub returns-in_err-entries-clause-cause_alone : goal.returns-in_err-entries-clause-cause_alone
returns-in_err-entries-clause-cause_alone g c clean contents at all =
    let rests = at (c.rows_referring.ensures.reads.was_open clean (c.in_ok-rows.ensures.opens clean)) in
    let test = refers_to c.args.reference (bound_value (owned c.args.value)) in
    let p = err_from_is_err_and c.from_residual-in_err-entries.result c.from_residual-in_err-entries.ensures.1 in
    rw (p.1, p.2) (inl (found_cause g.E.Entries.TABLE test contents g.E.Entries.is_row c.in_ok-rows.rows.items _
    (subst (λ (t : Table). Finds t test contents c.in_ok-rows.rows.items) c.requires.table (c.in_ok-rows.ensures.finds clean contents rests)) all
    (rw c.deref.ensures.value at c.in_err-entries.ensures.cause)))

pub returns-in_err-rows-clause-cause : goal.returns-in_err-rows-clause-cause
returns-in_err-rows-clause-cause g c clean contents at kinds all =
    let p = err_from_is_err_and c.from_residual.result c.from_residual.ensures.1 in
    rw (p.1, p.2) (c.in_err-rows.ensures.fails clean contents at kinds)

pub returns-in_err-rows-clause-cause_alone : goal.returns-in_err-rows-clause-cause_alone
returns-in_err-rows-clause-cause_alone g c clean contents at all =
    let p = err_from_is_err_and c.from_residual.result c.from_residual.ensures.1 in
    rw (p.1, p.2) (query_cause _ _ _ _ _ c.in_err-rows.ensures.cause)
