-- Proof that `find_entry` meets its contract.
use Rattle.std.proofs.Common.{inl, inr, ◌∙◌}
use Rattle.std.proofs.lemmas.Result.{err_from_is_err_and}
use Rattle.sqlite.specs.Held.{state}
use Rattle.sqlite.specs.Values.{bound}
use Rattle.tables.specs.Rows.{begins_with}
use Rattle.tables.proofs.FaultLemmas.{query_cause}
use Rattle.tables.proofs.QueriedRowsLemmas.{one_found, one_other, if_one_found}
use Rattle.tables.proofs.finding.find_entry.Goals as goal

pub returns-clause-found : goal.returns-clause-found
returns-clause-found g c clean contents at row only =
    let rests = at (c.rows_beginning.ensures.reads.was_open clean (c.in_ok-rows.ensures.opens clean)) in
    let one = one_found g.E.Entries.TABLE (begins_with (bound c.args.key.now)) contents row c.in_ok-rows.rows.items only (rw c.TABLE.ensures at (c.in_ok-rows.ensures.finds clean contents rests)) in
    if_one_found g.E.Entries.TABLE (begins_with (bound c.args.key.now)) contents row only (state g.S.Store c.args.conn.now) rests _ (c.in_ok-entry.ensures.entry row (c.deref.ensures.value ∙ one))

pub returns-in_err-rows-clause-cause : goal.returns-in_err-rows-clause-cause
returns-in_err-rows-clause-cause g c clean contents at row only kinds fits =
    let p = err_from_is_err_and c.from_residual.result c.from_residual.ensures.1 in
    rw (p.1, p.2) ((rw c.TABLE.ensures at (c.in_err-rows.ensures.fails clean contents at)) kinds)

pub returns-in_err-rows-clause-told : goal.returns-in_err-rows-clause-told
returns-in_err-rows-clause-told g c clean contents at row only kinds =
    let p = err_from_is_err_and c.from_residual.result c.from_residual.ensures.1 in
    rw (p.1, p.2) (inl ((rw c.TABLE.ensures at (c.in_err-rows.ensures.fails clean contents at)) kinds))

pub returns-in_err-entry-clause-told : goal.returns-in_err-entry-clause-told
returns-in_err-entry-clause-told g c clean contents at row only kinds =
    let rests = at (c.rows_beginning.ensures.reads.was_open clean (c.in_ok-rows.ensures.opens clean)) in
    let one = one_found g.E.Entries.TABLE (begins_with (bound c.args.key.now)) contents row c.in_ok-rows.rows.items only (rw c.TABLE.ensures at (c.in_ok-rows.ensures.finds clean contents rests)) in
    let p = err_from_is_err_and c.from_residual-in_err-entry.result c.from_residual-in_err-entry.ensures.1 in
    rw (p.1, p.2) (elim c.in_err-entry.ensures.cause [
      | inl memory ↦ inl (inl memory)
      | inr wrong ↦ inr (wrong.0, one_other g.E.Entries.is_row row _ (c.deref.ensures.value ∙ one) wrong.1)
    ])

pub returns-in_err-entry-clause-cause : goal.returns-in_err-entry-clause-cause
returns-in_err-entry-clause-cause g c clean contents at row only kinds fits =
    let rests = at (c.rows_beginning.ensures.reads.was_open clean (c.in_ok-rows.ensures.opens clean)) in
    let one = one_found g.E.Entries.TABLE (begins_with (bound c.args.key.now)) contents row c.in_ok-rows.rows.items only (rw c.TABLE.ensures at (c.in_ok-rows.ensures.finds clean contents rests)) in
    let p = err_from_is_err_and c.from_residual-in_err-entry.result c.from_residual-in_err-entry.ensures.1 in
    rw (p.1, p.2) (elim c.in_err-entry.ensures.cause [
      | inl memory ↦ inl memory
      | inr wrong ↦ absurd (one_other g.E.Entries.is_row row _ (c.deref.ensures.value ∙ one) wrong.1 fits)
    ])

pub returns-in_err-rows-clause-cause_alone : goal.returns-in_err-rows-clause-cause_alone
returns-in_err-rows-clause-cause_alone g c clean contents at row only fits =
    let p = err_from_is_err_and c.from_residual.result c.from_residual.ensures.1 in
    rw (p.1, p.2) (query_cause _ _ _ _ _ c.in_err-rows.ensures.cause)

pub returns-in_err-entry-clause-cause_alone : goal.returns-in_err-entry-clause-cause_alone
returns-in_err-entry-clause-cause_alone g c clean contents at row only fits =
    let rests = at (c.rows_beginning.ensures.reads.was_open clean (c.in_ok-rows.ensures.opens clean)) in
    let one = one_found g.E.Entries.TABLE (begins_with (bound c.args.key.now)) contents row c.in_ok-rows.rows.items only (rw c.TABLE.ensures at (c.in_ok-rows.ensures.finds clean contents rests)) in
    let p = err_from_is_err_and c.from_residual-in_err-entry.result c.from_residual-in_err-entry.ensures.1 in
    rw (p.1, p.2) (elim c.in_err-entry.ensures.cause [
      | inl memory ↦ inl memory
      | inr wrong ↦ absurd (one_other g.E.Entries.is_row row _ (c.deref.ensures.value ∙ one) wrong.1 fits)
    ])
