-- Proof that `entries_between` meets its contract.
use Rattle.std.proofs.Common.{inl, inr, rules, w64}
use Rattle.std.proofs.lemmas.Int.{to_z-of_z}
use Rattle.std.proofs.lemmas.Result.{err_from_is_err_and}
use Rattle.sqlite.specs.Held.{state}
use Rattle.tables.proofs.ListingLemmas.{begins_to, office_of}
use Rattle.tables.proofs.ReadLemmas.{rests_at}
use Rattle.tables.proofs.RunLemmas.{run_read, all_in_table, none_other}
use Rattle.tables.proofs.rowid_ranges.entries_between.Goals as goal

pub returns-clause-run : goal.returns-clause-run
returns-clause-run g c clean contents at =
    let old = state g.S.Store c.args.conn.now in
    let low = to_z-of_z w64 c.args.low (search rules) in
    let high = to_z-of_z w64 c.args.high (search rules) in
    let rests = at (c.rows_between.ensures.reads.was_open clean (c.in_ok-rows.ensures.opens clean)) in
    run_read g.E.Entries.TABLE c.args.low c.args.high contents old rests c.in_ok-rows.rows.items
    (rw (c.TABLE.ensures, low, high) at (c.in_ok-rows.ensures.shows clean old.now (rw c.TABLE.ensures (begins_to g.E.Entries.TABLE old.now.schema (office_of contents old rests).begins))
    (rests_at contents old rests)))
    _ (rw c.deref.ensures.value at c.in_ok-entries.ensures.reads)

pub returns-clause-are : goal.returns-clause-are
returns-clause-are g c clean contents at =
    let old = state g.S.Store c.args.conn.now in
    let low = to_z-of_z w64 c.args.low (search rules) in
    let high = to_z-of_z w64 c.args.high (search rules) in
    let rests = at (c.rows_between.ensures.reads.was_open clean (c.in_ok-rows.ensures.opens clean)) in
    all_in_table g.E.Entries.TABLE c.args.low c.args.high contents old rests c.in_ok-rows.rows.items
    (rw (c.TABLE.ensures, low, high) at (c.in_ok-rows.ensures.shows clean old.now (rw c.TABLE.ensures (begins_to g.E.Entries.TABLE old.now.schema (office_of contents old rests).begins))
    (rests_at contents old rests)))
    _ (rw c.deref.ensures.value at c.in_ok-entries.ensures.reads)

pub returns-in_err-entries-clause-cause : goal.returns-in_err-entries-clause-cause
returns-in_err-entries-clause-cause g c clean contents at all =
    let old = state g.S.Store c.args.conn.now in
    let low = to_z-of_z w64 c.args.low (search rules) in
    let high = to_z-of_z w64 c.args.high (search rules) in
    let rests = at (c.rows_between.ensures.reads.was_open clean (c.in_ok-rows.ensures.opens clean)) in
    let p = err_from_is_err_and c.from_residual-in_err-entries.result c.from_residual-in_err-entries.ensures.1 in
    rw (p.1, p.2) (elim (rw c.deref.ensures.value at c.in_err-entries.ensures.cause) [
      | inl memory ↦ inl memory
      | inr wrong ↦ absurd (none_other g.E.Entries.TABLE c.args.low c.args.high contents old rests c.in_ok-rows.rows.items
          (rw (c.TABLE.ensures, low, high) at (c.in_ok-rows.ensures.shows clean old.now
          (rw c.TABLE.ensures (begins_to g.E.Entries.TABLE old.now.schema (office_of contents old rests).begins)) (rests_at contents old rests)))
          g.E.Entries.is_row all wrong.1)
    ])

pub returns-in_err-rows-clause-cause : goal.returns-in_err-rows-clause-cause
returns-in_err-rows-clause-cause g c clean contents at all =
    let p = err_from_is_err_and c.from_residual.result c.from_residual.ensures.1 in
    rw (p.1, p.2) (c.in_err-rows.ensures.fails clean contents at)
