-- Proof that `keyed_rows` meets its contract.
use Rattle.std.proofs.Common.{inl, inr, sym, ◌∙◌, true≢false}
use Rattle.std.proofs.lemmas.Result.{err_from_is_err_and}
use Rattle.sqlite.specs.Held.{state}
use Rattle.tables.proofs.ReadLemmas.{only_reads_then}
use Rattle.tables.proofs.CauseLemmas.{failed_by, if_fails_to_list, lists_later}
use Rattle.tables.proofs.FaultLemmas.{query_cause, if_listed_keyed}
use Rattle.tables.proofs.listing.keyed_rows.Goals as goal

pub returns-then-not-changes_rows-clause-lists : goal.returns-then-not-changes_rows-clause-lists
returns-then-not-changes_rows-clause-lists g c clean db begins rests =
    if_listed_keyed c.args.table db (λ rows. rows.items) c.all_rows.result (λ changes. absurd (true≢false (sym changes ∙ sym c.changes_rows.ensures ∙ c.if-not-changes_rows.true)))
    (c.all_rows.ensures.lists clean db begins rests)

pub returns-then-not-changes_rows-clause-cause : goal.returns-then-not-changes_rows-clause-cause
returns-then-not-changes_rows-clause-cause g c clean db begins rests = c.all_rows.ensures.cause

pub returns-clause-lists : goal.returns-clause-lists
returns-clause-lists g c clean db begins rests =
    let before = c.all_rows-2.ensures.reads.clean clean in
    let mid = c.check_rowids.ensures.reads.rests before (c.in_ok-check_rowids.ensures.opens before) db rests in
    record { keyed = λ _. c.in_ok-check_rowids.ensures.keyed before db begins rests; lists = c.in_ok-rows.ensures.lists clean db begins mid }

pub returns-clause-reads : goal.returns-clause-reads
returns-clause-reads g c = only_reads_then _ _ _ c.check_rowids.ensures.reads c.all_rows-2.ensures.reads

pub returns-in_err-rows-clause-reads : goal.returns-in_err-rows-clause-reads
returns-in_err-rows-clause-reads g c = only_reads_then _ _ _ c.check_rowids.ensures.reads c.all_rows-2.ensures.reads

pub returns-in_err-check_rowids-clause-cause : goal.returns-in_err-check_rowids-clause-cause
returns-in_err-check_rowids-clause-cause g c clean db begins rests =
    let p = err_from_is_err_and c.from_residual.result c.from_residual.ensures.1 in
    rw (p.1, p.2) (elim (c.in_err-check_rowids.ensures.cause clean db begins rests) [
      | inl tells ↦ query_cause _ _ _ _ _ tells
      | inr known ↦ elim known [ inl memory ↦ inl memory | inr store ↦ inr store.0 ]
    ])

pub returns-in_err-rows-clause-cause : goal.returns-in_err-rows-clause-cause
returns-in_err-rows-clause-cause g c clean db begins rests =
    let p = err_from_is_err_and c.from_residual-in_err-rows.result c.from_residual-in_err-rows.ensures.1 in
    rw (p.1, p.2) c.in_err-rows.ensures.cause

pub returns-then-not-changes_rows-clause-fails : goal.returns-then-not-changes_rows-clause-fails
returns-then-not-changes_rows-clause-fails g c clean db begins rests =
    if_fails_to_list db (state g.S.Store c.args.conn.now) (state g.S.Store c.all_rows.new.conn) c.all_rows.result (c.all_rows.ensures.fails clean db begins rests)

pub returns-in_err-check_rowids-clause-fails : goal.returns-in_err-check_rowids-clause-fails
returns-in_err-check_rowids-clause-fails g c clean db begins rests =
    let p = err_from_is_err_and c.from_residual.result c.from_residual.ensures.1 in
    rw (p.1, p.2) (c.in_err-check_rowids.ensures.fails clean db begins rests)

pub returns-in_err-rows-clause-fails : goal.returns-in_err-rows-clause-fails
returns-in_err-rows-clause-fails g c clean db begins rests =
    let before = c.all_rows-2.ensures.reads.clean clean in
    let mid = c.check_rowids.ensures.reads.rests before (c.in_ok-check_rowids.ensures.opens before) db rests in
    let p = err_from_is_err_and c.from_residual-in_err-rows.result c.from_residual-in_err-rows.ensures.1 in
    let fails = c.in_err-rows.ensures.fails clean db begins mid in
    rw (p.1, p.2) (lists_later db _ _ _ _ c.check_rowids.ensures.reads c.all_rows-2.ensures.reads clean
    (λ store. inl (failed_by (state g.S.Store c.check_rowids.new.conn) (state g.S.Store c.all_rows-2.new.conn) _ fails store)))
