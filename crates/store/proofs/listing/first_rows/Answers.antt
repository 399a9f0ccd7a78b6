-- Proof that `first_rows` meets its contract.
use Rattle.std.proofs.Common.{refl, arith}
use Rattle.tables.specs.declared.table.Table.TheVariants.{Ward, Candidate, Lot, Receipt}
use Rattle.store.specs.EntryRows.{IsWardRow, IsCandidateRow, IsLotRow, IsReceiptRow}
use Rattle.store.proofs.FitLemmas.{wards_fit, candidates_fit, lots_fit, receipts_fit}
use Rattle.store.proofs.ListsLemmas.{lists_first, first_rise}
use Rattle.store.proofs.ListedLemmas.{entries_listed, entries_unlisted, lists_as, lists_both, lists_cut, lists_failed}
use Rattle.store.proofs.listing.first_rows.Goals as goal

pub returns-clause-lists : goal.returns-clause-lists
returns-clause-lists g c =
    let a = c.in_ok-wards.ensures in
    let b = c.in_ok-candidates.ensures in
    let d = c.in_ok-lots.ensures in
    let e = c.in_ok-receipts.ensures in
    lists_as (lists_both (lists_both (lists_both (lists_both (entries_listed 8 Ward c.in_ok-wards.wards (omega arith) a.lists a.opens a.reads a.outside)
    (entries_listed 8 Candidate c.in_ok-candidates.candidates (omega arith) b.lists b.opens b.reads b.outside))
    c.in_ok-batches.ensures.lists)
    (entries_listed 8 Lot c.in_ok-lots.lots (omega arith) d.lists d.opens d.reads d.outside))
    (entries_listed 8 Receipt c.in_ok-receipts.receipts (omega arith) e.lists e.opens e.reads e.outside))
    (λ db told.
    rw (c.new.ensures.items, c.new-2.ensures.items, c.new-3.ensures.items)
    (lists_first c.in_ok-wards.wards.items c.in_ok-candidates.candidates.items _ c.in_ok-lots.lots.items c.in_ok-receipts.receipts.items db told.0.0.0.0 told.0.0.0.1 told.0.0.1 told.0.1 told.1))

pub returns-clause-rise : goal.returns-clause-rise
returns-clause-rise g c =
    rw c.new.ensures.items
    (first_rise c.in_ok-wards.wards.items c.in_ok-candidates.candidates.items _ c.in_ok-lots.lots.items c.in_ok-receipts.receipts.items c.in_ok-wards.ensures.rise
    c.in_ok-candidates.ensures.rise c.in_ok-batches.ensures.rise c.in_ok-lots.ensures.rise c.in_ok-receipts.ensures.rise)

pub returns-in_err-wards-clause-lists : goal.returns-in_err-wards-clause-lists
returns-in_err-wards-clause-lists g c =
    let e = c.in_err-wards.ensures in
    lists_failed c.from_residual.ensures.1 (entries_unlisted 8 Ward IsWardRow refl (omega arith) wards_fit e.cause e.fails e.reads e.outside)

pub returns-in_err-candidates-clause-lists : goal.returns-in_err-candidates-clause-lists
returns-in_err-candidates-clause-lists g c =
    let a = c.in_ok-wards.ensures in
    let e = c.in_err-candidates.ensures in
    lists_cut c.from_residual-in_err-candidates.ensures.1 (entries_listed 8 Ward c.in_ok-wards.wards (omega arith) a.lists a.opens a.reads a.outside)
    (entries_unlisted 8 Candidate IsCandidateRow refl (omega arith) candidates_fit e.cause e.fails e.reads e.outside)

pub returns-in_err-batches-clause-lists : goal.returns-in_err-batches-clause-lists
returns-in_err-batches-clause-lists g c =
    let a = c.in_ok-wards.ensures in
    let b = c.in_ok-candidates.ensures in
    lists_cut c.from_residual-in_err-batches.ensures.1 (lists_both (entries_listed 8 Ward c.in_ok-wards.wards (omega arith) a.lists a.opens a.reads a.outside)
    (entries_listed 8 Candidate c.in_ok-candidates.candidates (omega arith) b.lists b.opens b.reads b.outside))
    c.in_err-batches.ensures.lists

pub returns-in_err-lots-clause-lists : goal.returns-in_err-lots-clause-lists
returns-in_err-lots-clause-lists g c =
    let a = c.in_ok-wards.ensures in
    let b = c.in_ok-candidates.ensures in
    let e = c.in_err-lots.ensures in
    lists_cut c.from_residual-in_err-lots.ensures.1 (lists_both (lists_both (entries_listed 8 Ward c.in_ok-wards.wards (omega arith) a.lists a.opens a.reads a.outside)
    (entries_listed 8 Candidate c.in_ok-candidates.candidates (omega arith) b.lists b.opens b.reads b.outside))
    c.in_ok-batches.ensures.lists)
    (entries_unlisted 8 Lot IsLotRow refl (omega arith) lots_fit e.cause e.fails e.reads e.outside)

pub returns-in_err-receipts-clause-lists : goal.returns-in_err-receipts-clause-lists
returns-in_err-receipts-clause-lists g c =
    let a = c.in_ok-wards.ensures in
    let b = c.in_ok-candidates.ensures in
    let d = c.in_ok-lots.ensures in
    let e = c.in_err-receipts.ensures in
    lists_cut c.from_residual-in_err-receipts.ensures.1 (lists_both (lists_both (lists_both (entries_listed 8 Ward c.in_ok-wards.wards (omega arith) a.lists a.opens a.reads a.outside)
    (entries_listed 8 Candidate c.in_ok-candidates.candidates (omega arith) b.lists b.opens b.reads b.outside))
    c.in_ok-batches.ensures.lists)
    (entries_listed 8 Lot c.in_ok-lots.lots (omega arith) d.lists d.opens d.reads d.outside))
    (entries_unlisted 8 Receipt IsReceiptRow refl (omega arith) receipts_fit e.cause e.fails e.reads e.outside)
