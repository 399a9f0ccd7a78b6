-- Proof that `all_papers` meets its contract.
use Rattle.std.proofs.Common.{refl, arith}
use Rattle.tables.specs.declared.table.Table.TheVariants.{Batch, Keying, Verdict}
use Rattle.store.specs.EntryRows.{IsBatchRow, IsKeyedRow, IsJudgedRow}
use Rattle.store.proofs.FitLemmas.{batches_fit, keyings_fit, verdicts_fit}
use Rattle.store.proofs.ListedLemmas.{entries_listed, entries_unlisted, lists_as, lists_both, lists_cut, lists_failed}
use Rattle.store.proofs.listing.all_papers.Goals as goal

pub returns-clause-lists : goal.returns-clause-lists
returns-clause-lists g c =
    let a = c.in_ok-batches.ensures in
    let b = c.in_ok-keyings.ensures in
    let d = c.in_ok-verdicts.ensures in
    lists_as (lists_both (lists_both (entries_listed 8 Batch c.in_ok-batches.batches (omega arith) a.lists a.opens a.reads a.outside)
    (entries_listed 8 Keying c.in_ok-keyings.keyings (omega arith) b.lists b.opens b.reads b.outside))
    (entries_listed 8 Verdict c.in_ok-verdicts.verdicts (omega arith) d.lists d.opens d.reads d.outside))
    (λ db told. record { batches = told.0.0; keyings = told.0.1; verdicts = told.1 })

pub returns-clause-rise : goal.returns-clause-rise
returns-clause-rise g c = record { batches = c.in_ok-batches.ensures.rise; keyings = c.in_ok-keyings.ensures.rise; verdicts = c.in_ok-verdicts.ensures.rise }

pub returns-in_err-batches-clause-lists : goal.returns-in_err-batches-clause-lists
returns-in_err-batches-clause-lists g c =
    let e = c.in_err-batches.ensures in
    lists_failed c.from_residual.ensures.1
    (entries_unlisted 8 Batch IsBatchRow refl (omega arith) batches_fit e.cause e.fails e.reads e.outside)

pub returns-in_err-keyings-clause-lists : goal.returns-in_err-keyings-clause-lists
returns-in_err-keyings-clause-lists g c =
    let a = c.in_ok-batches.ensures in
    let e = c.in_err-keyings.ensures in
    lists_cut c.from_residual-in_err-keyings.ensures.1 (entries_listed 8 Batch c.in_ok-batches.batches (omega arith) a.lists a.opens a.reads a.outside)
    (entries_unlisted 8 Keying IsKeyedRow refl (omega arith) keyings_fit e.cause e.fails e.reads e.outside)

pub returns-in_err-verdicts-clause-lists : goal.returns-in_err-verdicts-clause-lists
returns-in_err-verdicts-clause-lists g c =
    let a = c.in_ok-batches.ensures in
    let b = c.in_ok-keyings.ensures in
    let e = c.in_err-verdicts.ensures in
    lists_cut c.from_residual-in_err-verdicts.ensures.1 (lists_both (entries_listed 8 Batch c.in_ok-batches.batches (omega arith) a.lists a.opens a.reads a.outside)
    (entries_listed 8 Keying c.in_ok-keyings.keyings (omega arith) b.lists b.opens b.reads b.outside))
    (entries_unlisted 8 Verdict IsJudgedRow refl (omega arith) verdicts_fit e.cause e.fails e.reads e.outside)
