-- Proof that `counted_rows` meets its contract.
use Rattle.std.proofs.Common.{refl, arith}
use Rattle.tables.specs.declared.table.Table.TheVariants.{Bundle, Vote}
use Rattle.store.specs.EntryRows.{IsPlacedRow, IsFigureRow}
use Rattle.store.proofs.CountFits.{bundles_fit, figures_fit}
use Rattle.store.proofs.TellLemmas.{strange_more}
use Rattle.store.proofs.ListsLemmas.{lists_counted}
use Rattle.store.proofs.ListedLemmas.{entries_listed, entries_unlisted, lists_as, lists_both, lists_cut, lists_failed, lists_of}
use Rattle.store.proofs.listing.counted_rows.Goals as goal

pub returns-clause-lists : goal.returns-clause-lists
returns-clause-lists g c =
    let a = c.in_ok-bundles.ensures in
    let b = c.in_ok-figures.ensures in
    lists_as (lists_both (lists_both (lists_of (λ db has t low. has t (omega (arith, low))) (strange_more 8 10 (omega arith)) c.in_ok-rows.ensures.lists)
    (entries_listed 10 Bundle c.in_ok-bundles.bundles (omega arith) a.lists a.opens a.reads a.outside))
    (entries_listed 10 Vote c.in_ok-figures.figures (omega arith) b.lists b.opens b.reads b.outside))
    (λ db told. lists_counted db _ _ c.in_ok-bundles.bundles.items c.in_ok-figures.figures.items told.0.0 told.0.1 told.1)

pub returns-in_err-rows-clause-lists : goal.returns-in_err-rows-clause-lists
returns-in_err-rows-clause-lists g c =
    lists_failed c.from_residual.ensures.1 (lists_of (λ db has t low. has t (omega (arith, low))) (strange_more 8 10 (omega arith)) c.in_err-rows.ensures.lists)

pub returns-in_err-bundles-clause-lists : goal.returns-in_err-bundles-clause-lists
returns-in_err-bundles-clause-lists g c =
    let e = c.in_err-bundles.ensures in
    lists_cut c.from_residual-in_err-bundles.ensures.1 (lists_of (λ db has t low. has t (omega (arith, low))) (strange_more 8 10 (omega arith)) c.in_ok-rows.ensures.lists)
    (entries_unlisted 10 Bundle IsPlacedRow refl (omega arith) bundles_fit e.cause e.fails e.reads e.outside)

pub returns-in_err-figures-clause-lists : goal.returns-in_err-figures-clause-lists
returns-in_err-figures-clause-lists g c =
    let a = c.in_ok-bundles.ensures in
    let e = c.in_err-figures.ensures in
    lists_cut c.from_residual-in_err-figures.ensures.1 (lists_both (lists_of (λ db has t low. has t (omega (arith, low))) (strange_more 8 10 (omega arith)) c.in_ok-rows.ensures.lists)
    (entries_listed 10 Bundle c.in_ok-bundles.bundles (omega arith) a.lists a.opens a.reads a.outside))
    (entries_unlisted 10 Vote IsFigureRow refl (omega arith) figures_fit e.cause e.fails e.reads e.outside)
