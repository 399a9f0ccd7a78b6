-- Proof that `all_rows` meets its contract.
use Rattle.std.proofs.Common.{arith, refl}
use Rattle.tables.specs.declared.table.Table.TheVariants.{Third}
use Rattle.store.specs.EntryRows.{IsThirdRow}
use Rattle.tables.proofs.ListingLemmas.{begins_to}
use Rattle.store.proofs.FitLemmas.{thirds_fit}
use Rattle.store.proofs.TellLemmas.{strange_told}
use Rattle.store.proofs.ListsLemmas.{lists_maps, thirds_rise}
use Rattle.store.proofs.ListedLemmas.{entries_listed, entries_unlisted, lists_as, lists_both, lists_cut, lists_failed, lists_of}
use Rattle.store.proofs.listing.all_rows.Goals as goal

pub returns-clause-lists : goal.returns-clause-lists
returns-clause-lists g c =
    let e = c.in_ok-thirds.ensures in
    lists_as (lists_both (lists_of (λ db has t low. begins_to t db.schema has) (strange_told 10) c.in_ok-rows.ensures.lists)
    (lists_of (λ db has t low. begins_to t db.schema has) (strange_told 11) (entries_listed 11 Third c.in_ok-thirds.thirds (omega arith) e.lists e.opens e.reads e.outside)))
    (λ db told. lists_maps db _ _ _ told.0 told.1)

pub returns-clause-rise : goal.returns-clause-rise
returns-clause-rise g c = thirds_rise _ _ c.in_ok-rows.ensures.rise c.in_ok-thirds.ensures.rise

pub returns-in_err-rows-clause-lists : goal.returns-in_err-rows-clause-lists
returns-in_err-rows-clause-lists g c = lists_failed c.from_residual.ensures.1 (lists_of (λ db has t low. begins_to t db.schema has) (strange_told 10) c.in_err-rows.ensures.lists)

pub returns-in_err-thirds-clause-lists : goal.returns-in_err-thirds-clause-lists
returns-in_err-thirds-clause-lists g c =
    let e = c.in_err-thirds.ensures in
    lists_cut c.from_residual-in_err-thirds.ensures.1 (lists_of (λ db has t low. begins_to t db.schema has) (strange_told 10) c.in_ok-rows.ensures.lists)
    (lists_of (λ db has t low. begins_to t db.schema has) (strange_told 11) (entries_unlisted 11 Third IsThirdRow refl (omega arith) thirds_fit e.cause e.fails e.reads e.outside))
