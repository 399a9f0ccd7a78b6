-- The copy of an office.
use Rattle.std.proofs.Common.{◌≡◌, ◌⊎◌, inl, inr, List, [], ◌∷◌, ◌++◌, map, filter, length, Bool, IsTrue, refl, sym, ap, subst, ◌∙◌, append-nil}
use Rattle.std.specs.List.Sorted.{IsPermutation}
use Rattle.std.proofs.lemmas.List.Sorted.{IsPermutation-refl}
use Rattle.sqlite.specs.Order.{Row}
use Rattle.sqlite.specs.Tree.{Trees}
use Rattle.sqlite.specs.Effect.{Database}
use Rattle.sqlite.specs.State.{State, HasCleanDisk, Survives}
use Rattle.register.specs.Offices.{OfficeState, empty_office, ward_entry, candidate_entry, batch_entry, third_entry, keyed_entry, judged_entry, lot_entry, receipt_entry}
use Rattle.register.specs.Tabulated.{TabulationEntries, tabulation_of, IsTabulationOf, placed_entry, figure_entry}
use Rattle.rowcheck.specs.declared.rows.Rows.{Rows}
use Rattle.rowcheck.specs.States.{state_of, tabulated}
use Rattle.tables.specs.declared.table.Table.TheVariants.{Office, Ward, Candidate, Batch, Keying, Verdict, Lot, Receipt, Bundle, Vote, Third}
use Rattle.tables.specs.Contents.{Contents, SameContents, added_all, Stores, Rests}
use Rattle.store.specs.EntryRows.{row_of_ward, row_of_candidate, row_of_batch, row_of_third, row_of_keyed, row_of_judged, row_of_lot, row_of_receipt, row_of_placed, row_of_figure}
use Rattle.store.specs.Copies.{LeavesNoneOrAll, holdings_of}
use Rattle.store.specs.StateTables.{tables_of, tables_with, HoldsState, StoresState, IsAt}
use Rattle.store.specs.Openings.{IsLeftAt, IsTabulatedAs}
use Rattle.tables.proofs.ListLemmas.{mapped_twice}
use Rattle.store.proofs.KeepLemmas.{rests_is_at}
use Rattle.store.proofs.StateLemmas.{one_state}
use Rattle.store.proofs.ReopenLemmas.{left_holds}

-- ---- the rows of a copy

-- the rows of entries, added to an empty table
rows_alone : {V X : Type 0} (entry : V → X) (row : X → Row) (items : List V) → IsPermutation (map (λ v. row (entry v)) items ++ []) (map row (map entry items))
rows_alone entry row items =
    subst (IsPermutation (map (λ v. row (entry v)) items ++ [])) (append-nil (map (λ v. row (entry v)) items) ∙ sym (mapped_twice entry row items)) (IsPermutation-refl _)

-- the rows of all entries, added table by table
abbrev pub all_added : Rows → Contents → Contents
all_added rows c =
    added_all Vote (map (λ f. row_of_figure (figure_entry f)) rows.figures.items)
    (added_all Bundle (map (λ b. row_of_placed (placed_entry b)) rows.bundles.items)
    (added_all Receipt (map (λ r. row_of_receipt (receipt_entry r)) rows.receipts.items)
    (added_all Lot (map (λ l. row_of_lot (lot_entry l)) rows.lots.items)
    (added_all Verdict (map (λ v. row_of_judged (judged_entry v)) rows.verdicts.items)
    (added_all Keying (map (λ k. row_of_keyed (keyed_entry k)) rows.keyings.items)
    (added_all Third (map (λ t. row_of_third (third_entry t)) rows.thirds.items)
    (added_all Batch (map (λ b. row_of_batch (batch_entry b)) rows.batches.items)
    (added_all Candidate (map (λ x. row_of_candidate (candidate_entry x)) rows.candidates.items)
    (added_all Ward (map (λ w. row_of_ward (ward_entry w)) rows.wards.items) c)))))))))

-- adding rows to an empty office yields the office with those rows
pub whole_put : (rows : Rows) → SameContents (all_added rows (tables_of empty_office)) (tables_with (state_of rows) (tabulated rows))
unfolding added_all tables_of tables_with tabulation_of
whole_put rows Office = IsPermutation-refl _
whole_put rows Ward = rows_alone ward_entry row_of_ward rows.wards.items
whole_put rows Candidate = rows_alone candidate_entry row_of_candidate rows.candidates.items
whole_put rows Batch = rows_alone batch_entry row_of_batch rows.batches.items
whole_put rows Keying = rows_alone keyed_entry row_of_keyed rows.keyings.items
whole_put rows Verdict = rows_alone judged_entry row_of_judged rows.verdicts.items
whole_put rows Lot = rows_alone lot_entry row_of_lot rows.lots.items
whole_put rows Receipt = rows_alone receipt_entry row_of_receipt rows.receipts.items
whole_put rows Bundle = rows_alone placed_entry row_of_placed rows.bundles.items
whole_put rows Vote = rows_alone figure_entry row_of_figure rows.figures.items
whole_put rows Third = rows_alone third_entry row_of_third rows.thirds.items

-- ---- the state of a copy

-- a state's tables with the tabulation of its counts are the tables of that state
pub are_tables : (s : OfficeState) (t : TabulationEntries) → IsTabulationOf t s → tables_with s t ≡ tables_of s
unfolding tables_of
are_tables s t is = ap (tables_with s) is

-- a connection to the copy keeps the copied state if it rests at the copied tables
pub copy_is_at : (s : OfficeState) (t : TabulationEntries) (st : State) → IsTabulatedAs s t → ((trees : Trees) → IsTrue st.is_open → st.may_leave trees → trees ≡ st.committed.trees)
    → Rests (tables_with s t) st → IsAt s st
copy_is_at s t st is settled rests = rests_is_at s st settled is.0 (subst (λ (c : Contents). Rests c st) (are_tables s t is.1) rests)

-- a stop leaves either none of the copy or all of it
pub copy_stops : (s : OfficeState) (t : TabulationEntries) (old new : State) → IsTabulationOf t s → HasCleanDisk new → Survives old new (Stores (tables_with s t)) → LeavesNoneOrAll s old new
copy_stops s t old new is clean survives trees may = elim (survives.crash clean trees may) [
  | inl was ↦ inl was
  | inr made ↦ inr (subst (λ (c : Contents). Stores c trees) (are_tables s t is) made)
]

-- if a stop leaves all of the copy, its tables are those of a state
pub copy_whole : (s : OfficeState) (t : TabulationEntries) (old new : State) → IsTabulatedAs s t → HasCleanDisk new → Survives old new (Stores (tables_with s t))
    → (trees : Trees) → new.may_leave trees
    → old.may_leave trees ⊎ ((x : OfficeState) × StoresState x trees)
copy_whole s t old new is clean survives trees may = elim (copy_stops s t old new is.1 clean survives trees may) [
  | inl was ↦ inl was
  | inr made ↦ inr (s, record { is = is.0; stores = made })
]

-- the state that was read is the one the stop left
pub read_left : (s x : OfficeState) (db : Database) → IsLeftAt s db → HoldsState db x → x ≡ s
read_left s x db left holds = one_state db x s holds (left_holds s db left)
