-- How the entries of a database are listed, part by part, when an office is opened.
use Rattle.std.specs.Prelude.{◌≡◌, ◌<◌, ℕ, true, false, map, ⊤, Result, IfOk, IfErr, OnOk, IsTrue}
use Rattle.std.specs.List.Sorted.{IsStrictlySortedBy}
use Rattle.sqlite_trees.specs.declared.store.Store.{Ghosts}
use Rattle.sqlite.specs.Schema.{Schema}
use Rattle.sqlite.specs.Effect.{Database}
use Rattle.sqlite.specs.Held.{Held, state}
use Rattle.sqlite.specs.State.{State, HasCleanDisk}
use Rattle.register.specs.declared.batches.Batch.{Batch as BatchValue}
use Rattle.register.specs.declared.keyings.KeyedPaper.{KeyedPaper}
use Rattle.register.specs.declared.verdicts.JudgedPaper.{JudgedPaper}
use Rattle.register.specs.Offices.{OfficeState, batch_entry, keyed_entry, judged_entry}
use Rattle.register.specs.StateConditions.{IsState}
use Rattle.register.specs.Tabulated.{TabulationEntries}
use Rattle.tables.specs.declared.fault.Fault.{Fault}
use Rattle.tables.specs.declared.fault.Fault.TheVariants.{Memory, Store, Damaged, Closed, WrongDatabase, NewerSchema, OlderSchema}
use Rattle.tables.specs.declared.table.Table.{Table}
use Rattle.tables.specs.declared.table.Table.TheVariants.{Batch, Keying, Verdict}
use Rattle.tables.specs.Schema.{BeginsTo, place_of}
use Rattle.tables.specs.Rows.{row_cmp}
use Rattle.tables.specs.Contents.{HoldsTable, RestsAt}
use Rattle.tables.specs.Reading.{OnlyReads, FailsToList, ListsEntries}
use Rattle.store.specs.declared.listing.Papers.{Papers}
use Rattle.store.specs.EntryRows.{row_of_batch, row_of_keyed, row_of_judged}
use Rattle.store.specs.StateTables.{tables_of, tables_with}
use Rattle.store.specs.Openings.{has_entries}

-- A listing of rows, for any database of the given kind at which the connection rests: what it finds there, which fault is reported for the rows, and why it
-- fails. It changes nothing, and the connection is open if it succeeds.
pub record ListsAt {X : Type 0} (old new : State) (result : Result X Fault) (IsKind : Database → Type 0) (IsTold : Database → X → Type 0) (Gives : Database → Fault → Type 0) : Type 0 where
  pub lists : HasCleanDisk new → (db : Database) → IsKind db → RestsAt db old → IfOk result (IsTold db)
  pub told : HasCleanDisk new → (db : Database) → IsKind db → RestsAt db old → IfErr result (Gives db)
  pub fails : HasCleanDisk new → (db : Database) → IsKind db → RestsAt db old → IfErr result (FailsToList db old new)
  pub opens : HasCleanDisk new → OnOk result (IsTrue new.is_open)
  pub reads : OnlyReads old new
  pub outside : new.in_transaction ≡ false

abbrev pub Lists : {S X : Type 0} → Ghosts S → Held S → Held S → Result X Fault → (Database → Type 0) → (Database → X → Type 0) → (Database → Fault → Type 0) → Type 0
Lists store old new result IsKind IsTold Gives = ListsAt (state store old) (state store new) result IsKind IsTold Gives

-- ---- the tables

-- the schema begins with the first `n` tables
abbrev pub BeginsFirst : ℕ → Schema → Type 0
BeginsFirst n s = (t : Table) → place_of t < n → BeginsTo t s

-- one of the first `n` tables contains rows that no state has
abbrev pub HoldsUnrepresentable : ℕ → Database → Type 0
HoldsUnrepresentable n db = (t : Table) × (has_entries t ≡ true) × (place_of t < n) × ((s : OfficeState) → IsState s → ¬ HoldsTable t (tables_of s t) db.trees)

-- the fault reported for the rows of the first `n` tables
abbrev pub TellsStrange : ℕ → Database → Fault → Type 0
TellsStrange n db Memory = ⊤
TellsStrange n db Store = ⊤
TellsStrange n db Damaged = HoldsUnrepresentable n db
TellsStrange n db Closed = ⊥
TellsStrange n db WrongDatabase = ⊥
TellsStrange n db NewerSchema = ⊥
TellsStrange n db OlderSchema = ⊥

-- all rows of each table of entries among the first `n` tables
abbrev pub ListsFirst : ℕ → Database → OfficeState → TabulationEntries → Type 0
ListsFirst n db s t = (u : Table) → has_entries u ≡ true → place_of u < n → ListsEntries u db (tables_with s t u)

-- all rows for batches, keyed papers and judged papers
pub record ListsPapers (db : Database) (papers : Papers) : Type 0 where
  pub batches : ListsEntries Batch db (map (λ (b : BatchValue). row_of_batch (batch_entry b)) papers.batches.items)
  pub keyings : ListsEntries Keying db (map (λ (k : KeyedPaper). row_of_keyed (keyed_entry k)) papers.keyings.items)
  pub verdicts : ListsEntries Verdict db (map (λ (v : JudgedPaper). row_of_judged (judged_entry v)) papers.verdicts.items)

-- the rows of each table are in strictly ascending key order
pub record PapersRise (papers : Papers) : Type 0 where
  pub batches : IsStrictlySortedBy (row_cmp Batch) (map (λ (b : BatchValue). row_of_batch (batch_entry b)) papers.batches.items)
  pub keyings : IsStrictlySortedBy (row_cmp Keying) (map (λ (k : KeyedPaper). row_of_keyed (keyed_entry k)) papers.keyings.items)
  pub verdicts : IsStrictlySortedBy (row_cmp Verdict) (map (λ (v : JudgedPaper). row_of_judged (judged_entry v)) papers.verdicts.items)
