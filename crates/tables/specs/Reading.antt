-- What a read returns, and the state it leaves the store in.
use Rattle.std.specs.Prelude.{◌≡◌, ◌≢◌, ◌⊎◌, ◌<◌, ◌≤◌, ◌+◌, ◌≤ℤ◌, ℕ, ℤ, List, [], ◌∷◌, map, filter, length, slice_index_or, Bool, true, false, None, IsSome, Ok, Err, IsTrue}
use Rattle.std.specs.declared.cmp.Ordering.TheVariants.{Less}
use Rattle.std.specs.Ordering.{on}
use Rattle.sqlite.specs.declared.types.Value.TheVariants.{Int}
use Rattle.sqlite.specs.View.{is_int}
use Rattle.tables.specs.Schema.{tree_of, changes_rows}
use Rattle.std.specs.List.{AllByRecursion, list_all}
use Rattle.std.specs.List.Sorted.{IsPermutation, IsSorted, IsStrictlySortedBy}
use Rattle.sqlite.specs.Order.{Row, value_cmp}
use Rattle.sqlite.specs.Tree.{Trees, rowid}
use Rattle.sqlite_ast.specs.declared.Statement.{Statement}
use Rattle.sqlite_ast.specs.declared.Statement.TheVariants.{Select}
use Rattle.sqlite_syntax.specs.declared.statement.Parsed.{Parsed}
use Rattle.sqlite_resolve.specs.declared.compiled.Compiled.{Compiled}
use Rattle.sqlite_resolve.specs.Lowering.{Checked}
use Rattle.sqlite.specs.Schema.{Schema}
use Rattle.sqlite.specs.Listing.{understood}
use Rattle.sqlite.specs.Effect.{Database}
use Rattle.sqlite.specs.State.{State, HasCleanDisk, KeepsCounts}
use Rattle.sqlite.specs.Disk.{MoreFaults}
use Rattle.tables.specs.declared.fault.Fault.{Fault}
use Rattle.tables.specs.declared.fault.Fault.TheVariants.{Memory, Store}
use Rattle.tables.specs.declared.table.Table.{Table}
use Rattle.tables.specs.Rows.{tuples, at, column_places, is_row_of, begins_with, row_cmp, Keyed, HasWrongRowid, RepeatsRowid}
use Rattle.tables.specs.Contents.{Contents, HoldsTable, RestsAt}

-- the text is a SELECT
abbrev pub is_query : Statement → Bool
is_query (Select s) = true
is_query _ = false

abbrev pub is_query_text : Checked Parsed → Bool
is_query_text (Ok p) = is_query p.statement
is_query_text (Err e) = false

-- under any schema, the text isn't a write that returns rows
abbrev pub IsQuery : List ℕ → Type 0
IsQuery sql = (s : Schema) (c : Compiled) → understood s sql ≡ Ok c → c.returning ≡ None

-- A read leaves the database as it was, if the connection is still open, and doesn't add to the states that a stop may leave behind. It sets no limit on the
-- steps of later queries, and only a disk fault closes the connection. It writes no row, not even in a transaction that is rolled back: the store's write
-- counters are unchanged.
pub record OnlyReads (old new : State) : Type 0 where
  pub limit : new.step_limit ≡ old.step_limit
  pub counts : old.faults ≤ new.faults
  pub closes : HasCleanDisk new → IsTrue old.is_open → IsTrue new.is_open ⊎ MoreFaults old.faults new.faults
  pub clean : HasCleanDisk new → HasCleanDisk old
  pub was_open : HasCleanDisk new → IsTrue new.is_open → IsTrue old.is_open
  pub rests : HasCleanDisk new → IsTrue new.is_open → (db : Database) → RestsAt db old → RestsAt db new
  pub leaves : HasCleanDisk new → (trees : Trees) → new.may_leave trees → old.may_leave trees
  pub unwritten : HasCleanDisk new → KeepsCounts old new

-- the store failed: there was another disk fault or refusal, or the connection was already closed, or the caller had set a limit on the steps of a query
abbrev pub HasFailed : State → State → Type 0
HasFailed old new = MoreFaults old.faults new.faults ⊎ ((old.is_open ≡ false) ⊎ IsSome old.step_limit)

-- why a read fails if all rows represent entries: an allocation failed, or the store failed
abbrev pub FailsBy : State → State → Fault → Type 0
FailsBy old new f = (f ≡ Memory) ⊎ ((f ≡ Store) × HasFailed old new)

-- in a table whose rows change, the rowids aren't distinct integers
abbrev pub SharesRowids : Database → Type 0
SharesRowids db = (t : Table) × (changes_rows t ≡ true) × (HasWrongRowid (db.trees (tree_of t)) ⊎ RepeatsRowid (db.trees (tree_of t)))

-- why a table's rows can't all be listed, if that is reported as a fault of the store: the store failed, or rowids aren't distinct integers
abbrev pub FailsToList : Database → State → State → Fault → Type 0
FailsToList db old new f = f ≡ Store → HasFailed old new ⊎ SharesRowids db

-- the rows of the table that pass a test, each with all its columns, in key order
pub record Lists (t : Table) (test : Row → Bool) (db : Database) (rows : List Row) : Type 0 where
  pub same : IsPermutation (map (at (column_places t)) (filter test (tuples t db.trees))) rows
  pub sorted : IsSorted (row_cmp t) rows

-- the rows in the given contents that pass a test, in key order
pub record Finds (t : Table) (test : Row → Bool) (c : Contents) (rows : List Row) : Type 0 where
  pub same : IsPermutation (filter test (c t)) rows
  pub sorted : IsSorted (row_cmp t) rows

-- all rows of a table, in key order; if rows change, integer rowids identify them
pub record ListsKeyed (t : Table) (db : Database) (rows : List Row) : Type 0 where
  pub keyed : changes_rows t ≡ true → Keyed (db.trees (tree_of t))
  pub lists : Lists t (begins_with []) db rows

-- all rows of a table, with values of the correct kinds, and each with a key above that of the preceding row
pub record ListsEntries (t : Table) (db : Database) (rows : List Row) : Type 0 where
  pub all : ListsKeyed t db rows
  pub typed : list_all (is_row_of t) rows ≡ true
  pub rise : IsStrictlySortedBy (row_cmp t) rows

-- no list of rows of the given kind in ascending key order has the table's rows
abbrev pub HoldsNone : Table → (Row → Type 0) → Database → Type 0
HoldsNone t IsRow db = (rows : List Row) → AllByRecursion IsRow rows → IsStrictlySortedBy (row_cmp t) rows → ¬ HoldsTable t rows db.trees

-- some row isn't of the given kind
abbrev pub HasInvalidRow : (Row → Type 0) → List Row → Type 0
HasInvalidRow IsRow rows = (k : ℕ) × (k < length rows) × ¬ IsRow (slice_index_or rows k [])

-- some row's key isn't below that of the next row
abbrev pub FailsToRise : Table → List Row → Type 0
FailsToRise t rows = (k : ℕ) × (k + 1 < length rows) × (row_cmp t (slice_index_or rows k []) (slice_index_or rows (k + 1) []) ≢ Less)

-- a row whose only column is the rowid
abbrev pub alone : Row → Row
alone r = rowid r ∷ []

-- the rowids of the table, in order, each as the only column of its row
pub record ListsRowids (t : Table) (db : Database) (rows : List Row) : Type 0 where
  pub ordered : List Row
  pub same : IsPermutation (db.trees (tree_of t)) ordered
  pub sorted : IsSorted (on rowid value_cmp) ordered
  pub shown : rows ≡ map alone ordered

-- each rowid is an integer below the next one
pub record RowidsRise (rows : List Row) : Type 0 where
  pub ints : (k : ℕ) → k < length rows → is_int (rowid (slice_index_or rows k [])) ≡ true
  pub rise : (k : ℕ) → k + 1 < length rows → value_cmp (rowid (slice_index_or rows k [])) (rowid (slice_index_or rows (k + 1) [])) ≡ Less

-- some rowid isn't an integer, or is an integer not below the next one
abbrev pub RowidsFailToRise : List Row → Type 0
RowidsFailToRise rows =
    ((k : ℕ) × (k < length rows) × (is_int (rowid (slice_index_or rows k [])) ≡ false))
    ⊎ ((k : ℕ) × (a : ℤ) × (b : ℤ) × (k + 1 < length rows) × (rowid (slice_index_or rows k []) ≡ Int a) × (rowid (slice_index_or rows (k + 1) []) ≡ Int b) × (b ≤ℤ a))
