-- The rows of all tables, as a connection sees them or a stop leaves them.
use Rattle.std.specs.Prelude.{◌≡◌, true, false, not, if◌then◌else◌, ◌==◌, List, [], ◌∷◌, ◌++◌, map, filter, fold, IsTrue}
use Rattle.std.specs.List.{list_all}
use Rattle.std.specs.List.Sorted.{IsPermutation}
use Rattle.sqlite.specs.Order.{Row}
use Rattle.sqlite.specs.Tree.{Trees}
use Rattle.sqlite.specs.Effect.{Database, IsDatabase}
use Rattle.sqlite.specs.State.{State}
use Rattle.tables.specs.declared.table.Table.{Table}
use Rattle.tables.specs.declared.table.SettableColumn.{SettableColumn}
use Rattle.tables.specs.Schema.{place_of, tree_of, table_set, changes_rows, IsOfficeSchema}
use Rattle.tables.specs.Rows.{tuples, is_row_of, has_key, value_set, with_value, Keyed}

-- the rows of each table, in some order
abbrev pub Contents : Type 0
Contents = Table → List Row

-- the same rows in each table, in any order
abbrev pub SameContents : Contents → Contents → Type 0
SameContents c d = (t : Table) → IsPermutation (c t) (d t)

-- the contents with the rows of one table changed
abbrev pub changed : Table → (List Row → List Row) → Contents → Contents
changed t f c u = if place_of u == place_of t then f (c u) else c u

-- the given rows in the given tables, and no rows in the others
abbrev pub filled : List (Table × List Row) → Contents
filled [] u = []
filled (one ∷ more) u = if place_of u == place_of one.0 then one.1 else filled more u

-- ---- effects of statements on the contents; each is opaque, to keep a proof search from computing it

-- the contents with a row added
unfoldable pub added : Table → Row → Contents → Contents
added t row = changed t (λ rows. row ∷ rows)

-- the contents with the given rows added
unfoldable pub added_all : Table → List Row → Contents → Contents
added_all t news = changed t (λ rows. news ++ rows)

-- the contents with the given row in place of the row with the same key
unfoldable pub replaced : Table → Row → Contents → Contents
replaced t row = changed t (map (λ r. if has_key t row r then row else r))

-- the contents with the given rows, one after another, in place of the rows with the same keys
unfoldable pub replaced_all : Table → List Row → Contents → Contents
replaced_all t news c = fold (λ before row. replaced t row before) c news

-- the contents with a value set in one column of the row with the given key; the values are those of the key, followed by the new one
unfoldable pub value_put : SettableColumn → Row → Contents → Contents
value_put g values = changed (table_set g) (map (λ r. if has_key (table_set g) values r then with_value g (value_set g values) r else r))

-- the contents without the row with the given key
unfoldable pub removed : Table → Row → Contents → Contents
removed t key = changed t (filter (λ r. not (has_key t key r)))

-- ---- where contents are stored

-- the table has exactly these rows, in some order, each with a value of the correct kind in each column; if rows change, integer rowids identify them
pub record HoldsTable (t : Table) (rows : List Row) (trees : Trees) : Type 0 where
  pub same : IsPermutation rows (tuples t trees)
  pub keyed : changes_rows t ≡ true → Keyed (trees (tree_of t))
  pub typed : list_all (is_row_of t) rows ≡ true

-- each table contains exactly its rows
abbrev pub Holds : Contents → Trees → Type 0
Holds c trees = (t : Table) → HoldsTable t (c t) trees

-- a sound database that begins with the tables of an office, which contain exactly these rows
pub record OfficeAt (c : Contents) (db : Database) : Type 0 where
  pub begins : IsOfficeSchema db.schema
  pub sound : IsDatabase db
  pub holds : Holds c db.trees

-- the same condition; opaque, to keep a proof search from unfolding it
unfoldable pub IsOffice : Contents → Database → Type 0
IsOffice = OfficeAt

-- the trees of such a database
pub record Stores (c : Contents) (trees : Trees) : Type 0 where
  pub db : Database
  pub office : IsOffice c db
  pub same : trees ≡ db.trees

-- a connection between two transactions, at the given database
pub record RestsAt (db : Database) (s : State) : Type 0 where
  pub is_open : IsTrue s.is_open
  pub outside : s.in_transaction ≡ false
  pub now : s.now ≡ db
  pub committed : s.committed ≡ db

-- a connection between two transactions, at an office with these contents
pub record Rests (c : Contents) (s : State) : Type 0 where
  pub is_open : IsTrue s.is_open
  pub outside : s.in_transaction ≡ false
  pub settled : s.now ≡ s.committed
  pub office : IsOffice c s.now

-- `Rests`, for a connection that may have been closed
abbrev pub RestsIfOpen : Contents → State → Type 0
RestsIfOpen c s = IsTrue s.is_open → Rests c s

-- a connection inside a transaction that sees an office with these contents
pub record Sees (c : Contents) (s : State) : Type 0 where
  pub inside : IsTrue s.in_transaction
  pub office : IsOffice c s.now

-- whatever a stop may leave now, it is an office with contents of the given kind
abbrev pub Leaves : State → (Contents → Type 0) → Type 0
Leaves s P = (trees : Trees) → s.may_leave trees → (c : Contents) × P c × Stores c trees
