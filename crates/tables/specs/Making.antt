-- Creating the tables, one after another.
use Rattle.std.specs.Prelude.{◌≡◌, ◌<◌, false, ℕ, [], IsTrue}
use Rattle.sqlite.specs.Tree.{Trees}
use Rattle.sqlite.specs.Effect.{Database, IsDatabase}
use Rattle.sqlite.specs.State.{State}
use Rattle.tables.specs.declared.table.Table.{Table}
use Rattle.tables.specs.Schema.{schema_from, no_schema, place_of}
use Rattle.tables.specs.Contents.{Contents, HoldsTable}

-- contents without rows in any table; opaque, to keep a proof search from computing it
unfoldable pub no_contents : Contents
no_contents t = []

-- each of the first `n` tables contains exactly its rows
abbrev pub HoldsFirst : ℕ → Contents → Trees → Type 0
HoldsFirst n c trees = (t : Table) → place_of t < n → HoldsTable t (c t) trees

-- a sound database with only the first `n` tables, which contain exactly these rows
pub record FirstAt (n : ℕ) (c : Contents) (db : Database) : Type 0 where
  pub schema : db.schema ≡ schema_from n [] [] []
  pub sound : IsDatabase db
  pub holds : HoldsFirst n c db.trees

-- the same condition; opaque, to keep a proof search from unfolding it
unfoldable pub HasFirstTables : ℕ → Contents → Database → Type 0
HasFirstTables = FirstAt

-- the trees of such a database
pub record StoresFirst (n : ℕ) (c : Contents) (trees : Trees) : Type 0 where
  pub db : Database
  pub first : HasFirstTables n c db
  pub same : trees ≡ db.trees

-- a connection between two transactions, at the first `n` tables with these rows
pub record RestsFirst (n : ℕ) (c : Contents) (s : State) : Type 0 where
  pub is_open : IsTrue s.is_open
  pub outside : s.in_transaction ≡ false
  pub settled : s.now ≡ s.committed
  pub first : HasFirstTables n c s.now

-- a connection inside a transaction that sees the first `n` tables with these rows
pub record SeesMade (n : ℕ) (c : Contents) (s : State) : Type 0 where
  pub inside : IsTrue s.in_transaction
  pub first : HasFirstTables n c s.now

-- a connection inside a transaction that sees an empty database
pub record SeesNothing (s : State) : Type 0 where
  pub inside : IsTrue s.in_transaction
  pub schema : s.now.schema ≡ no_schema
  pub sound : IsDatabase s.now
