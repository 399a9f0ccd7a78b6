-- The schema of an office, as `sqlite` parses it from the statements' texts.
use Rattle.std.specs.Prelude.{◌≡◌, ◌++◌, ◌+◌, ◌*◌, ℕ, zero, suc, Bool, List, [], ◌∷◌, codes, map, take, true, false, Option, None, Some, pos}
use Rattle.std.specs.List.{AllByRecursion}
use Rattle.sqlite.specs.declared.types.Value.TheVariants.{Null, Int}
use Rattle.sqlite.specs.Collation.TheVariants.{Binary}
use Rattle.sqlite.specs.Kind.{Kind}
use Rattle.sqlite.specs.Kind.TheVariants.{Integer, Text, Blob}
use Rattle.sqlite.specs.Term.{Term, lit, col, op2}
use Rattle.sqlite_sql.specs.declared.ops.BinaryOp.TheVariants.{And, Compare}
use Rattle.sqlite_sql.specs.declared.ops.CompareOp.TheVariants.{Ge, Le}
use Rattle.sqlite_schema.specs.declared.schema.Column.{Column}
use Rattle.sqlite_schema.specs.declared.schema.Index.{Index}
use Rattle.sqlite_schema.specs.declared.schema.View.{View}
use Rattle.sqlite_value.specs.Keys.{plain}
use Rattle.sqlite_catalog.specs.Listing.{automatic}
use Rattle.sqlite.specs.Table as sqlite_table
use Rattle.sqlite.specs.Schema.{Schema}
use Rattle.tables.specs.declared.table.Table.{Table}
use Rattle.tables.specs.declared.table.Reference.{Reference}
use Rattle.tables.specs.declared.table.Reference.TheVariants.{WardOfBatch}
use Rattle.tables.specs.declared.table.SettableColumn.{SettableColumn}
use Rattle.tables.specs.declared.table.SettableColumn.TheVariants.{VersionOfOffice, PhaseOfWard, DoneOfWard, RoundOfBatch}
use Rattle.tables.specs.declared.table.Table.TheVariants.{Office, Ward, Candidate, Batch, Keying, Verdict, Lot, Receipt, Bundle, Vote, Third}

-- a table as `sqlite` represents it in a schema
abbrev pub Definition : Type 0
Definition = sqlite_table.Table

-- ---- differences between the tables

-- a column as defined in the text of its table: whole numbers, texts or bytes, and the range it is restricted to
pub record Field : Type 0 where
  pub name : List ℕ
  pub kind : Kind
  pub range : Option (ℕ × ℕ)

-- a column of whole numbers
abbrev pub number : List ℕ → Field
number name = record { name = name; kind = Integer; range = None }

-- a column of whole numbers between two bounds, both included
abbrev pub within : List ℕ → ℕ → ℕ → Field
within name low high = record { name = name; kind = Integer; range = Some (low, high) }

-- a column of texts
abbrev pub words : List ℕ → Field
words name = record { name = name; kind = Text; range = None }

-- a column of bytes
abbrev pub bytes : List ℕ → Field
bytes name = record { name = name; kind = Blob; range = None }

-- A table's name and columns; `key` is the number of leading columns that form the key.
pub record Shape : Type 0 where
  pub name : List ℕ
  pub key : ℕ
  pub fields : List Field

-- each table's columns, key and ranges
abbrev pub shape : Table → Shape
shape Office = record { name = codes "office"; key = 1; fields = number (codes "one") ∷ number (codes "version") ∷ [] }
shape Ward = record {
  name = codes "ward";
  key = 1;
  fields = within (codes "ward") 1 99 ∷ within (codes "seats") 1 15 ∷ number (codes "phase") ∷ number (codes "done") ∷ words (codes "name") ∷ [];
}
shape Candidate = record { name = codes "candidate"; key = 2; fields = within (codes "ward") 1 99 ∷ within (codes "candidate") 1 30 ∷ words (codes "name") ∷ [] }
shape Batch = record {
  name = codes "batch";
  key = 1;
  fields = within (codes "batch") 1 9999 ∷ within (codes "ward") 1 99 ∷ within (codes "size") 1 500
      ∷ within (codes "clerk_a") 1 999 ∷ within (codes "clerk_b") 1 999 ∷ within (codes "round") 1 99 ∷ [];
}
shape Keying = record {
  name = codes "keying";
  key = 4;
  fields = within (codes "batch") 1 9999 ∷ within (codes "round") 1 99 ∷ within (codes "clerk") 1 999 ∷ within (codes "paper") 1 500 ∷ words (codes "marks") ∷ [];
}
shape Verdict = record { name = codes "verdict"; key = 2; fields = within (codes "batch") 1 9999 ∷ within (codes "paper") 1 500 ∷ number (codes "code") ∷ words (codes "marks") ∷ [] }
shape Lot = record { name = codes "lot"; key = 2; fields = within (codes "ward") 1 99 ∷ within (codes "stage") 2 31 ∷ within (codes "candidate") 1 30 ∷ [] }
shape Receipt = record { name = codes "receipt"; key = 2; fields = within (codes "actor") 0 999 ∷ words (codes "id") ∷ words (codes "subject") ∷ words (codes "reply") ∷ [] }
shape Bundle = record {
  name = codes "bundle";
  key = 2;
  fields = number (codes "ward") ∷ bytes (codes "prefs") ∷ number (codes "papers") ∷ number (codes "holder") ∷ number (codes "value") ∷ [];
}
shape Vote = record {
  name = codes "vote";
  key = 3;
  fields = number (codes "ward") ∷ number (codes "stage") ∷ number (codes "candidate") ∷ number (codes "units") ∷ number (codes "mark") ∷ [];
}
shape Third = record { name = codes "third"; key = 1; fields = within (codes "batch") 1 9999 ∷ within (codes "clerk") 1 999 ∷ [] }

-- the tables whose rows may be changed or removed; the others only grow
abbrev pub changes_rows : Table → Bool
changes_rows Office = true
changes_rows Ward = true
changes_rows Candidate = true
changes_rows Batch = true
changes_rows Bundle = true
changes_rows _ = false

-- the table in which rows are looked up by a column outside the key
abbrev pub table_sought : Reference → Table
table_sought WardOfBatch = Batch

-- the index of that column
abbrev pub place_sought : Reference → ℕ
place_sought WardOfBatch = 1

-- the table in which a column outside the key is set individually
abbrev pub table_set : SettableColumn → Table
table_set VersionOfOffice = Office
table_set PhaseOfWard = Ward
table_set DoneOfWard = Ward
table_set RoundOfBatch = Batch

-- the index of that column
abbrev pub place_set : SettableColumn → ℕ
place_set VersionOfOffice = 1
place_set PhaseOfWard = 2
place_set DoneOfWard = 3
place_set RoundOfBatch = 5

-- a column as `sqlite` represents it
abbrev pub column_of : Field → Column
column_of f = record { name = f.name; kind = f.kind; is_strict = true; not_null = true; default = Null; collation = Binary }

-- the table's columns as `sqlite` represents them
abbrev pub columns_of : Table → List Column
columns_of t = map column_of (shape t).fields

-- the check that the column at the given index is in its range, if it has one
abbrev pub range_check : ℕ → Option (ℕ × ℕ) → List Term
range_check place None = []
range_check place (Some range) = op2 And (op2 (Compare Ge Binary) (col 1 place) (lit (Int (pos range.0)))) (op2 (Compare Le Binary) (col 1 place) (lit (Int (pos range.1)))) ∷ []

-- the checks of the columns' ranges; the columns are numbered from `place`
abbrev pub checks_from : ℕ → List Field → List Term
checks_from place [] = []
checks_from place (f ∷ more) = range_check place f.range ++ checks_from (suc place) more

-- the position of the table in the order of creation
abbrev pub place_of : Table → ℕ
place_of Office = 0
place_of Ward = 1
place_of Candidate = 2
place_of Batch = 3
place_of Keying = 4
place_of Verdict = 5
place_of Lot = 6
place_of Receipt = 7
place_of Bundle = 8
place_of Vote = 9
place_of Third = 10

-- the tables in order of creation
abbrev pub all_tables : List Table
all_tables = Office ∷ Ward ∷ Candidate ∷ Batch ∷ Keying ∷ Verdict ∷ Lot ∷ Receipt ∷ Bundle ∷ Vote ∷ Third ∷ []

-- ---- the schema

-- a run of consecutive numbers, with the given start and length
abbrev pub places_from : ℕ → ℕ → List ℕ
places_from k zero = []
places_from k (suc n) = k ∷ places_from (suc k) n

-- a table whose key consists of its first columns; a row is its rowid, followed by the columns
abbrev pub keyed_by : List ℕ → List ℕ → ℕ → List Column → List Term → Definition
keyed_by key name tree columns checks = record {
  name = name;
  tree = tree;
  columns = columns;
  key = None;
  primary = key;
  uniques = key ∷ [];
  orders = plain ∷ [];
  checks = checks;
  references = [];
  computed = [];
  stamps = record { places = []; terms = []; formats = [] };
  is_counted = false;
}

-- a table with the given shape, whose rows are in the given tree
abbrev pub shaped : Shape → ℕ → Definition
shaped s tree = keyed_by (places_from 1 s.key) s.name tree (map column_of s.fields) (checks_from 1 s.fields)

-- the tree of a table's rows; the next tree is that of its key
abbrev pub tree_of : Table → ℕ
tree_of t = 2 * place_of t

-- the table as defined in the schema
abbrev pub definition : Table → Definition
definition t = shaped (shape t) (tree_of t)

-- the index of the table's key
abbrev pub key_index : Table → Index
key_index t = automatic (definition t) 0 (places_from 1 (shape t).key) (1 + tree_of t)

-- the schema that begins with the first `n` tables
abbrev pub schema_from : ℕ → List Definition → List Index → List View → Schema
schema_from n rest others views = record { tables = map definition (take n all_tables) ++ rest; indexes = map key_index (take n all_tables) ++ others; views = views }

-- the schema of an empty database
abbrev pub no_schema : Schema
no_schema = record { tables = []; indexes = []; views = [] }

-- the schema begins with the tables up to the given one
pub record BeginsTo (t : Table) (s : Schema) : Type 0 where
  pub rest : List Definition
  pub others : List Index
  pub views : List View
  pub is : s ≡ schema_from (1 + place_of t) rest others views

-- the given tables refer to no other tables
abbrev pub AreFree : List Definition → Type 0
AreFree = AllByRecursion (λ t. t.references ≡ [])

-- the schema begins with all tables of an office, and the tables after them refer to no others
pub record IsOfficeSchema (s : Schema) : Type 0 where
  pub rest : List Definition
  pub others : List Index
  pub views : List View
  pub free : AreFree rest
  pub is : s ≡ schema_from 11 rest others views
