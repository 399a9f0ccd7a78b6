-- Rows of the tables, their keys and their order.
use Rattle.std.specs.Prelude.{◌≡◌, ◌<◌, ◌+◌, ℕ, zero, suc, List, [], ◌∷◌, map, drop, length, slice_index_or, Bool, true, false, ◌&&◌, ◌==◌, if◌then◌else◌}
use Rattle.std.specs.declared.cmp.Ordering.{Ordering}
use Rattle.std.specs.List.Sorted.{IsPermutation}
use Rattle.sqlite_rules.specs.Lists.{Has}
use Rattle.sqlite.specs.declared.types.Value.{Value}
use Rattle.sqlite.specs.declared.types.Value.TheVariants.{Int, Text, Blob}
use Rattle.sqlite.specs.Kind.{Kind}
use Rattle.sqlite.specs.Kind.TheVariants.{Integer, Text as Words, Blob as Bytes}
use Rattle.sqlite.specs.Collation.TheVariants.{Binary}
use Rattle.sqlite_schema.specs.declared.schema.Column.{Column}
use Rattle.sqlite_schema.specs.Rules.{equal}
use Rattle.sqlite_value.specs.declared.keys.Key.{Key}
use Rattle.sqlite_value.specs.Keys.{ascending}
use Rattle.sqlite.specs.Query.{key_cmp}
use Rattle.sqlite.specs.Order.{Row, column}
use Rattle.sqlite.specs.View.{is_int}
use Rattle.sqlite.specs.Tree.{Trees, rowid}
use Rattle.tables.specs.declared.table.Table.{Table}
use Rattle.tables.specs.declared.table.Reference.{Reference}
use Rattle.tables.specs.declared.table.SettableColumn.{SettableColumn}
use Rattle.tables.specs.Schema.{shape, columns_of, places_from, place_sought, table_set, place_set, tree_of}

-- the columns of the table's rows, without the rowid
abbrev pub tuples : Table → Trees → List Row
tuples t trees = map (drop 1) (trees (tree_of t))

-- the values at the given indices; NULL past the end
abbrev pub at : List ℕ → Row → Row
at places row = map (column row) places

-- the indices of all columns
abbrev pub column_places : Table → List ℕ
column_places t = places_from 0 (length (columns_of t))

-- the indices of the key's columns
abbrev pub key_places : Table → List ℕ
key_places t = places_from 0 (shape t).key

-- whether the value is of the given kind
abbrev pub is_of : Kind → Value → Bool
is_of Integer (Int n) = true
is_of Words (Text t) = true
is_of Bytes (Blob b) = true
is_of _ _ = false

-- whether there is exactly one value for each column, of the column's kind and not NULL
abbrev pub are_of : List Column → Row → Bool
are_of [] [] = true
are_of (c ∷ cs) (v ∷ vs) = is_of c.kind v && are_of cs vs
are_of _ _ = false

-- whether the row has a value of the correct kind for each column
abbrev pub is_row_of : Table → Row → Bool
is_row_of t = are_of (columns_of t)

-- whether the values have the kinds of the first columns
abbrev pub are_first : List Column → Row → Bool
are_first cs [] = true
are_first [] (v ∷ vs) = false
are_first (c ∷ cs) (v ∷ vs) = is_of c.kind v && are_first cs vs

-- whether the values have the kinds of the columns with which the key begins
abbrev pub begins_key : Table → Row → Bool
begins_key t = are_first (columns_of t)

-- whether two rows have the same values at the given indices, as compared by SQL's =
abbrev pub agree_at : List ℕ → Row → Row → Bool
agree_at [] a b = true
agree_at (p ∷ ps) a b = equal Binary (column a p) (column b p) && agree_at ps a b

-- whether the row has the given key, which is in the first columns
abbrev pub has_key : Table → Row → Row → Bool
has_key t key row = agree_at (key_places t) row key

-- whether the row begins with the given values
abbrev pub begins_with : Row → Row → Bool
begins_with key row = agree_at (places_from 0 (length key)) row key

-- whether the row has the given value in a column outside the key
abbrev pub refers_to : Reference → Value → Row → Bool
refers_to r value row = equal Binary (column row (place_sought r)) value

-- whether a value has the kind of column `place`; the columns are numbered from `k`
abbrev pub takes_from : ℕ → ℕ → Value → List Column → Bool
takes_from k place value [] = true
takes_from k place value (c ∷ cs) = (if k == place then is_of c.kind value else true) && takes_from (suc k) place value cs

-- the value to be set, which follows the values of the key
abbrev pub value_set : SettableColumn → Row → Value
value_set g values = column values (shape (table_set g)).key

-- whether the value to be set has the kind of its column
abbrev pub is_setting : SettableColumn → Row → Bool
is_setting g values = takes_from 0 (place_set g) (value_set g values) (columns_of (table_set g))

-- the row with the given value in the column that is set
abbrev pub with_value : SettableColumn → Value → Row → Row
with_value g value row = map (λ p. if p == place_set g then value else column row p) (column_places (table_set g))

-- the given number of keys, each ordered as SQL orders values
abbrev pub ascending_keys : ℕ → List Key
ascending_keys zero = []
ascending_keys (suc n) = ascending Binary ∷ ascending_keys n

-- the order of rows by the given number of leading columns
abbrev pub keys_cmp : ℕ → Row → Row → Ordering
keys_cmp n = key_cmp 0 (ascending_keys n)

-- the order of rows by the table's key
abbrev pub row_cmp : Table → Row → Row → Ordering
row_cmp t = keys_cmp (shape t).key

-- rowids are integers, and rows that share one are equal
pub record Keyed (rows : List Row) : Type 0 where
  pub ints : (r : Row) → Has rows r → is_int (rowid r) ≡ true
  pub once : (a b : Row) → Has rows a → Has rows b → rowid a ≡ rowid b → a ≡ b

-- some rowid isn't an integer
abbrev pub HasWrongRowid : List Row → Type 0
HasWrongRowid rows = (r : Row) × Has rows r × (is_int (rowid r) ≡ false)

-- two rows share a rowid, and are adjacent in some order of the rows
pub record RepeatsRowid (rows : List Row) : Type 0 where
  pub ordered : List Row
  pub same : IsPermutation rows ordered
  pub place : ℕ
  pub within : place + 1 < length ordered
  pub equal : rowid (slice_index_or ordered place []) ≡ rowid (slice_index_or ordered (place + 1) [])
