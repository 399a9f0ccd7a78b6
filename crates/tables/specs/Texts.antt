-- The texts of the statements, generated from the tables' shapes.
use Rattle.std.specs.Prelude.{ℕ, zero, suc, ◌+◌, ◌/◌, ◌%◌, ◌==◌, nat_lt, ◌++◌, List, [], ◌∷◌, codes, map, take, drop, length, slice_index_or, if◌then◌else◌, Option, None, Some}
use Rattle.sqlite.specs.Kind.{Kind}
use Rattle.sqlite.specs.Kind.TheVariants.{Text, Blob}
use Rattle.tables.specs.declared.table.Table.{Table}
use Rattle.tables.specs.declared.table.Reference.{Reference}
use Rattle.tables.specs.declared.table.SettableColumn.{SettableColumn}
use Rattle.tables.specs.Schema.{Field, shape, places_from, table_sought, place_sought, table_set, place_set}

-- ---- parts

-- the texts in order, separated by `between`
abbrev pub joined : List ℕ → List (List ℕ) → List ℕ
joined between [] = []
joined between (one ∷ []) = one
joined between (one ∷ other ∷ more) = one ++ between ++ joined between (other ∷ more)

abbrev pub comma : List ℕ
comma = codes ", "

-- the parameter with the given index: ?1 for 0, and so on up to ?9
abbrev pub parameter : ℕ → List ℕ
parameter place = codes "?" ++ ((49 + place) ∷ [])

-- each name, equated with its parameter; parameters are numbered from `place`
abbrev pub matched : ℕ → List (List ℕ) → List (List ℕ)
matched place [] = []
matched place (name ∷ more) = (name ++ codes " = " ++ parameter place) ∷ matched (suc place) more

abbrev pub names_of : Table → List (List ℕ)
names_of t = map (λ (f : Field). f.name) (shape t).fields

abbrev pub key_names : Table → List (List ℕ)
key_names t = take (shape t).key (names_of t)

-- a WHERE clause that requires all the given conditions
abbrev pub where_text : List (List ℕ) → List ℕ
where_text [] = []
where_text (one ∷ more) = codes " WHERE " ++ joined (codes " AND ") (one ∷ more)

-- selects all columns of the rows that meet the given conditions, in key order
abbrev pub select_where : Table → List (List ℕ) → List ℕ
select_where t conditions = codes "SELECT " ++ joined comma (names_of t) ++ codes " FROM " ++ (shape t).name ++ where_text conditions ++ codes " ORDER BY " ++ joined comma (key_names t)

-- ---- parts of CREATE TABLE

abbrev pub kind_text : Kind → List ℕ
kind_text Text = codes " TEXT NOT NULL"
kind_text Blob = codes " BLOB NOT NULL"
kind_text _ = codes " INT NOT NULL"

-- the digits of a number, up to the given count
abbrev pub numeral : ℕ → ℕ → List ℕ
numeral zero n = []
numeral (suc most) n = if nat_lt n 10 then (48 + n) ∷ [] else numeral most (n / 10) ++ ((48 + n % 10) ∷ [])

abbrev pub range_text : List ℕ → Option (ℕ × ℕ) → List ℕ
range_text name None = []
range_text name (Some range) = codes " CHECK (" ++ name ++ codes " BETWEEN " ++ numeral 4 range.0 ++ codes " AND " ++ numeral 4 range.1 ++ codes ")"

-- a single-column key is declared in that column's definition
abbrev pub key_text : ℕ → List ℕ
key_text key = if key == 1 then codes " PRIMARY KEY" else []

abbrev pub field_texts : ℕ → List Field → List (List ℕ)
field_texts key [] = []
field_texts key (f ∷ more) = (f.name ++ kind_text f.kind ++ key_text key ++ range_text f.name f.range) ∷ map (λ (g : Field). g.name ++ kind_text g.kind ++ range_text g.name g.range) more

-- a key of several columns is declared after all of them
abbrev pub keys_text : Table → List (List ℕ)
keys_text t = if (shape t).key == 1 then [] else (codes "PRIMARY KEY (" ++ joined comma (key_names t) ++ codes ")") ∷ []

-- ---- statements; each is opaque, to keep a proof search from computing it

-- creates the table
unfoldable pub create_text : Table → List ℕ
create_text t = codes "CREATE TABLE " ++ (shape t).name ++ codes " (" ++ joined comma (field_texts (shape t).key (shape t).fields ++ keys_text t) ++ codes ") STRICT"

-- inserts one row; the parameters are the values of all columns in order
unfoldable pub insert_text : Table → List ℕ
insert_text t =
    codes "INSERT INTO " ++ (shape t).name ++ codes " (" ++ joined comma (names_of t) ++ codes ") VALUES (" ++ joined comma (map parameter (places_from 0 (length (shape t).fields))) ++ codes ")"

-- selects all columns of the rows whose first `n` columns equal the parameters, in key order
unfoldable pub select_text : Table → ℕ → List ℕ
select_text t n = select_where t (matched 0 (take n (names_of t)))

-- selects all columns of all rows, in any order
unfoldable pub scan_text : Table → List ℕ
scan_text t = codes "SELECT " ++ joined comma (names_of t) ++ codes " FROM " ++ (shape t).name

-- selects all columns of the rows whose value in a column outside the key equals the parameter, in key order
unfoldable pub select_by_reference_text : Reference → List ℕ
select_by_reference_text r = select_where (table_sought r) (matched 0 (slice_index_or (names_of (table_sought r)) (place_sought r) [] ∷ []))

-- selects the rowids, in order
unfoldable pub select_rowids_text : Table → List ℕ
select_rowids_text t = codes "SELECT rowid FROM " ++ (shape t).name ++ codes " ORDER BY rowid"

-- selects the rowid of the row whose key equals the parameters
unfoldable pub select_rowid_text : Table → List ℕ
select_rowid_text t = codes "SELECT rowid FROM " ++ (shape t).name ++ where_text (matched 0 (key_names t))

-- selects all columns of the rows whose rowids are between the two parameters, both included, in any order
unfoldable pub select_between_text : Table → List ℕ
select_between_text t = codes "SELECT " ++ joined comma (names_of t) ++ codes " FROM " ++ (shape t).name ++ codes " WHERE rowid >= ?1 AND rowid <= ?2"

-- replaces the row with the given key; the parameters are the values of all columns in order
unfoldable pub update_text : Table → List ℕ
update_text t = codes "UPDATE " ++ (shape t).name ++ codes " SET " ++ joined comma (matched (shape t).key (drop (shape t).key (names_of t))) ++ where_text (matched 0 (key_names t))

-- sets one column of the row with the given key; the parameters are the key, then the value
unfoldable pub set_text : SettableColumn → List ℕ
set_text g =
    let t = table_set g in
    codes "UPDATE " ++ (shape t).name ++ codes " SET " ++ joined comma (matched (shape t).key (slice_index_or (names_of t) (place_set g) [] ∷ [])) ++ where_text (matched 0 (key_names t))

-- removes the row with the given key; the parameters are the key's values
unfoldable pub delete_text : Table → List ℕ
delete_text t = codes "DELETE FROM " ++ (shape t).name ++ where_text (matched 0 (key_names t))
