-- What an opening may find.
use Rattle.std.specs.Prelude.{◌≡◌, ◌≢◌, ◌⊎◌, ◌<◌, ℕ, ℤ, pos, ◌<ℤ◌, Bool, true, false, List, [], ◌∷◌, ⊤, IsTrue}
use Rattle.sqlite.specs.declared.types.Value.TheVariants.{Int}
use Rattle.sqlite.specs.Order.{Row}
use Rattle.sqlite.specs.Effect.{Database, IsDatabase}
use Rattle.sqlite.specs.State.{State}
use Rattle.register.specs.Offices.{OfficeState}
use Rattle.register.specs.StateConditions.{IsState}
use Rattle.register.specs.Tabulated.{TabulationEntries, IsTabulationOf}
use Rattle.tables.specs.declared.fault.Fault.{Fault}
use Rattle.tables.specs.declared.fault.Fault.TheVariants.{Memory, Store, Damaged, Closed, WrongDatabase, NewerSchema, OlderSchema}
use Rattle.tables.specs.declared.table.Table.{Table}
use Rattle.tables.specs.declared.table.Table.TheVariants.{Office, Ward, Candidate, Batch, Keying, Verdict, Lot, Receipt, Bundle, Vote, Third}
use Rattle.tables.specs.Schema.{no_schema}
use Rattle.tables.specs.Rows.{tuples, at, column_places}
use Rattle.tables.specs.Contents.{HoldsTable, Stores}
use Rattle.tables.specs.Presence.{has_table}
use Rattle.tables.specs.Reading.{ListsEntries}
use Rattle.store.specs.EntryRows.{this_version, office_row}
use Rattle.store.specs.StateTables.{tables_of, tables_with, HoldsState}

-- there is no office table, or it has no row
abbrev pub HasNoOffice : Database → Type 0
HasNoOffice db = (has_table Office db.schema ≡ false) ⊎ (tuples Office db.trees ≡ [])

-- the only row of the office table has a version above this program's
abbrev pub IsNewer : Database → Type 0
IsNewer db = (version : ℤ) × (pos this_version <ℤ version) × (tuples Office db.trees ≡ (Int (pos 1) ∷ Int version ∷ []) ∷ [])

-- the only row of the office table has the first version, which precedes this program's
abbrev pub IsOlder : Database → Type 0
IsOlder db = tuples Office db.trees ≡ office_row 1 ∷ []

-- the office table has exactly one row, that of an office of the given version
abbrev pub HasVersion : ℕ → Database → Type 0
HasVersion version db = HoldsTable Office (office_row version ∷ []) db.trees

-- the rows don't form the tables of any state
abbrev pub HoldsNoState : Database → Type 0
HoldsNoState db = (s : OfficeState) → ¬ HoldsState db s

-- an office of this version whose rows don't form the tables of any state
pub record IsDamaged (db : Database) : Type 0 where
  pub some_office : ¬ HasNoOffice db
  pub not_newer : ¬ IsNewer db
  pub not_older : ¬ IsOlder db
  pub no_state : HoldsNoState db

-- the database is one for which opening an office reports this fault; a failed allocation or a failed store may be reported for any database
abbrev pub IsFaultOf : Database → Fault → Type 0
IsFaultOf db Memory = ⊤
IsFaultOf db Store = ⊤
IsFaultOf db Damaged = IsDamaged db
IsFaultOf db Closed = ⊥
IsFaultOf db WrongDatabase = HasNoOffice db
IsFaultOf db NewerSchema = IsNewer db
IsFaultOf db OlderSchema = (¬ HasNoOffice db) × HasVersion 1 db

-- a sound database that contains exactly the tables of the given state, as a stop leaves it
pub record IsLeftAt (s : OfficeState) (db : Database) : Type 0 where
  pub is : IsState s
  pub sound : IsDatabase db
  pub stores : Stores (tables_of s) db.trees

-- an open connection, outside a transaction, to an empty database
pub record IsBlank (st : State) : Type 0 where
  pub is_open : IsTrue st.is_open
  pub outside : st.in_transaction ≡ false
  pub settled : st.now ≡ st.committed
  pub schema : st.now.schema ≡ no_schema
  pub sound : IsDatabase st.now

-- ---- the parts of an opening

-- the fault reported for the rows of a table: `Damaged` only if no state has them
abbrev pub TellsNoState : Database → Fault → Type 0
TellsNoState db Memory = ⊤
TellsNoState db Store = ⊤
TellsNoState db Damaged = HoldsNoState db
TellsNoState db Closed = ⊥
TellsNoState db WrongDatabase = ⊥
TellsNoState db NewerSchema = ⊥
TellsNoState db OlderSchema = ⊥

-- the row is that of an office of the given version
abbrev pub IsVersion : ℕ → Row → Type 0
IsVersion version row = at (column_places Office) row ≡ office_row version

-- the fault reported for a row of the office table
abbrev pub FaultOfRow : Row → Fault → Type 0
FaultOfRow row Memory = ⊤
FaultOfRow row Store = ⊥
FaultOfRow row Damaged = (version : ℕ) → 0 < version → ¬ IsVersion version row
FaultOfRow row Closed = ⊥
FaultOfRow row WrongDatabase = ⊥
FaultOfRow row NewerSchema = (version : ℕ) × (this_version < version) × IsVersion version row
FaultOfRow row OlderSchema = IsVersion 1 row

-- the fault reported for the rows of the office table
abbrev pub FaultOfRows : List Row → Fault → Type 0
FaultOfRows rows Memory = ⊤
FaultOfRows rows Store = ⊥
FaultOfRows rows Damaged = (rows ≢ []) × ((row : Row) → rows ≡ row ∷ [] → (version : ℕ) → 0 < version → ¬ IsVersion version row)
FaultOfRows rows Closed = ⊥
FaultOfRows rows WrongDatabase = rows ≡ []
FaultOfRows rows NewerSchema = (row : Row) × (rows ≡ row ∷ []) × ((version : ℕ) × (this_version < version) × IsVersion version row)
FaultOfRows rows OlderSchema = (row : Row) × (rows ≡ row ∷ []) × IsVersion 1 row

-- the fault reported for the office table
abbrev pub FaultOfOfficeTable : Database → Fault → Type 0
FaultOfOfficeTable db Memory = ⊤
FaultOfOfficeTable db Store = ⊤
FaultOfOfficeTable db Damaged = (tuples Office db.trees ≢ []) × ((¬ IsNewer db) × ((¬ IsOlder db) × ¬ HasVersion this_version db))
FaultOfOfficeTable db Closed = ⊥
FaultOfOfficeTable db WrongDatabase = tuples Office db.trees ≡ []
FaultOfOfficeTable db NewerSchema = IsNewer db
FaultOfOfficeTable db OlderSchema = HasVersion 1 db

-- the tables whose rows are the entries of a state and of the tabulation of its counts
abbrev pub has_entries : Table → Bool
has_entries Ward = true
has_entries Candidate = true
has_entries Batch = true
has_entries Keying = true
has_entries Verdict = true
has_entries Lot = true
has_entries Receipt = true
has_entries Bundle = true
has_entries Vote = true
has_entries Third = true
has_entries Office = false

-- all rows of each table of entries are those of the given maps and tabulation
abbrev pub ListsMaps : Database → OfficeState → TabulationEntries → Type 0
ListsMaps db s t = (u : Table) → has_entries u ≡ true → ListsEntries u db (tables_with s t u)

-- the given maps form a state, and the given tabulation is that of its counts
abbrev pub IsTabulatedAs : OfficeState → TabulationEntries → Type 0
IsTabulatedAs s t = IsState s × IsTabulationOf t s

-- each table of entries contains the entries of the state
pub record HoldsEntries (db : Database) (s : OfficeState) : Type 0 where
  pub is : IsState s
  pub entries : (t : Table) → has_entries t ≡ true → HoldsTable t (tables_of s t) db.trees
