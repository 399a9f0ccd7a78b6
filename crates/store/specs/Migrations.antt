-- An office made by an earlier program, and the result of its migration.
use Rattle.std.specs.Prelude.{◌≡◌, ◌⊎◌, ◌==◌, ℕ, Bool, true, false, List, [], ◌∷◌, codes, ⊤, Result, Err, IfOk, IfErr}
use Rattle.std.specs.List.{list_any, starts_with}
use Rattle.sqlite.specs.Tree.{Trees}
use Rattle.sqlite_trees.specs.declared.store.Store.{Ghosts}
use Rattle.sqlite.specs.Effect.{Database, IsDatabase}
use Rattle.sqlite.specs.Held.{Held, state}
use Rattle.sqlite.specs.State.{State, HasCleanDisk}
use Rattle.register.specs.Offices.{OfficeState}
use Rattle.register.specs.StateConditions.{IsState}
use Rattle.register.specs.Tabulated.{TabulationEntries, tabulation_of, AdditionEntries, with_addition}
use Rattle.tables.specs.declared.fault.Fault.{Fault}
use Rattle.tables.specs.declared.fault.Fault.TheVariants.{Memory, Store, Damaged, Closed, WrongDatabase, NewerSchema, OlderSchema}
use Rattle.tables.specs.declared.table.Table.TheVariants.{Office}
use Rattle.tables.specs.declared.presence.TablesPresent.{TablesPresent}
use Rattle.tables.specs.declared.presence.TablesPresent.TheVariants.{WithoutThird, WithoutCounts as WithoutCountTables}
use Rattle.tables.specs.Contents.{Contents, SameContents, RestsAt, changed, Stores}
use Rattle.tables.specs.Making.{HasFirstTables, RestsFirst, SeesMade, StoresFirst}
use Rattle.tables.specs.Presence.{IsOurs, IsOlderSchema}
use Rattle.tables.specs.Reading.{OnlyReads, FailsToList}
use Rattle.store.specs.declared.older.OlderForm.{OlderForm}
use Rattle.store.specs.declared.older.OlderForm.TheVariants.{WithCounts, WithoutCounts}
use Rattle.store.specs.declared.migration.Migrated.{Migrated}
use Rattle.store.specs.declared.migration.Migrated.TheVariants.{Done, Already}
use Rattle.store.specs.EntryRows.{office_row}
use Rattle.store.specs.StateTables.{no_tabulation, tables_of, tables_with, HoldsState, IsAt, KeepsConnection}
use Rattle.store.specs.Openings.{HasNoOffice, IsNewer, HoldsNoState}

-- ---- an older office

-- how many of the tables, counted from the first, an older office has
abbrev pub tables_in : OlderForm → ℕ
tables_in WithCounts = 10
tables_in WithoutCounts = 8

-- which of an office's tables an older office has
abbrev pub name_of : OlderForm → TablesPresent
name_of WithCounts = WithoutThird
name_of WithoutCounts = WithoutCountTables

-- the tabulation that an older office has
abbrev pub tabulation_in : OlderForm → OfficeState → TabulationEntries
tabulation_in WithCounts s = tabulation_of s
tabulation_in WithoutCounts s = no_tabulation

-- the rows that represented a state in the first version; opaque, to keep a proof search from computing it
unfoldable pub older_tables : OlderForm → OfficeState → Contents
older_tables form s = changed Office (λ _. office_row 1 ∷ []) (tables_with s (tabulation_in form s))

-- whether a subject is about a third clerk
abbrev pub is_about_third : List ℕ → Bool
is_about_third subject = starts_with ◌==◌ subject (codes "third ")

-- a state of the first version: there is no third clerk, and no receipt is about one
pub record IsOlderState (s : OfficeState) : Type 0 where
  pub is : IsState s
  pub no_thirds : s.thirds ≡ []
  pub unasked : list_any (λ r. is_about_third r.subject) s.receipts ≡ false

-- the database contains exactly the older tables of the given state
pub record HoldsOlder (form : OlderForm) (db : Database) (s : OfficeState) : Type 0 where
  pub is : IsOlderState s
  pub first : HasFirstTables (tables_in form) (older_tables form s) db

-- a connection between two transactions, at the older tables of the given state
pub record RestsOlder (form : OlderForm) (s : OfficeState) (st : State) : Type 0 where
  pub is : IsOlderState s
  pub rests : RestsFirst (tables_in form) (older_tables form s) st

-- a connection inside a transaction that sees the older tables of the given state
abbrev pub SeesOlder : OlderForm → OfficeState → State → Type 0
SeesOlder form s st = IsOlderState s × SeesMade (tables_in form) (older_tables form s) st

-- these trees are the older tables of `s`, which is an older state
pub record StoresOlder (form : OlderForm) (s : OfficeState) (trees : Trees) : Type 0 where
  pub is : IsOlderState s
  pub stores : StoresFirst (tables_in form) (older_tables form s) trees

-- a stop leaves either what it could have left before, namely the older tables of the given state, or that state's tables in this version
abbrev pub LeavesOldOrNew : OlderForm → OfficeState → State → State → Type 0
LeavesOldOrNew form s old new = (trees : Trees) → new.may_leave trees → (old.may_leave trees × StoresOlder form s trees) ⊎ Stores (tables_of s) trees

-- the rows don't form the older tables of any state
abbrev pub HoldsNoOlder : Database → Type 0
HoldsNoOlder db = (form : OlderForm) (s : OfficeState) → ¬ HoldsOlder form db s

-- ---- what a migration reports

-- the database contained this state: in this version, so nothing had to be done, or as an older office
abbrev pub WasAt : Database → Migrated → OfficeState → Type 0
WasAt db Already s = HoldsState db s
WasAt db Done s = (form : OlderForm) × HoldsOlder form db s

-- an office, not of a later version, whose rows form neither the tables nor the older tables of any state
pub record IsBeyondMigration (db : Database) : Type 0 where
  pub some_office : ¬ HasNoOffice db
  pub not_newer : ¬ IsNewer db
  pub no_state : HoldsNoState db
  pub no_older : HoldsNoOlder db

-- the database is one for which a migration reports this fault; a failed allocation or a failed store may be reported for any database
abbrev pub IsToldInMigration : Database → Fault → Type 0
IsToldInMigration db Memory = ⊤
IsToldInMigration db Store = ⊤
IsToldInMigration db Damaged = IsBeyondMigration db
IsToldInMigration db Closed = ⊥
IsToldInMigration db WrongDatabase = HasNoOffice db
IsToldInMigration db NewerSchema = IsNewer db
IsToldInMigration db OlderSchema = ⊥

-- why a migration failed, if it reports a fault of the store: either the rows couldn't all be listed, or the rows are the older tables of a state, and nothing
-- specifies why a write fails
abbrev pub FailsToMigrate : Database → State → State → Fault → Type 0
FailsToMigrate db old new f = FailsToList db old new f ⊎ ((form : OlderForm) × (s : OfficeState) × HoldsOlder form db s)

-- ---- the parts of a migration

-- the maps that were read have no third clerk; and, in the form without counts, there was no tabulation
pub record IsBare (form : OlderForm) (s : OfficeState) (t : TabulationEntries) : Type 0 where
  pub no_thirds : s.thirds ≡ []
  pub no_counts : form ≡ WithoutCounts → t ≡ no_tabulation

-- the given maps form an older state, and the given tabulation is the one such an office has
pub record IsOlderOf (form : OlderForm) (s : OfficeState) (t : TabulationEntries) : Type 0 where
  pub is : IsOlderState s
  pub tabulated : t ≡ tabulation_in form s

-- this is the part of the tabulation of its counts that an older office lacks
abbrev pub IsCompletedBy : OlderForm → OfficeState → AdditionEntries → Type 0
IsCompletedBy form s a = with_addition a (tabulation_in form s) ≡ tabulation_of s

-- an older office was read, and this addition is what it lacks
abbrev pub FoundOlder : Database → OlderForm → AdditionEntries → Type 0
FoundOlder db form a = (s : OfficeState) × HoldsOlder form db s × IsCompletedBy form s a

-- the fault reported for the rows of an older office
abbrev pub TellsOlder : Database → Fault → Type 0
TellsOlder db Memory = ⊤
TellsOlder db Store = ⊤
TellsOlder db Damaged = HoldsNoOlder db
TellsOlder db Closed = ⊥
TellsOlder db WrongDatabase = ⊥
TellsOlder db NewerSchema = ⊥
TellsOlder db OlderSchema = ⊥

-- a stop leaves what it could have left before, or the tables, in this version, of a state whose older tables the database contained
abbrev pub LeavesOlderOr : Database → State → State → Type 0
LeavesOlderOr db old new = (trees : Trees) → new.may_leave trees → old.may_leave trees ⊎ ((s : OfficeState) × (form : OlderForm) × HoldsOlder form db s × Stores (tables_of s) trees)

-- ---- a migration

module _ {S : Type 0} (store : Ghosts S) (before after : Held S) (result : Result Migrated Fault) where
  abbrev old : State
  old = state store before

  abbrev new : State
  new = state store after

  -- The outcome of migrating an older office, an office of this version, or any database that may contain either; and what the rows of older offices
  -- determine. The clauses apply if the state of the office is known (`moved`, `stops`, `already`) or only its rows.
  pub record Migrates : Type 0 where
    pub moved : HasCleanDisk new → (form : OlderForm) (s : OfficeState) → RestsOlder form s old → IfOk result (λ m. (m ≡ Done) × IsAt s new)
    pub stops : HasCleanDisk new → (form : OlderForm) (s : OfficeState) → RestsOlder form s old → LeavesOldOrNew form s old new
    pub refuses : HasCleanDisk new → (form : OlderForm) (s : OfficeState) → RestsOlder form s old → IfErr result (λ f. (f ≡ Memory) ⊎ (f ≡ Store))
    pub already : HasCleanDisk new → (db : Database) → RestsAt db old → (s : OfficeState) → HoldsState db s → IfOk result (λ m. (m ≡ Already) × IsAt s new)
    pub reads : HasCleanDisk new → (db : Database) → RestsAt db old → (s : OfficeState) → HoldsState db s → OnlyReads old new
    pub opened : HasCleanDisk new → (db : Database) → IsOurs db.schema → IsOlderSchema db.schema → RestsAt db old → IfOk result (λ m. (s : OfficeState) × WasAt db m s × IsAt s new)
    pub leaves : HasCleanDisk new → (db : Database) → IsOurs db.schema → IsOlderSchema db.schema → RestsAt db old → LeavesOlderOr db old new
    pub told : HasCleanDisk new → (db : Database) → IsOurs db.schema → IsOlderSchema db.schema → RestsAt db old → IfErr result (IsToldInMigration db)
    pub fails : HasCleanDisk new → (db : Database) → IsOurs db.schema → IsOlderSchema db.schema → RestsAt db old → IfErr result (FailsToMigrate db old new)
    pub unchanged : IfErr result (λ f. (f ≡ Memory) ⊎ ((f ≡ Store) ⊎ OnlyReads old new))
    pub keeps_connection : KeepsConnection old new
    pub clean : HasCleanDisk new → HasCleanDisk old
    pub inside : before.in_transaction ≡ true → (result ≡ Err Store) × (after ≡ before)
    pub outside : before.in_transaction ≡ false → after.in_transaction ≡ false
    pub alone : (db : Database) (form other : OlderForm) (s t : OfficeState) → HoldsOlder form db s → HoldsOlder other db t → (form ≡ other) × (s ≡ t)
    pub equal : (form : OlderForm) (s t : OfficeState) → IsOlderState s → IsOlderState t → SameContents (older_tables form s) (older_tables form t) → s ≡ t
    pub again : (form : OlderForm) (s : OfficeState) (db : Database) → IsDatabase db → StoresOlder form s db.trees → HoldsOlder form db s
