-- A database left by a stop can be reopened in the state whose tables it contains.
use Rattle.std.proofs.Common.{◌≡◌, ◌⊎◌, inl, inr, true, [], ◌∷◌, refl, sym, ap₂, subst, IsTrue}
use Rattle.std.specs.List.Sorted.{IsStrictlySortedBy}
use Rattle.std.specs.declared.cmp.Ordering.{Ordering}
use Rattle.sqlite_trees.specs.Objects.{catalog_tree}
use Rattle.sqlite_catalog.specs.Listing.{Lists}
use Rattle.sqlite_catalog.proofs.ReadLemmas.{lists_once}
use Rattle.sqlite_schema.specs.Names.{same_name}
use Rattle.sqlite.specs.Order.{Row}
use Rattle.sqlite.specs.Tree.{Trees}
use Rattle.sqlite.specs.Schema.{Schema}
use Rattle.sqlite.specs.Effect.{Database, IsDatabase}
use Rattle.sqlite.specs.State.{State}
use Rattle.sqlite.proofs.Callers.{one_permutation}
use Rattle.register.specs.Offices.{OfficeState}
use Rattle.register.specs.StateConditions.{IsState}
use Rattle.tables.specs.declared.fault.Fault.{Fault}
use Rattle.tables.specs.declared.fault.Fault.TheVariants.{Memory, Store, Damaged, Closed, WrongDatabase, NewerSchema, OlderSchema}
use Rattle.tables.specs.declared.table.Table.{Table}
use Rattle.tables.specs.declared.table.Table.TheVariants.{Office}
use Rattle.tables.specs.Schema.{IsOfficeSchema}
use Rattle.tables.specs.Rows.{row_cmp, tuples}
use Rattle.tables.specs.Contents.{Contents, IsOffice, RestsAt}
use Rattle.tables.specs.Presence.{has_table, IsOurs}
use Rattle.tables.specs.Reading.{SharesRowids, FailsToList, FailsBy}
use Rattle.store.specs.EntryRows.{this_version, office_row}
use Rattle.store.specs.StateTables.{tables_of, HoldsState, IsAt}
use Rattle.store.specs.Openings.{HasNoOffice, IsNewer, IsOlder, IsLeftAt, IsFaultOf}
use Rattle.tables.proofs.ListingLemmas.{begins_to}
use Rattle.tables.proofs.HoldLemmas.{own_rowids}
use Rattle.tables.proofs.ReadLemmas.{rests_at}
use Rattle.store.proofs.StateLemmas.{one_state, tables_rise}
use Rattle.store.proofs.TellLemmas.{which_kind, office_rows, this_office, state_version}

sound : (c : Contents) (db : Database) → IsOffice c db → IsDatabase db
unfolding IsOffice
sound c db office = office.sound

pub begins : (c : Contents) (db : Database) → IsOffice c db → IsOfficeSchema db.schema
unfolding IsOffice
begins c db office = office.begins

-- the trees determine the schema, so the database is the one with the state's tables
pub left_holds : (s : OfficeState) (db : Database) → IsLeftAt s db → HoldsState db s
left_holds s db left =
    let it = left.stores in
    let other : Lists (db.trees catalog_tree) it.db.schema = subst (λ (t : Trees). Lists (t catalog_tree) it.db.schema) (sym it.same) (sound (tables_of s) it.db it.office).lists in
    let schema : db.schema ≡ it.db.schema = lists_once (db.trees catalog_tree) db.schema it.db.schema left.sound.lists other in
    let same : db ≡ it.db = ap₂ (λ sc tr. let x : Database = record { schema = sc; trees = tr } in x) schema it.same in
    record { is = left.is; office = subst (IsOffice (tables_of s)) (sym same) it.office }

pub left_ours : (s : OfficeState) (db : Database) → IsLeftAt s db → IsOurs db.schema
left_ours s db left =
    let schema = begins (tables_of s) db (left_holds s db left).office in
    record { office = λ _. begins_to Office db.schema schema; every = λ _. schema }

office_there : (s : Schema) → IsOfficeSchema s → has_table Office s ≡ true
unfolding same_name
office_there s h = subst (λ (x : Schema). has_table Office x ≡ true) (sym h.is) refl

-- a database that contains a state is an office of this version
holds_office : (s : OfficeState) (db : Database) → HoldsState db s → (¬ HasNoOffice db) × (¬ IsNewer db) × (¬ IsOlder db)
unfolding IsOffice
holds_office s db held = this_office db (office_there db.schema held.office.begins) (state_version db s held)

-- the only faults reported for it are those that may be reported for any database
pub left_told : (s : OfficeState) (db : Database) (f : Fault) → IsLeftAt s db → IsFaultOf db f → (f ≡ Memory) ⊎ (f ≡ Store)
left_told s db f left told = go f told
  where
    go : (f : Fault) → IsFaultOf db f → (f ≡ Memory) ⊎ (f ≡ Store)
    go Memory told = inl refl
    go Store told = inr refl
    go Damaged told = absurd (told.no_state s (left_holds s db left))
    go Closed told = absurd told
    go WrongDatabase told = absurd ((holds_office s db (left_holds s db left)).0 told)
    go NewerSchema told = absurd ((holds_office s db (left_holds s db left)).1 told)
    go OlderSchema told = absurd ((holds_office s db (left_holds s db left)).2 (one_permutation (office_row 1) (tuples Office db.trees) told.1.same))

-- a single row is in ascending order
one_rises : (by : Row → Row → Ordering) (row : Row) → IsStrictlySortedBy by (row ∷ [])
unfolding IsStrictlySortedBy
one_rises by row = (tt, tt)

-- the rows of each table are in ascending order
all_rise : (s : OfficeState) → IsState s → (t : Table) → IsStrictlySortedBy (row_cmp t) (tables_of s t)
all_rise s is t = elim (which_kind t) [
  | inl office ↦ subst (λ (u : Table). IsStrictlySortedBy (row_cmp u) (tables_of s u)) (sym office)
      (subst (IsStrictlySortedBy (row_cmp Office)) (sym (office_rows s)) (one_rises (row_cmp Office) (office_row this_version)))
  | inr has ↦ tables_rise s is t has
]

-- if a database contains a state, its rowids are distinct integers; a `Store` fault therefore means that the store failed
own_there : (s : OfficeState) (db : Database) → HoldsState db s → ¬ SharesRowids db
unfolding IsOffice
own_there s db held shared =
    let t = shared.0 in
    own_rowids t (tables_of s t) db.trees (held.office.holds t) (all_rise s held.is t) shared.1 shared.2

pub left_failed : (s : OfficeState) (db : Database) (old new : State) (f : Fault) → IsLeftAt s db → IsFaultOf db f → FailsToList db old new f → FailsBy old new f
left_failed s db old new f left told fails = elim (left_told s db f left told) [
  | inl memory ↦ inl memory
  | inr store ↦ inr (store, elim (fails store) [ inl failed ↦ failed | inr shared ↦ absurd (own_there s db (left_holds s db left) shared) ])
]

-- an office that is open in a given state rests at the database that a stop would leave of it
pub at_left : (s : OfficeState) (st : State) → IsAt s st → IsTrue st.is_open → RestsAt st.now st × IsLeftAt s st.now
at_left s st at is_open =
    let rests = at.rests is_open in
    (rests_at (tables_of s) st rests, record { is = at.is; sound = sound (tables_of s) st.now rests.office; stores = record { db = st.now; office = rests.office; same = refl } })

-- the state found in it is this one
pub left_opened : (s : OfficeState) (db : Database) (st : State) → IsLeftAt s db → (x : OfficeState) × HoldsState db x × IsAt x st → IsAt s st
left_opened s db st left found = subst (λ (x : OfficeState). IsAt x st) (one_state db found.0 s found.1 (left_holds s db left)) found.2
