-- An older office, and its migration.
use Rattle.std.proofs.Common.{IsTrue, ◌≡◌, ◌≢◌, ◌⊎◌, inl, inr, ℕ, ◌<◌, ◌≤◌, List, [], ◌∷◌, map, true, false, refl, sym}
use Rattle.std.proofs.Common.{ap, subst, ◌∙◌, true≢false, arith, pos, ◌||◌, Option, Some, None, IfSome, Result, Ok, Err, IfOk, IfErr, OnOk}
use Rattle.std.specs.List.{list_any}
use Rattle.std.specs.Ordering.{is_eq, nat_cmp}
use Rattle.std.specs.List.Sorted.{IsPermutation, IsStrictlySortedBy}
use Rattle.std.proofs.lemmas.Bool.{cases_lt}
use Rattle.std.proofs.lemmas.Int.{ints}
use Rattle.std.proofs.lemmas.List.Sorted.{IsPermutation-refl, IsPermutation-sym, IsPermutation-trans}
use Rattle.sqlite_schema.specs.Names.{same_name}
use Rattle.sqlite.specs.Tree.{Trees}
use Rattle.sqlite.specs.Schema.{Schema}
use Rattle.sqlite.specs.Effect.{Database, IsDatabase}
use Rattle.sqlite.specs.State.{State, HasCleanDisk, Survives}
use Rattle.sqlite.proofs.Callers.{one_permutation}
use Rattle.register.specs.declared.receipt.Receipt.{Receipt as ReceiptValue}
use Rattle.register.specs.declared.tabulations.Addition.{Addition}
use Rattle.register.specs.Offices.{ReceiptEntry, OfficeState, MapsAreSorted, receipt_entry}
use Rattle.register.specs.StateConditions.{IsState}
use Rattle.register.specs.Tabulated.{TabulationEntries, AdditionEntries, with_addition, addition_entries}
use Rattle.rowcheck.specs.declared.rows.Rows.{Rows}
use Rattle.rowcheck.specs.States.{state_of, tabulated}
use Rattle.tables.specs.declared.fault.Fault.{Fault}
use Rattle.tables.specs.declared.fault.Fault.TheVariants.{Memory, Store, Damaged, Closed, WrongDatabase, NewerSchema, OlderSchema}
use Rattle.tables.specs.declared.table.Table.{Table}
use Rattle.tables.specs.declared.table.Table.TheVariants.{Office, Ward, Candidate, Batch, Keying, Verdict, Lot, Receipt, Bundle, Vote, Third}
use Rattle.tables.specs.declared.table.SettableColumn.TheVariants.{VersionOfOffice}
use Rattle.tables.specs.declared.presence.TablesPresent.TheVariants.{Whole, WithoutThird, WithoutCounts as WithoutCountTables}
use Rattle.tables.specs.Schema.{schema_from, place_of}
use Rattle.tables.specs.Rows.{tuples, row_cmp}
use Rattle.tables.specs.Contents.{Contents, SameContents, HoldsTable, IsOffice, value_put, Stores, RestsAt, Sees}
use Rattle.tables.specs.Making.{FirstAt, HasFirstTables, SeesMade}
use Rattle.tables.specs.Presence.{has_table, has_every_table, tables_present, IsOurs, IsOlderSchema}
use Rattle.tables.specs.Reading.{OnlyReads}
use Rattle.store.specs.declared.older.OlderForm.{OlderForm}
use Rattle.store.specs.declared.older.OlderForm.TheVariants.{WithCounts, WithoutCounts}
use Rattle.store.specs.declared.migration.Migrated.{Migrated}
use Rattle.store.specs.declared.migration.Migrated.TheVariants.{Done, Already}
use Rattle.store.specs.EntryRows.{this_version, office_row}
use Rattle.store.specs.StateTables.{no_tabulation, tables_of, tables_with, HoldsState, IsAt}
use Rattle.store.specs.Openings.{HasNoOffice, IsNewer, HoldsNoState, IsFaultOf, HasVersion, has_entries, IsTabulatedAs}
use Rattle.store.specs.Listings.{TellsStrange, ListsFirst}
use Rattle.store.specs.Migrations.{tables_in, name_of, tabulation_in, older_tables, is_about_third, IsOlderState, HoldsOlder, RestsOlder, HoldsNoOlder, StoresOlder}
use Rattle.store.specs.Migrations.{LeavesOldOrNew, WasAt, IsToldInMigration, FailsToMigrate, IsBare, IsOlderOf, IsCompletedBy, TellsOlder, LeavesOlderOr}
use Rattle.tables.proofs.HoldLemmas.{rows_held, held_listed}
use Rattle.tables.proofs.OrderLemmas.{key_of_number}
use Rattle.tables.proofs.ChangeLemmas.{rows_set}
use Rattle.tables.proofs.ReadLemmas.{only_reads_then}
use Rattle.tables.proofs.CauseLemmas.{failed_later}
use Rattle.tables.proofs.ListingLemmas.{begins_to}
use Rattle.tables.proofs.MakeLemmas.{first_at, first_from, first_begins, first_leaves, first_found, all_made}
use Rattle.store.proofs.StateLemmas.{equal_maps, tabulated_same, one_state}
use Rattle.store.proofs.TellLemmas.{which_kind, office_with, state_version, version_at, all_there}
use Rattle.store.proofs.ListsLemmas.{none_rises}

-- ---- older rows

older_office : (form : OlderForm) (s : OfficeState) → older_tables form s Office ≡ office_row 1 ∷ []
unfolding older_tables
older_office form s = refl

-- all rows except the office's are those of the maps and of the tabulation
older_entries : (form : OlderForm) (s : OfficeState) (t : Table) → has_entries t ≡ true → older_tables form s t ≡ tables_with s (tabulation_in form s) t
unfolding older_tables
older_entries form s Ward has = refl
older_entries form s Candidate has = refl
older_entries form s Batch has = refl
older_entries form s Keying has = refl
older_entries form s Verdict has = refl
older_entries form s Lot has = refl
older_entries form s Receipt has = refl
older_entries form s Bundle has = refl
older_entries form s Vote has = refl
older_entries form s Third has = refl
older_entries form s Office has = absurd (true≢false (sym has))

-- the rows in the existing tables are also those of this version
first_entries : (form : OlderForm) (s : OfficeState) (t : Table) → place_of t < tables_in form → tables_with s (tabulation_in form s) t ≡ tables_of s t
unfolding tables_of tables_with
first_entries WithCounts s t low = refl
first_entries WithoutCounts s Office low = refl
first_entries WithoutCounts s Ward low = refl
first_entries WithoutCounts s Candidate low = refl
first_entries WithoutCounts s Batch low = refl
first_entries WithoutCounts s Keying low = refl
first_entries WithoutCounts s Verdict low = refl
first_entries WithoutCounts s Lot low = refl
first_entries WithoutCounts s Receipt low = refl
first_entries WithoutCounts s Bundle low = absurd (omega (arith, low))
first_entries WithoutCounts s Vote low = absurd (omega (arith, low))
first_entries WithoutCounts s Third low = absurd (omega (arith, low))

-- the maps and the tabulation have no rows for the tables that don't exist
later_none : (form : OlderForm) (s : OfficeState) (t : TabulationEntries) → IsBare form s t → (u : Table) → tables_in form ≤ place_of u → tables_with s t u ≡ []
unfolding tables_with
later_none form s t bare Third up = rw bare.no_thirds refl
later_none WithoutCounts s t bare Bundle up = rw (bare.no_counts refl) refl
later_none WithoutCounts s t bare Vote up = rw (bare.no_counts refl) refl
later_none WithCounts s t bare Bundle up = absurd (omega (arith, up))
later_none WithCounts s t bare Vote up = absurd (omega (arith, up))
later_none WithCounts s t bare Office up = absurd (omega (arith, up))
later_none WithCounts s t bare Ward up = absurd (omega (arith, up))
later_none WithCounts s t bare Candidate up = absurd (omega (arith, up))
later_none WithCounts s t bare Batch up = absurd (omega (arith, up))
later_none WithCounts s t bare Keying up = absurd (omega (arith, up))
later_none WithCounts s t bare Verdict up = absurd (omega (arith, up))
later_none WithCounts s t bare Lot up = absurd (omega (arith, up))
later_none WithCounts s t bare Receipt up = absurd (omega (arith, up))
later_none WithoutCounts s t bare Office up = absurd (omega (arith, up))
later_none WithoutCounts s t bare Ward up = absurd (omega (arith, up))
later_none WithoutCounts s t bare Candidate up = absurd (omega (arith, up))
later_none WithoutCounts s t bare Batch up = absurd (omega (arith, up))
later_none WithoutCounts s t bare Keying up = absurd (omega (arith, up))
later_none WithoutCounts s t bare Verdict up = absurd (omega (arith, up))
later_none WithoutCounts s t bare Lot up = absurd (omega (arith, up))
later_none WithoutCounts s t bare Receipt up = absurd (omega (arith, up))

-- a state of the older version has no third clerks and, in the form without counts, no tabulation
bare_state : (form : OlderForm) (s : OfficeState) → IsOlderState s → IsBare form s (tabulation_in form s)
bare_state WithCounts s is = record { no_thirds = is.no_thirds; no_counts = λ other. absurd cc }
bare_state WithoutCounts s is = record { no_thirds = is.no_thirds; no_counts = λ _. refl }

pub rows_bare : (form : OlderForm) (s : OfficeState) (t : TabulationEntries) → s.thirds ≡ [] → (form ≡ WithoutCounts → t ≡ no_tabulation) → IsBare form s t
rows_bare form s t thirds counts = record { no_thirds = thirds; no_counts = counts }

-- ---- a database has the older tables of at most one state

pub same_older : (form : OlderForm) (s x : OfficeState) → IsOlderState s → IsOlderState x → SameContents (older_tables form s) (older_tables form x) → s ≡ x
unfolding older_tables tables_with
same_older form s x is also same = equal_maps s x (tabulation_in form s) (tabulation_in form x) is.is.rise also.is.rise each
  where
    each : SameContents (tables_with s (tabulation_in form s)) (tables_with x (tabulation_in form x))
    each Office = IsPermutation-refl _
    each Ward = same Ward
    each Candidate = same Candidate
    each Batch = same Batch
    each Keying = same Keying
    each Verdict = same Verdict
    each Lot = same Lot
    each Receipt = same Receipt
    each Bundle = same Bundle
    each Vote = same Vote
    each Third = same Third

-- the contents of an older office
pub at_first : (form : OlderForm) (db : Database) (s : OfficeState) → HoldsOlder form db s → FirstAt (tables_in form) (older_tables form s) db
at_first form db s held = first_at (tables_in form) (older_tables form s) db held.first

some_tables : (form : OlderForm) → 0 < tables_in form
some_tables WithCounts = omega arith
some_tables WithoutCounts = omega arith

not_office : (t : Table) (n : ℕ) → 0 < n → n ≤ place_of t → has_entries t ≡ true
not_office Office n some up = absurd (omega (arith, some, up))
not_office Ward n some up = refl
not_office Candidate n some up = refl
not_office Batch n some up = refl
not_office Keying n some up = refl
not_office Verdict n some up = refl
not_office Lot n some up = refl
not_office Receipt n some up = refl
not_office Bundle n some up = refl
not_office Vote n some up = refl
not_office Third n some up = refl

older_none : (form : OlderForm) (s : OfficeState) → IsOlderState s → (t : Table) → tables_in form ≤ place_of t → older_tables form s t ≡ []
older_none form s is t up = older_entries form s t (not_office t (tables_in form) (some_tables form) up) ∙ later_none form s (tabulation_in form s) (bare_state form s is) t up

pub one_older : (form : OlderForm) (db : Database) (s x : OfficeState) → HoldsOlder form db s → HoldsOlder form db x → s ≡ x
one_older form db s x first second = same_older form s x first.is second.is each
  where
    each : SameContents (older_tables form s) (older_tables form x)
    each t = elim (cases_lt (place_of t) (tables_in form)) [
      | inl low ↦ IsPermutation-trans _ _ _ ((at_first form db s first).holds t low).same (IsPermutation-sym _ _ ((at_first form db x second).holds t low).same)
      | inr up ↦ subst (λ l. IsPermutation l (older_tables form x t)) (sym (older_none form s first.is t up))
          (subst (IsPermutation []) (sym (older_none form x second.is t up)) (IsPermutation-refl []))
    ]

-- the schema determines the form
pub named : (form : OlderForm) (s : Schema) → s ≡ schema_from (tables_in form) [] [] [] → tables_present s ≡ name_of form
unfolding same_name
named WithCounts s is = subst (λ (x : Schema). tables_present x ≡ WithoutThird) (sym is) refl
named WithoutCounts s is = subst (λ (x : Schema). tables_present x ≡ WithoutCountTables) (sym is) refl

one_name : (form other : OlderForm) → name_of form ≡ name_of other → form ≡ other
one_name WithCounts WithCounts same = refl
one_name WithCounts WithoutCounts same = absurd cc
one_name WithoutCounts WithCounts same = absurd cc
one_name WithoutCounts WithoutCounts same = refl

pub one_form : (form other : OlderForm) (db : Database) (s x : OfficeState) → HoldsOlder form db s → HoldsOlder other db x → form ≡ other
one_form form other db s x first second = one_name form other (sym (named form db.schema (at_first form db s first).schema) ∙ named other db.schema (at_first other db x second).schema)

pub older_once : (db : Database) (form other : OlderForm) (s x : OfficeState) → HoldsOlder form db s → HoldsOlder other db x → (form ≡ other) × (s ≡ x)
older_once db form other s x first second =
    let same = one_form form other db s x first second in
    (same, one_older form db s x first (subst (λ (f : OlderForm). HoldsOlder f db x) (sym same) second))

-- ---- what opening an older office reports

misses_table : (form : OlderForm) (s : Schema) → s ≡ schema_from (tables_in form) [] [] [] → has_every_table s ≡ false
unfolding same_name
misses_table WithCounts s is = subst (λ (x : Schema). has_every_table x ≡ false) (sym is) refl
misses_table WithoutCounts s is = subst (λ (x : Schema). has_every_table x ≡ false) (sym is) refl

has_office : (form : OlderForm) (s : Schema) → s ≡ schema_from (tables_in form) [] [] [] → has_table Office s ≡ true
unfolding same_name
has_office WithCounts s is = subst (λ (x : Schema). has_table Office x ≡ true) (sym is) refl
has_office WithoutCounts s is = subst (λ (x : Schema). has_table Office x ≡ true) (sym is) refl

pub older_ours : (form : OlderForm) (s : Schema) → s ≡ schema_from (tables_in form) [] [] [] → IsOurs s
older_ours form s is = record { office = λ _. first_begins (tables_in form) s is Office (some_tables form); every = λ all. absurd (true≢false (sym all ∙ misses_table form s is)) }

-- a schema with the table names of a form has that form's tables
pub form_schema : (form : OlderForm) (s : Schema) → IsOlderSchema s → tables_present s ≡ name_of form → s ≡ schema_from (tables_in form) [] [] []
form_schema WithCounts s is same = is.without_third same
form_schema WithoutCounts s is same = is.without_counts same

pub older_is : (form : OlderForm) (s : Schema) → s ≡ schema_from (tables_in form) [] [] [] → IsOlderSchema s
older_is WithCounts s is = record { without_third = λ _. is; without_counts = λ same. absurd (let it : WithoutThird ≡ WithoutCountTables = sym (named WithCounts s is) ∙ same in cc) }
older_is WithoutCounts s is = record { without_third = λ same. absurd (let it : WithoutCountTables ≡ WithoutThird = sym (named WithoutCounts s is) ∙ same in cc); without_counts = λ _. is }

pub older_version : (form : OlderForm) (db : Database) (s : OfficeState) → HoldsOlder form db s → HasVersion 1 db
older_version form db s held = subst (λ rows. HoldsTable Office rows db.trees) (older_office form s) ((at_first form db s held).holds Office (some_tables form))

-- ---- from the rows that were read

-- the rows of an older state, along with the office row of its version, form an older office
pub older_held : (form : OlderForm) (db : Database) (s : OfficeState) (t : TabulationEntries) → db.schema ≡ schema_from (tables_in form) [] [] []
    → IsDatabase db → HasVersion 1 db → IsOlderOf form s t → ListsFirst (tables_in form) db s t → HoldsOlder form db s
older_held form db s t schema sound office is lists = record { is = is.is; first = first_from (tables_in form) (older_tables form s) db (record { schema = schema; sound = sound; holds = each }) }
  where
    each : (u : Table) → place_of u < tables_in form → HoldsTable u (older_tables form s u) db.trees
    each u low = elim (which_kind u) [
      | inl same ↦ subst (λ (v : Table). HoldsTable v (older_tables form s v) db.trees) (sym same) (subst (λ rows. HoldsTable Office rows db.trees) (sym (older_office form s)) office)
      | inr has ↦
          subst (λ rows. HoldsTable u rows db.trees) (sym (older_entries form s u has ∙ ap (λ (v : TabulationEntries). tables_with s v u) (sym is.tabulated)))
          (rows_held u db (first_begins (tables_in form) db.schema schema u low) sound (tables_with s t u) (lists u has low).all (lists u has low).typed)
    ]

-- the rows that were read are those of each older state that the database contains
older_listed : (form : OlderForm) (db : Database) (s x : OfficeState) (t : TabulationEntries) → ListsFirst (tables_in form) db s t → IsBare form s t
    → HoldsOlder form db x → SameContents (tables_with x (tabulation_in form x)) (tables_with s t)
older_listed form db s x t lists bare held u = elim (which_kind u) [
  | inl office ↦ subst (λ (v : Table). IsPermutation (tables_with x (tabulation_in form x) v) (tables_with s t v)) (sym office)
      (subst (λ l. IsPermutation l (tables_with s t Office)) (sym (office_with x (tabulation_in form x)))
      (subst (IsPermutation (office_row this_version ∷ [])) (sym (office_with s t)) (IsPermutation-refl _)))
  | inr has ↦ elim (cases_lt (place_of u) (tables_in form)) [
    | inl low ↦ held_listed u db (tables_with s t u) (lists u has low).all.lists (tables_with x (tabulation_in form x) u)
        (subst (λ rows. HoldsTable u rows db.trees) (older_entries form x u has) ((at_first form db x held).holds u low))
    | inr up ↦
        subst (λ l. IsPermutation l (tables_with s t u)) (sym (later_none form x (tabulation_in form x) (bare_state form x held.is) u up))
        (subst (IsPermutation []) (sym (later_none form s t bare u up)) (IsPermutation-refl []))
  ]
]

older_rise : (form : OlderForm) (db : Database) (s : OfficeState) (t : TabulationEntries) → ListsFirst (tables_in form) db s t → IsBare form s t
    → (u : Table) → has_entries u ≡ true → IsStrictlySortedBy (row_cmp u) (tables_with s t u)
older_rise form db s t lists bare u has = elim (cases_lt (place_of u) (tables_in form)) [
  | inl low ↦ (lists u has low).rise
  | inr up ↦ subst (IsStrictlySortedBy (row_cmp u)) (sym (later_none form s t bare u up)) (none_rises (row_cmp u))
]

older_tabulated : (form : OlderForm) (s x : OfficeState) (t : TabulationEntries) → IsState x → IsBare form s t
    → ((u : Table) → has_entries u ≡ true → IsStrictlySortedBy (row_cmp u) (tables_with s t u))
    → SameContents (tables_with x (tabulation_in form x)) (tables_with s t) → t ≡ tabulation_in form x
unfolding tables_of
older_tabulated WithCounts s x t is bare each same = tabulated_same s x t is each same
older_tabulated WithoutCounts s x t is bare each same = bare.no_counts refl

-- such a state has exactly the listed maps and tabulation
pub older_are : (form : OlderForm) (db : Database) (s x : OfficeState) (t : TabulationEntries) → ListsFirst (tables_in form) db s t → MapsAreSorted s
    → IsBare form s t → HoldsOlder form db x → IsOlderOf form s t
older_are form db s x t lists rise bare held =
    let same = older_listed form db s x t lists bare held in
    let maps : x ≡ s = equal_maps x s (tabulation_in form x) t held.is.is.rise rise same in
    let beside : t ≡ tabulation_in form x = older_tabulated form s x t held.is.is bare (older_rise form db s t lists bare) same in
    record { is = subst IsOlderState maps held.is; tabulated = beside ∙ ap (tabulation_in form) maps }

-- ---- faults

form_told : (form other : OlderForm) (db : Database) (x : OfficeState) → db.schema ≡ schema_from (tables_in form) [] [] [] → HoldsOlder other db x → form ≡ other
form_told form other db x schema held = one_name form other (sym (named form db.schema schema) ∙ named other db.schema (at_first other db x held).schema)

pub none_of_form : (form : OlderForm) (db : Database) → db.schema ≡ schema_from (tables_in form) [] [] [] → ((x : OfficeState) → ¬ HoldsOlder form db x) → HoldsNoOlder db
none_of_form form db schema none other x held = none x (subst (λ (f : OlderForm). HoldsOlder f db x) (sym (form_told form other db x schema held)) held)

pub none_of_schema : (db : Database) → ((form : OlderForm) → tables_present db.schema ≢ name_of form) → HoldsNoOlder db
none_of_schema db none form x held = none form (named form db.schema (at_first form db x held).schema)

pub strange_older : (form : OlderForm) (db : Database) → db.schema ≡ schema_from (tables_in form) [] [] [] → (f : Fault) → TellsStrange (tables_in form) db f → TellsOlder db f
strange_older form db schema Memory told = tt
strange_older form db schema Store told = tt
strange_older form db schema Damaged told =
    let t = told.0 in
    none_of_form form db schema (λ x held. told.3 x held.is.is (subst (λ rows. HoldsTable t rows db.trees) (older_entries form x t told.1 ∙ first_entries form x t told.2)
    ((at_first form db x held).holds t told.2)))
strange_older form db schema Closed told = told
strange_older form db schema WrongDatabase told = told
strange_older form db schema NewerSchema told = told
strange_older form db schema OlderSchema told = told

-- the office row of the first version
first_row : (db : Database) → HasVersion 1 db → tuples Office db.trees ≡ office_row 1 ∷ []
first_row db holds = one_permutation (office_row 1) (tuples Office db.trees) holds.same

pub two_versions : (db : Database) → HasVersion 1 db → HasVersion this_version db → ⊥
two_versions db first this =
    let other : tuples Office db.trees ≡ office_row this_version ∷ [] = one_permutation (office_row this_version) (tuples Office db.trees) this.same in
    let same : pos 1 ≡ pos this_version = ap version_at (sym (first_row db first) ∙ other) in
    omega (arith, ints, same)

not_newer : (db : Database) → HasVersion 1 db → ¬ IsNewer db
not_newer db first newer =
    let up = newer.1 in
    let same : newer.0 ≡ pos 1 = ap version_at (sym newer.2 ∙ first_row db first) in
    omega (arith, ints, up, same)

pub no_state_there : (db : Database) → HasVersion 1 db → HoldsNoState db
no_state_there db first s held = two_versions db first (state_version db s held)

-- an older office has an office row, which is not of a later version
pub older_told : (form : OlderForm) (db : Database) (s : OfficeState) → HoldsOlder form db s → (¬ HasNoOffice db) × (¬ IsNewer db)
older_told form db s held =
    let version = older_version form db s held in (
      (λ none. elim none [
        | inl missing ↦ true≢false (sym (has_office form db.schema (at_first form db s held).schema) ∙ missing)
        | inr empty ↦ let e : office_row 1 ∷ [] ≡ [] = sym (first_row db version) ∙ empty in absurd cc
      ]),
      not_newer db version,
    )

-- a fault reported when an office is opened is also reported by a migration, unless it is `OlderSchema`
pub told_at_once : (db : Database) (f : Fault) → IsFaultOf db f → f ≢ OlderSchema → IsToldInMigration db f
told_at_once db Memory told other = tt
told_at_once db Store told other = tt
told_at_once db Damaged told other = record {
  some_office = told.some_office;
  not_newer = told.not_newer;
  no_state = told.no_state;
  no_older
      = λ form s held. told.not_older (first_row db (older_version form db s held));
}
told_at_once db Closed told other = told
told_at_once db WrongDatabase told other = told
told_at_once db NewerSchema told other = told
told_at_once db OlderSchema told other = absurd (other refl)

-- a fault reported for the rows of an older office is also reported by a migration
pub told_later : (db : Database) → (¬ HasNoOffice db) × HasVersion 1 db → (f : Fault) → TellsOlder db f → IsToldInMigration db f
told_later db office Memory told = tt
told_later db office Store told = tt
told_later db office Damaged told = record { some_office = office.0; not_newer = not_newer db office.1; no_state = no_state_there db office.1; no_older = told }
told_later db office Closed told = told
told_later db office WrongDatabase told = absurd told
told_later db office NewerSchema told = absurd told
told_later db office OlderSchema told = told

-- ---- what is written

-- the version in the office row
pub version_put : (form : OlderForm) (s : OfficeState) → SameContents (value_put VersionOfOffice (office_row this_version) (older_tables form s)) (tables_with s (tabulation_in form s))
unfolding value_put older_tables tables_with
version_put form s Office = subst (IsPermutation _) (rows_set VersionOfOffice (office_row this_version) office_row (λ _. is_eq (nat_cmp 1 1))
    (λ _. this_version) (λ v. key_of_number 1 1) (λ v. refl) (1 ∷ [])) (IsPermutation-refl _)
version_put form s Ward = IsPermutation-refl _
version_put form s Candidate = IsPermutation-refl _
version_put form s Batch = IsPermutation-refl _
version_put form s Keying = IsPermutation-refl _
version_put form s Verdict = IsPermutation-refl _
version_put form s Lot = IsPermutation-refl _
version_put form s Receipt = IsPermutation-refl _
version_put form s Bundle = IsPermutation-refl _
version_put form s Vote = IsPermutation-refl _
version_put form s Third = IsPermutation-refl _

-- tables that are created empty
pub third_none : (form : OlderForm) (s : OfficeState) → IsOlderState s → older_tables form s Third ≡ []
third_none WithCounts s is = older_none WithCounts s is Third (omega arith)
third_none WithoutCounts s is = older_none WithoutCounts s is Third (omega arith)

pub bundles_none : (s : OfficeState) → IsOlderState s → older_tables WithoutCounts s Bundle ≡ []
bundles_none s is = older_none WithoutCounts s is Bundle (omega arith)

pub figures_none : (s : OfficeState) → IsOlderState s → older_tables WithoutCounts s Vote ≡ []
figures_none s is = older_none WithoutCounts s is Vote (omega arith)

-- once the part it lacked is added, an older office has the whole tabulation
pub completed_filled : (form : OlderForm) (s : OfficeState) (a : AdditionEntries) → IsCompletedBy form s a → tables_with s (with_addition a (tabulation_in form s)) ≡ tables_of s
unfolding tables_of
completed_filled form s a lacks = ap (tables_with s) lacks

-- ---- on a connection

pub rests_older : (form : OlderForm) (db : Database) (s : OfficeState) (st : State) → RestsAt db st → HoldsOlder form db s → RestsOlder form s st
rests_older form db s st rests held = record {
  is = held.is;
  rests = record {
    is_open = rests.is_open;
    outside = rests.outside;
    settled = rests.now ∙ sym rests.committed;
    first = subst (HasFirstTables (tables_in form) (older_tables form s)) (sym rests.now) held.first;
  };
}

pub older_rests : (form : OlderForm) (s : OfficeState) (st : State) → RestsOlder form s st → RestsAt st.now st × HoldsOlder form st.now s
older_rests form s st older = (
  record { is_open = older.rests.is_open; outside = older.rests.outside; now = refl; committed = sym older.rests.settled },
  record { is = older.is; first = older.rests.first },
)

-- what a stop left of an older office is recognized again after reopening
pub older_again : (form : OlderForm) (s : OfficeState) (db : Database) → IsDatabase db → StoresOlder form s db.trees → HoldsOlder form db s
older_again form s db sound left = record { is = left.is; first = first_found (tables_in form) (older_tables form s) db sound left.stores }

-- a stop in the transaction leaves what it could have left before, or the tables of the state
pub older_leaves : (form : OlderForm) (db : Database) (s : OfficeState) (old mid new : State) → HoldsOlder form db s → OnlyReads old mid → HasCleanDisk mid
    → HasCleanDisk new → Survives mid new (Stores (tables_of s)) → LeavesOlderOr db old new
older_leaves form db s old mid new held reads before clean survives trees may = elim (survives.crash clean trees may) [
  | inl was ↦ inl (reads.leaves before trees was)
  | inr made ↦ inr (s, form, held, made)
]

pub leaves_later : (db : Database) (old mid new : State) → OnlyReads old mid → HasCleanDisk mid → LeavesOlderOr db mid new → LeavesOlderOr db old new
leaves_later db old mid new reads before leaves trees may = elim (leaves trees may) [
  | inl was ↦ inl (reads.leaves before trees was)
  | inr made ↦ inr made
]

-- ---- a migration of a database with a known state

state_older : (db : Database) (s : OfficeState) → HoldsState db s → IsOlderSchema db.schema
unfolding IsOffice
state_older db s held =
    let whole : tables_present db.schema ≡ Whole = rw (all_there db.schema held.office.begins) refl in
    record { without_third = λ same. absurd (let it : Whole ≡ WithoutThird = sym whole ∙ same in cc); without_counts = λ same. absurd (let it : Whole ≡ WithoutCountTables = sym whole ∙ same in cc) }

pub state_ours : (db : Database) (s : OfficeState) → HoldsState db s → IsOurs db.schema
unfolding IsOffice
state_ours db s held = record { office = λ _. begins_to Office db.schema held.office.begins; every = λ _. held.office.begins }

module _ (r : Result Migrated Fault) (old new : State) where
  -- the clauses of a migration for any database: what it opened, which fault it reports, and what a stop leaves
  abbrev Opens : Type 0
  Opens = (db : Database) → IsOurs db.schema → IsOlderSchema db.schema → RestsAt db old → IfOk r (λ m. (x : OfficeState) × WasAt db m x × IsAt x new)

  abbrev Tells : Type 0
  Tells = (db : Database) → IsOurs db.schema → IsOlderSchema db.schema → RestsAt db old → IfErr r (IsToldInMigration db)

  abbrev LeavesSome : Type 0
  LeavesSome = (db : Database) → IsOurs db.schema → IsOlderSchema db.schema → RestsAt db old → LeavesOlderOr db old new

  if_ok : (P Q : Migrated → Type 0) → ((m : Migrated) → P m → Q m) → IfOk r P → IfOk r Q
  if_ok P Q each h = go r h
    where
      go : (x : Result Migrated Fault) → IfOk x P → IfOk x Q
      go (Ok m) h = each m h
      go (Err f) h = tt

  if_err : (P Q : Fault → Type 0) → ((f : Fault) → P f → Q f) → IfErr r P → IfErr r Q
  if_err P Q each h = go r h
    where
      go : (x : Result Migrated Fault) → IfErr x P → IfErr x Q
      go (Ok m) h = tt
      go (Err f) h = each f h

  module _ (form : OlderForm) (s : OfficeState) (older : RestsOlder form s old) where
    pub moved_from : Opens → IfOk r (λ m. (m ≡ Done) × IsAt s new)
    moved_from opened =
        let it = older_rests form s old older in
        let schema = (at_first form old.now s it.1).schema in
        if_ok _ _ go (opened old.now (older_ours form old.now.schema schema) (older_is form old.now.schema schema) it.0)
      where
        go : (m : Migrated) → (x : OfficeState) × WasAt old.now m x × IsAt x new → (m ≡ Done) × IsAt s new
        go Done found = (refl, subst (λ (y : OfficeState). IsAt y new) (sym (older_once old.now form found.1.0 s found.0 (older_rests form s old older).1 found.1.1).1) found.2)
        go Already found = absurd (two_versions old.now (older_version form old.now s (older_rests form s old older).1) (state_version old.now found.0 found.1))

    pub stops_from : ((trees : Trees) → IsTrue old.is_open → old.may_leave trees → trees ≡ old.committed.trees) → LeavesSome → LeavesOldOrNew form s old new
    stops_from settled leaves trees may =
        let it = older_rests form s old older in
        let schema = (at_first form old.now s it.1).schema in
        elim (leaves old.now (older_ours form old.now.schema schema) (older_is form old.now.schema schema) it.0 trees may) [
          | inl was ↦ inl (was, record { is = older.is; stores = first_leaves (tables_in form) (older_tables form s) old settled older.rests trees was })
          | inr made ↦ inr (subst (λ (y : OfficeState). Stores (tables_of y) trees) (sym (older_once old.now form made.1 s made.0 it.1 made.2).1) made.3)
        ]

    pub refuses_from : Tells → IfErr r (λ f. (f ≡ Memory) ⊎ (f ≡ Store))
    refuses_from told =
        let it = older_rests form s old older in
        let schema = (at_first form old.now s it.1).schema in
        if_err _ _ (go it.1) (told old.now (older_ours form old.now.schema schema) (older_is form old.now.schema schema) it.0)
      where
        go : HoldsOlder form old.now s → (f : Fault) → IsToldInMigration old.now f → (f ≡ Memory) ⊎ (f ≡ Store)
        go held Memory it = inl refl
        go held Store it = inr refl
        go held Damaged it = absurd (it.no_older form s held)
        go held Closed it = absurd it
        go held WrongDatabase it = absurd ((older_told form old.now s held).0 it)
        go held NewerSchema it = absurd ((older_told form old.now s held).1 it)
        go held OlderSchema it = absurd it

  pub already_from : (db : Database) (s : OfficeState) → RestsAt db old → HoldsState db s → Opens → IfOk r (λ m. (m ≡ Already) × IsAt s new)
  already_from db s rests held opened = if_ok _ _ go (opened db (state_ours db s held) (state_older db s held) rests)
    where
      go : (m : Migrated) → (x : OfficeState) × WasAt db m x × IsAt x new → (m ≡ Already) × IsAt s new
      go Already found = (refl, subst (λ (y : OfficeState). IsAt y new) (sym (one_state db s found.0 held found.1)) found.2)
      go Done found = absurd (two_versions db (older_version found.1.0 db found.0 found.1.1) (state_version db s held))

-- why a migration that began with a read failed
pub if_failed_later : (r : Result Migrated Fault) (db : Database) (a b c : State) → OnlyReads a b → HasCleanDisk b → b.faults ≤ c.faults
    → IfErr r (FailsToMigrate db b c) → IfErr r (FailsToMigrate db a c)
if_failed_later (Ok m) db a b c first clean counts fails = tt
if_failed_later (Err f) db a b c first clean counts (inl listed) = inl (λ store. elim (listed store) [ inl failed ↦ inl (failed_later a b c first clean counts failed) | inr shared ↦ inr shared ])
if_failed_later (Err f) db a b c first clean counts (inr held) = inr held

-- ---- the parts of a read

-- whether any receipt that was read is about a third clerk
asked_mapped : (rs : List ReceiptValue) → list_any (λ (r : ReceiptEntry). is_about_third r.subject) (map receipt_entry rs) ≡ list_any
    (λ (r : ReceiptValue). is_about_third (receipt_entry r).subject) rs
asked_mapped [] = refl
asked_mapped (r ∷ rs) = ap (λ b. is_about_third (receipt_entry r).subject || b) (asked_mapped rs)

pub asked : (rows : Rows) (form : OlderForm) → list_any (λ (r : ReceiptValue). is_about_third (receipt_entry r).subject) rows.receipts.items ≡ true → ¬ IsOlderOf form (state_of rows) (tabulated rows)
asked rows form hit is = true≢false (sym hit ∙ sym (asked_mapped rows.receipts.items) ∙ is.is.unasked)

-- the part of the computed tabulation that an older office lacks
pub if_lacking : (o : Option Addition) (rows : Rows) (form : OlderForm) (u : TabulationEntries) → list_any (λ (r : ReceiptValue). is_about_third (receipt_entry r).subject) rows.receipts.items ≡ false
    → IsBare form (state_of rows) (tabulated rows) → IsTabulatedAs (state_of rows) u
    → IfSome o (λ a. IsTabulatedAs (state_of rows) u → (tabulated rows ≡ tabulation_in form (state_of rows)) × IsCompletedBy form (state_of rows) (addition_entries a))
    → IfSome o (λ a. IsOlderOf form (state_of rows) (tabulated rows) × IsCompletedBy form (state_of rows) (addition_entries a))
if_lacking None rows form u unasked bare is lacks = tt
if_lacking (Some a) rows form u unasked bare is lacks =
    let it = lacks is in
    (record { is = record { is = is.0; no_thirds = bare.no_thirds; unasked = asked_mapped rows.receipts.items ∙ unasked }; tabulated = it.0 }, it.1)

-- once the last table is created, all tables exist
pub if_all_made : {X E : Type 0} (r : Result X E) (c : Contents) (st : State) → OnOk r (SeesMade 11 c st) → OnOk r (Sees c st)
if_all_made (Ok x) c st made = all_made c st made
if_all_made (Err e) c st made = tt

-- ---- the results of a migration

pub store_older : (db : Database) (f : Fault) → (f ≡ Memory) ⊎ (f ≡ Store) → TellsOlder db f
store_older db f (inl same) = subst (TellsOlder db) (sym same) tt
store_older db f (inr same) = subst (TellsOlder db) (sym same) tt

-- what a fault in the transaction leaves, and what a fault before it leaves
abbrev pub LeavesUnlessBroken : State → State → Fault → Type 0
LeavesUnlessBroken old new f = (f ≡ Memory) ⊎ ((f ≡ Store) ⊎ OnlyReads old new)

pub broken : (old new : State) (f : Fault) → (f ≡ Memory) ⊎ (f ≡ Store) → LeavesUnlessBroken old new f
broken old new f (inl memory) = inl memory
broken old new f (inr store) = inr (inl store)

pub if_read_first : (r : Result Migrated Fault) (old mid new : State) → OnlyReads old mid → IfErr r (LeavesUnlessBroken mid new) → IfErr r (LeavesUnlessBroken old new)
if_read_first (Ok m) old mid new reads h = tt
if_read_first (Err f) old mid new reads h = elim h [
  | inl memory ↦ inl memory
  | inr more ↦ elim more [ inl store ↦ inr (inl store) | inr later ↦ inr (inr (only_reads_then old mid new reads later)) ]
]

pub if_told_later : (r : Result Migrated Fault) (db : Database) → (¬ HasNoOffice db) × HasVersion 1 db → IfErr r (TellsOlder db) → IfErr r (IsToldInMigration db)
if_told_later (Ok m) db office h = tt
if_told_later (Err f) db office h = told_later db office f h
