-- The faults reported for the rows of a table.
use Rattle.std.proofs.Common.{◌≡◌, ◌⊎◌, inl, inr, ℕ, ◌<◌, ◌≤◌, ℤ, pos, negsuc, ◌<ℤ◌, List, [], ◌∷◌, map, length, get_or, Bool, true, false, refl, sym, ap, subst, ◌∙◌, true≢false, arith}
use Rattle.std.specs.List.{AllByRecursion}
use Rattle.std.specs.List.Sorted.{IsPermutation}
use Rattle.std.proofs.lemmas.Int.{ints}
use Rattle.std.proofs.lemmas.List.Sorted.{IsPermutation-refl, IsPermutation-trans, length_permutation}
use Rattle.sqlite.specs.declared.types.Value.{Value}
use Rattle.sqlite.specs.declared.types.Value.TheVariants.{Int}
use Rattle.sqlite.specs.Order.{Row, column}
use Rattle.sqlite_schema.specs.Names.{same_name}
use Rattle.sqlite.specs.Schema.{Schema}
use Rattle.sqlite.specs.Effect.{Database, IsDatabase}
use Rattle.sqlite.specs.State.{State, IsLive}
use Rattle.sqlite.proofs.Callers.{one_permutation}
use Rattle.register.specs.Offices.{OfficeState, MapsAreSorted}
use Rattle.register.specs.StateConditions.{IsState}
use Rattle.register.specs.Tabulated.{TabulationEntries, tabulation_of}
use Rattle.tables.specs.declared.fault.Fault.{Fault}
use Rattle.tables.specs.declared.fault.Fault.TheVariants.{Memory, Store, Damaged, Closed, WrongDatabase, NewerSchema, OlderSchema}
use Rattle.tables.specs.declared.table.Table.{Table}
use Rattle.tables.specs.declared.table.Table.TheVariants.{Office, Ward, Candidate, Batch, Keying, Verdict, Lot, Receipt, Bundle, Vote, Third}
use Rattle.tables.specs.Schema.{BeginsTo, IsOfficeSchema, place_of}
use Rattle.tables.specs.Rows.{tuples, at, column_places, begins_with}
use Rattle.tables.specs.Contents.{SameContents, HoldsTable, RestsAt, IsOffice}
use Rattle.tables.specs.Presence.{has_table, has_every_table}
use Rattle.tables.specs.Reading.{Lists, ListsKeyed, HoldsNone}
use Rattle.store.specs.EntryRows.{this_version, office_row}
use Rattle.store.specs.StateTables.{HoldsState, tables_of, tables_with}
use Rattle.store.specs.Openings.{HasNoOffice, IsNewer, IsOlder, HoldsNoState, IsFaultOf, TellsNoState, IsVersion, FaultOfRow}
use Rattle.store.specs.Openings.{FaultOfRows, HasVersion, FaultOfOfficeTable, has_entries, ListsMaps, IsTabulatedAs, HoldsEntries}
use Rattle.store.specs.Listings.{TellsStrange}
use Rattle.tables.proofs.ListLemmas.{mapped_length}
use Rattle.tables.proofs.HoldLemmas.{lists_all, shown_rows, rows_held, held_listed}
use Rattle.tables.proofs.ListingLemmas.{begins_to}
use Rattle.store.proofs.StateLemmas.{tables_rise, maps_rise, equal_maps, tabulated_same}

-- ---- the tables read when an office is opened

-- a table is the office's, or one that contains entries
pub which_kind : (t : Table) → (t ≡ Office) ⊎ (has_entries t ≡ true)
which_kind Office = inl refl
which_kind Ward = inr refl
which_kind Candidate = inr refl
which_kind Batch = inr refl
which_kind Keying = inr refl
which_kind Verdict = inr refl
which_kind Lot = inr refl
which_kind Receipt = inr refl
which_kind Bundle = inr refl
which_kind Vote = inr refl
which_kind Third = inr refl

pub office_rows : (s : OfficeState) → tables_of s Office ≡ office_row this_version ∷ []
unfolding tables_of tables_with
office_rows s = refl

pub office_with : (s : OfficeState) (t : TabulationEntries) → tables_with s t Office ≡ office_row this_version ∷ []
unfolding tables_with
office_with s t = refl

-- ---- faults

strange_store : (n : ℕ) (db : Database) (f : Fault) → (f ≡ Memory) ⊎ (f ≡ Store) → TellsStrange n db f
strange_store n db f (inl same) = subst (TellsStrange n db) (sym same) tt
strange_store n db f (inr same) = subst (TellsStrange n db) (sym same) tt

-- no state has rows that are not a list of entries
pub told_strange : (n : ℕ) (t : Table) (IsRow : Row → Type 0) → has_entries t ≡ true → place_of t < n → ((s : OfficeState) → IsState s → AllByRecursion IsRow (tables_of s t))
    → (db : Database) (f : Fault)
    → (f ≡ Memory) ⊎ ((f ≡ Store) ⊎ ((f ≡ Damaged) × HoldsNone t IsRow db)) → TellsStrange n db f
told_strange n t IsRow has low fits db f (inl memory) = strange_store n db f (inl memory)
told_strange n t IsRow has low fits db f (inr (inl store)) = strange_store n db f (inr store)
told_strange n t IsRow has low fits db f (inr (inr none)) = subst (TellsStrange n db) (sym none.0) (t, has, low, λ s is. none.1 (tables_of s t) (fits s is) (tables_rise s is t has))

-- if one of the first `n` tables has rows that no state has, so does one of the first `m`
pub strange_more : (n m : ℕ) → n ≤ m → (db : Database) (f : Fault) → TellsStrange n db f → TellsStrange m db f
strange_more n m up db Memory told = tt
strange_more n m up db Store told = tt
strange_more n m up db Damaged told = let low = told.2 in (told.0, told.1, omega (arith, low, up), told.3)
strange_more n m up db Closed told = told
strange_more n m up db WrongDatabase told = told
strange_more n m up db NewerSchema told = told
strange_more n m up db OlderSchema told = told

-- if one of the first tables has rows that no state has, the rows don't form the tables of any state
pub strange_told : (n : ℕ) (db : Database) (f : Fault) → TellsStrange n db f → TellsNoState db f
unfolding IsOffice
strange_told n db Memory told = tt
strange_told n db Store told = tt
strange_told n db Damaged told = λ s holds. told.3 s holds.is (holds.office.holds told.0)
strange_told n db Closed told = told
strange_told n db WrongDatabase told = told
strange_told n db NewerSchema told = told
strange_told n db OlderSchema told = told

-- ---- the entries of a state

-- listed maps and a listed tabulation have the same rows as any state that the database contains
maps_same : (db : Database) (s x : OfficeState) (t : TabulationEntries) → ListsMaps db s t → HoldsState db x → SameContents (tables_of x) (tables_with s t)
unfolding IsOffice
maps_same db s x t lists holds u = elim (which_kind u) [
  | inl office ↦ subst (λ (v : Table). IsPermutation (tables_of x v) (tables_with s t v)) (sym office)
      (subst (λ l. IsPermutation l (tables_with s t Office)) (sym (office_rows x)) (subst (IsPermutation (office_row this_version ∷ [])) (sym (office_with s t)) (IsPermutation-refl _)))
  | inr has ↦ held_listed u db (tables_with s t u) (lists u has).all.lists (tables_of x u) (holds.office.holds u)
]

pub lists_rise : (db : Database) (s : OfficeState) (t : TabulationEntries) → ListsMaps db s t → MapsAreSorted s
lists_rise db s t lists = maps_rise s t (λ u has. (lists u has).rise)

-- such a state has exactly the listed maps, and the listed tabulation is that of its counts
pub maps_are : (db : Database) (s x : OfficeState) (t : TabulationEntries) → ListsMaps db s t → HoldsState db x → IsTabulatedAs s t
unfolding tables_of
maps_are db s x t lists holds =
    let contents = maps_same db s x t lists holds in
    let same : x ≡ s = equal_maps x s (tabulation_of x) t holds.is.rise (lists_rise db s t lists) contents in
    subst (λ (y : OfficeState). IsTabulatedAs y t) same (holds.is, tabulated_same s x t holds.is (λ u has. (lists u has).rise) contents)

pub entries_held : (db : Database) → IsOfficeSchema db.schema → IsDatabase db → (s : OfficeState) (t : TabulationEntries) → IsTabulatedAs s t → ListsMaps db s t → HoldsEntries db s
unfolding tables_of
entries_held db begins sound s t is lists = record {
  is = is.0;
  entries = λ u has. subst (λ (v : TabulationEntries). HoldsTable u (tables_with s v u) db.trees) is.1
      (rows_held u db (begins_to u db.schema begins) sound (tables_with s t u) (lists u has).all (lists u has).typed);
}

-- ---- empty tables

none_long : {X : Type 0} (xs : List X) → length xs ≡ 0 → xs ≡ []
none_long [] h = refl
none_long (x ∷ xs) h = absurd (omega (arith, h))

listed_length : (t : Table) (db : Database) (rows : List Row) → Lists t (begins_with []) db rows → length rows ≡ length (tuples t db.trees)
listed_length t db rows lists = length_permutation _ _ (lists_all t db rows lists) ∙ mapped_length (at (column_places t)) (tuples t db.trees)

none_listed : (t : Table) (db : Database) (rows : List Row) → Lists t (begins_with []) db rows → rows ≡ [] → tuples t db.trees ≡ []
none_listed t db rows lists none = none_long (tuples t db.trees) (sym (listed_length t db rows lists) ∙ ap length none)

some_listed : (t : Table) (db : Database) (rows : List Row) → Lists t (begins_with []) db rows → tuples t db.trees ≡ [] → rows ≡ []
some_listed t db rows lists none = none_long rows (listed_length t db rows lists ∙ ap length none)

-- ---- the row of an office

pub above_this : (version : ℤ) → pos this_version <ℤ version → (n : ℕ) × (version ≡ pos n) × (this_version < n)
above_this (pos n) above = (n, refl, omega (arith, ints, above))
above_this (negsuc n) above = absurd (omega (arith, ints, above))

abbrev pub integer_in : Value → ℤ
integer_in (Int n) = n
integer_in _ = pos 0

abbrev pub version_at : List Row → ℤ
version_at [] = pos 0
version_at (r ∷ rows) = integer_in (column r 1)

head_same : (a b : Row) → a ∷ [] ≡ b ∷ [] → a ≡ b
head_same a b same = ap first same
  where
    first : List Row → Row
    first [] = []
    first (x ∷ xs) = x

-- the columns of a row that a query on the office table returns
pub version_shown : (row : Row) (one version : ℤ) (n : ℕ) → column row 0 ≡ Int one → column row 1 ≡ Int version → one ≡ pos 1 → version ≡ pos n → IsVersion n row
version_shown row one version n first second is_one is_version = rw (first, second, is_one, is_version) refl

pub one_of : (row : Row) (n : ℕ) (one : ℤ) → IsVersion n row → column row 0 ≡ Int one → one ≡ pos 1
one_of row n one is first = ap integer_in (sym first ∙ ap (λ (r : Row). column r 0) is)

pub version_of : (row : Row) (n : ℕ) (version : ℤ) → IsVersion n row → column row 1 ≡ Int version → version ≡ pos n
version_of row n version is second = ap integer_in (sym second ∙ ap (λ (r : Row). column r 1) is)

pub one_row : (rows : List Row) (r : Row) → length rows ≡ 1 → r ≡ get_or rows 0 r → rows ≡ r ∷ []
one_row [] r len is = absurd (omega (arith, len))
one_row (x ∷ []) r len is = ap (λ y. y ∷ []) (sym is)
one_row (x ∷ y ∷ more) r len is = absurd (omega (arith, len))

pub row_told : (rows : List Row) (r : Row) → rows ≡ r ∷ [] → (f : Fault) → FaultOfRow r f → FaultOfRows rows f
row_told rows r is Memory told = tt
row_told rows r is Store told = told
row_told rows r is Damaged told = (
  (λ none. let e : r ∷ [] ≡ [] = sym is ∙ none in absurd cc),
  λ row same version some shown. told version some
      (subst (IsVersion version) (head_same row r (sym same ∙ is)) shown),
)
row_told rows r is Closed told = told
row_told rows r is WrongDatabase told = absurd told
row_told rows r is NewerSchema told = (r, is, told)
row_told rows r is OlderSchema told = (r, is, told)

pub version_held : (n : ℕ) (db : Database) → BeginsTo Office db.schema → IsDatabase db → (rows : List Row) → ListsKeyed Office db rows → (row : Row)
    → rows ≡ row ∷ [] → IsVersion n row → HasVersion n db
version_held n db begins sound rows keyed row is shown =
    let same : rows ≡ office_row n ∷ [] = sym (shown_rows Office (begins_with []) db rows keyed.lists) ∙ ap (map (at (column_places Office))) is ∙ ap (λ r. r ∷ []) shown in
    rows_held Office db begins sound (office_row n ∷ []) (subst (ListsKeyed Office db) same keyed) refl

-- the rows returned for a single office row
version_listed : (n : ℕ) (db : Database) (rows : List Row) → Lists Office (begins_with []) db rows
    → IsPermutation (office_row n ∷ []) (map (at (column_places Office)) (tuples Office db.trees)) → rows ≡ office_row n ∷ []
version_listed n db rows lists same = one_permutation (office_row n) rows (IsPermutation-trans _ _ _ same (lists_all Office db rows lists))

pub office_told : (db : Database) → BeginsTo Office db.schema → IsDatabase db → (rows : List Row) → ListsKeyed Office db rows → (f : Fault) → FaultOfRows rows f → FaultOfOfficeTable db f
office_told db begins sound rows keyed Memory told = tt
office_told db begins sound rows keyed Store told = tt
office_told db begins sound rows keyed Damaged told = (
  (λ none. told.0 (some_listed Office db rows keyed.lists none)),
  (
    (λ newer.
        let n = above_this newer.0 newer.1 in
        let tuple : tuples Office db.trees ≡ office_row n.0 ∷ [] = newer.2 ∙ ap (λ v. (Int (pos 1) ∷ Int v ∷ []) ∷ []) n.1 in
        let up = n.2 in
        told.1 (office_row n.0) (version_listed n.0 db rows keyed.lists (subst (λ l. IsPermutation (office_row n.0 ∷ []) (map (at (column_places Office)) l))
        (sym tuple) (IsPermutation-refl _))) n.0 (omega (arith, up)) refl),
    (
      (λ older. told.1 (office_row 1) (version_listed 1 db rows keyed.lists (subst (λ l. IsPermutation (office_row 1 ∷ []) (map (at (column_places Office)) l))
          (sym older) (IsPermutation-refl _))) 1 (omega arith) refl),
      (λ holds. told.1 (office_row this_version) (one_permutation (office_row this_version) rows (held_listed Office db rows keyed.lists (office_row this_version ∷ []) holds)) this_version
          (omega arith) refl),
    ),
  ),
)
office_told db begins sound rows keyed Closed told = told
office_told db begins sound rows keyed WrongDatabase told = none_listed Office db rows keyed.lists told
office_told db begins sound rows keyed NewerSchema told =
    let n = told.2.0 in
    let holds = version_held n db begins sound rows keyed told.0 told.1 told.2.2 in
    let up = told.2.1 in
    (pos n, omega (arith, ints, up), one_permutation (office_row n) (tuples Office db.trees) holds.same)
office_told db begins sound rows keyed OlderSchema told = version_held 1 db begins sound rows keyed told.0 told.1 told.2

-- ---- a whole opening

-- an office of this version has an office row, and is neither newer nor older
pub this_office : (db : Database) → has_table Office db.schema ≡ true → HasVersion this_version db → (¬ HasNoOffice db) × (¬ IsNewer db) × (¬ IsOlder db)
this_office db there holds =
    let tuple : tuples Office db.trees ≡ office_row this_version ∷ [] = one_permutation (office_row this_version) (tuples Office db.trees) holds.same in (
      (λ none. elim none [
        | inl missing ↦ true≢false (sym there ∙ missing)
        | inr empty ↦ let e : office_row this_version ∷ [] ≡ [] = sym tuple ∙ empty in absurd cc
      ]),
      (λ newer. let up = newer.1 in let same : newer.0 ≡ pos this_version = ap version_at (sym newer.2 ∙ tuple) in omega (arith, ints, up, same)),
      (λ older. let same : pos 1 ≡ pos this_version = ap version_at (sym older ∙ tuple) in omega (arith, ints, same)),
    )

pub all_there : (s : Schema) → IsOfficeSchema s → has_every_table s ≡ true
unfolding same_name
all_there s h = subst (λ (x : Schema). has_every_table x ≡ true) (sym h.is) refl

pub missing_damaged : (db : Database) → has_every_table db.schema ≡ false → HoldsNoState db
unfolding IsOffice
missing_damaged db missing s holds = true≢false (sym (all_there db.schema holds.office.begins) ∙ missing)

pub office_damaged : (db : Database) → ¬ HasVersion this_version db → HoldsNoState db
unfolding IsOffice
office_damaged db wrong s holds = wrong (subst (λ rows. HoldsTable Office rows db.trees) (office_rows s) (holds.office.holds Office))

pub state_held : (db : Database) → IsOfficeSchema db.schema → IsDatabase db → HasVersion this_version db → (s : OfficeState) → HoldsEntries db s → HoldsState db s
unfolding IsOffice
state_held db begins sound office s entries = record { is = entries.is; office = record { begins = begins; sound = sound; holds = each } }
  where
    each : (t : Table) → HoldsTable t (tables_of s t) db.trees
    each t = elim (which_kind t) [
      | inl same ↦ subst (λ (u : Table). HoldsTable u (tables_of s u) db.trees) (sym same) (subst (λ rows. HoldsTable Office rows db.trees) (sym (office_rows s)) office)
      | inr has ↦ entries.entries t has
    ]

-- a database that contains a state has the office row of this version
pub state_version : (db : Database) (s : OfficeState) → HoldsState db s → HasVersion this_version db
unfolding IsOffice
state_version db s holds = subst (λ rows. HoldsTable Office rows db.trees) (office_rows s) (holds.office.holds Office)

-- the faults reported by an opening, from those of its parts
pub told_office : (db : Database) → has_table Office db.schema ≡ true → (f : Fault) → FaultOfOfficeTable db f → IsFaultOf db f
told_office db there Memory told = tt
told_office db there Store told = tt
told_office db there Damaged told = record {
  some_office = λ none. elim none [ inl missing ↦ true≢false (sym there ∙ missing) | inr empty ↦ told.0 empty ];
  not_newer = told.1.0;
  not_older = told.1.1.0;
  no_state = office_damaged db told.1.1.1;
}
told_office db there Closed told = told
told_office db there WrongDatabase told = inr told
told_office db there NewerSchema told = told
told_office db there OlderSchema told = (
  (λ none. elim none [
    | inl missing ↦ true≢false (sym there ∙ missing)
    | inr empty ↦ let e : office_row 1 ∷ []
        ≡ [] = sym (one_permutation (office_row 1) (tuples Office db.trees) told.same) ∙ empty in absurd cc
  ]),
  told,
)

pub told_tables : (db : Database) → has_table Office db.schema ≡ true → HasVersion this_version db → (f : Fault) → TellsNoState db f → IsFaultOf db f
told_tables db there office Memory told = tt
told_tables db there office Store told = tt
told_tables db there office Damaged told = let all = this_office db there office in record { some_office = all.0; not_newer = all.1; not_older = all.2; no_state = told }
told_tables db there office Closed told = told
told_tables db there office WrongDatabase told = absurd told
told_tables db there office NewerSchema told = absurd told
told_tables db there office OlderSchema told = absurd told

pub store_office : (db : Database) (f : Fault) → (f ≡ Memory) ⊎ (f ≡ Store) → FaultOfOfficeTable db f
store_office db f (inl same) = subst (FaultOfOfficeTable db) (sym same) tt
store_office db f (inr same) = subst (FaultOfOfficeTable db) (sym same) tt

-- neither a failed allocation nor a failed store is reported as `OlderSchema`
pub never_older : {X : Type 0} (f : Fault) → (f ≡ Memory) ⊎ (f ≡ Store) → f ≡ OlderSchema → X
never_older f (inl memory) same = absurd cc
never_older f (inr store) same = absurd cc

-- ---- what a connection returns about the database at which it rests

pub answered : (p : Schema → Bool) (db : Database) (s : State) → RestsAt db s → (b r : Bool) → b ≡ p s.now.schema → b ≡ r → p db.schema ≡ r
answered p db s rests b r is same = subst (λ (d : Database). p d.schema ≡ b) rests.now (sym is) ∙ same

pub sound_at : (db : Database) (s : State) → RestsAt db s → IsLive s → IsDatabase db
sound_at db s rests live = subst IsDatabase rests.now (live rests.is_open).0
