-- Why a query on a table fails: an allocation failed, or the store failed.
use Rattle.std.proofs.Common.{◌≡◌, ◌≢◌, ◌⊎◌, inl, inr, ℕ, ◌+◌, ◌≤◌, List, [], ◌∷◌, length, append-nil, Bool, true, false, Ok, Err, Result, IfErr, IsTrue, zero, suc, ℤ, ◌&&◌, refl, sym, ap}
use Rattle.std.proofs.Common.{subst, ◌∙◌, arith, true≢false}
use Rattle.sqlite_trees.specs.declared.error.StoreError.{StoreError}
use Rattle.sqlite_trees.specs.declared.error.StoreError.TheVariants.{OutOfMemory, Io, Corrupt, Full, Broken, Unstorable}
use Rattle.sqlite_resolve.specs.declared.compiled.Compiled.{Compiled}
use Rattle.sqlite_resolve.specs.declared.error.CompileError.{CompileError}
use Rattle.sqlite_schema.specs.declared.schema.Index.{Index}
use Rattle.sqlite_schema.specs.declared.schema.View.{View}
use Rattle.sqlite_sql.specs.declared.ops.BinaryOp.TheVariants.{Compare}
use Rattle.sqlite_sql.specs.declared.ops.CompareOp.TheVariants.{Eq}
use Rattle.sqlite_typing.specs.Types.{accepts_program}
use Rattle.sqlite.specs.declared.types.Value.{Value}
use Rattle.sqlite.specs.declared.types.Value.TheVariants.{Int, Text, Blob}
use Rattle.sqlite.specs.declared.error.Error.{Error}
use Rattle.sqlite.specs.declared.error.Error.TheVariants.{SqliteFailure, InvalidParameterCount, MultipleStatement}
use Rattle.sqlite.specs.Kind.TheVariants.{Integer, Text as Words, Blob as Bytes}
use Rattle.sqlite.specs.Collation.TheVariants.{Binary}
use Rattle.sqlite.specs.declared.error.ErrorCode.TheVariants as code
use Rattle.sqlite.specs.Order.{Row}
use Rattle.sqlite.specs.Schema.{Schema}
use Rattle.sqlite.specs.Term.{Term, col, op2}
use Rattle.sqlite.specs.Command.TheVariants.{Select}
use Rattle.sqlite.specs.Effect.{Database, RefusesToRead}
use Rattle.sqlite.specs.Listing.{understood, reads_listing, IsSourceOf}
use Rattle.sqlite.specs.State.{State, HasCleanDisk, HasCause, IsNotRun, IsNoStatement, FailsToQuery, store_error}
use Rattle.sqlite.proofs.Callers.{IsPlain, command_of}
use Rattle.sqlite_value.specs.declared.keys.Key.{Key}
use Rattle.sqlite_value.specs.Keys.{ascending}
use Rattle.tables.specs.declared.fault.Fault.{Fault}
use Rattle.tables.specs.declared.fault.Fault.TheVariants.{Memory, Store}
use Rattle.tables.specs.Faults.{fault_of, TellsQuery}
use Rattle.tables.specs.Reading.{OnlyReads, HasFailed, FailsBy, FailsToList}
use Rattle.tables.specs.declared.table.Table.{Table}
use Rattle.tables.specs.declared.table.Table.TheVariants.{Office, Ward, Candidate, Batch, Keying, Verdict, Lot, Receipt, Bundle, Vote, Third}
use Rattle.tables.specs.declared.table.Reference.{Reference}
use Rattle.tables.specs.declared.table.Reference.TheVariants.{WardOfBatch}
use Rattle.tables.specs.Texts.{scan_text, select_text, select_by_reference_text, select_rowids_text}
use Rattle.tables.specs.Schema.{Definition, schema_from, place_of, places_from, tree_of, shape, columns_of, table_sought, place_sought, changes_rows, BeginsTo}
use Rattle.tables.specs.Contents.{Contents, RestsAt, Rests, RestsIfOpen}
use Rattle.tables.specs.Rows.{is_of, begins_key}
use Rattle.tables.proofs.FaultLemmas.{query_cause}
use Rattle.tables.proofs.ListingLemmas.{begins_to, office_of}
use Rattle.tables.proofs.ListLemmas.{mapped_length}
use Rattle.tables.proofs.Queries.{scans, selects, selects_by_reference, selects_rowids}
use Rattle.tables.proofs.SelectLemmas.{query, IsSelect, tail_of, asked_of, tests_from, columns_from, ordered_from}

-- ---- one read after another

pub failed_sooner : (a b c : State) → b.faults ≤ c.faults → HasFailed a b → HasFailed a c
failed_sooner a b c counts (inl more) = inl (omega (arith, counts, more))
failed_sooner a b c counts (inr before) = inr before

pub failed_later : (a b c : State) → OnlyReads a b → HasCleanDisk b → b.faults ≤ c.faults → HasFailed b c → HasFailed a c
failed_later a b c first clean counts (inl more) = let low = first.counts in inl (omega (arith, low, more))
failed_later a b c first clean counts (inr (inr limit)) = inr (inr (rw first.limit at limit))
failed_later a b c first clean counts (inr (inl shut)) = go a.is_open refl
  where
    go : (was : Bool) → a.is_open ≡ was → HasFailed a c
    go false is = inr (inl is)
    go true is = elim (first.closes clean is) [
      | inl still ↦ absurd (true≢false (sym still ∙ shut))
      | inr more ↦ inl (omega (arith, counts, more))
    ]

pub fails_sooner : (a b c : State) (f : Fault) → b.faults ≤ c.faults → FailsBy a b f → FailsBy a c f
fails_sooner a b c f counts (inl memory) = inl memory
fails_sooner a b c f counts (inr store) = inr (store.0, failed_sooner a b c counts store.1)

-- a read that follows another fails
pub fails_later : (a b c : State) (f : Fault) → OnlyReads a b → OnlyReads b c → HasCleanDisk c → FailsBy b c f → FailsBy a c f
fails_later a b c f first second clean (inl memory) = inl memory
fails_later a b c f first second clean (inr store) = inr (store.0, failed_later a b c first (second.clean clean) second.counts store.1)

-- if a read reports a fault of the store, the store failed
pub failed_by : (old new : State) (f : Fault) → FailsBy old new f → f ≡ Store → HasFailed old new
failed_by old new f (inl memory) store = absurd (let no : Memory ≡ Store = sym memory ∙ store in cc)
failed_by old new f (inr failed) store = failed.1

-- the same statement for a read that lists rows
pub if_fails_to_list : {X : Type 0} (db : Database) (old new : State) (r : Result X Fault) → IfErr r (FailsBy old new) → IfErr r (FailsToList db old new)
if_fails_to_list db old new (Ok x) fails = tt
if_fails_to_list db old new (Err f) fails = λ store. inl (failed_by old new f fails store)

-- a listing that follows a read fails
pub lists_later : (db : Database) (a b c : State) (f : Fault) → OnlyReads a b → OnlyReads b c → HasCleanDisk c → FailsToList db b c f → FailsToList db a c f
lists_later db a b c f first second clean fails store = elim (fails store) [
  | inl failed ↦ inl (failed_later a b c first (second.clean clean) second.counts failed)
  | inr shared ↦ inr shared
]

-- ---- one query

store_fails : (old new : State) (cause : StoreError) → HasCause old new ⊥ cause → FailsBy old new (fault_of (store_error cause))
store_fails old new OutOfMemory h = inl refl
store_fails old new Io h = inr (refl, inl h)
store_fails old new Corrupt h = inr (refl, inl h)
store_fails old new Full h = inr (refl, inl h)
store_fails old new Broken h = inr (refl, inr (inl h))
store_fails old new Unstorable h = absurd h

-- the text of a query is a single statement, and all its parameters are given
stated : (sql : List ℕ) (params : Row) (old : State) (r : Result Compiled CompileError) (e : Error) → understood old.now.schema sql ≡ r → IsPlain r → tail_of r ≡ length sql
    → asked_of r ≡ length params → ¬ IsNoStatement old sql params e
stated sql params old (Err fault) e is plain whole given wrong = plain
stated sql params old (Ok c) e is plain whole given (inl wrong) = let no : ◌≡◌ {A = Result Compiled CompileError} (Ok c) (Err wrong.0) = sym is ∙ wrong.1 in cc
stated sql params old (Ok c) e is plain whole given (inr h) = go h.0 (same_ok (sym is ∙ h.1)) h.2
  where
    same_ok : {a b : Compiled} → ◌≡◌ {A = Result Compiled CompileError} (Ok a) (Ok b) → a ≡ b
    same_ok same = cc

    go : (d : Compiled) → c ≡ d → (((¬ (length sql ≤ d.tail)) × (e ≡ MultipleStatement))
        ⊎ (((length params ≢ length d.names) × (e ≡ InvalidParameterCount (length params) (length d.names))) ⊎ ((d.formats ≢ []) × (e ≡ SqliteFailure code.NoClock)))) → ⊥
    go d same (inl long) = long.0 (let at = ap (λ (x : Compiled). x.tail) same in omega (arith, at, whole))
    go d same (inr (inl few)) = few.0 (sym given ∙ ap (λ (x : Compiled). length x.names) same)
    go d same (inr (inr slow)) = slow.0 (ap (λ (x : Compiled). x.formats) (sym same) ∙ plain.1)

module _ (schema : Schema) (sql : List ℕ) (tree : ℕ) (tests project : List Term) (order : List (Term × Key)) (names : List (List ℕ)) (it : IsSelect schema sql tree tests project order names)
    (params : Row) (given : length tests ≡ length params) (accepted : accepts_program schema [] (query tree tests project order) params ≡ true)
  where
    read_fails : (old new : State) (db : Database) → db.schema ≡ schema → (e : Error)
        → RefusesToRead old.step_limit (Select (record { lets = []; body = query tree tests project order }) names) db params e → FailsBy old new (fault_of e)
    read_fails old new db has e (inl wrong) = absurd (true≢false (sym accepted ∙ (rw has at wrong.1)))
    read_fails old new db has e (inr (inl over)) = absurd (elim over.1 [ inl none ↦ none | inr some ↦ some.4 ])
    read_fails old new db has e (inr (inr cut)) = rw cut.0 (inr (refl, inr (inr cut.1)))

    pub query_fails : (old new : State) (e : Error) → old.now.schema ≡ schema → FailsToQuery sql params old new e → FailsBy old new (fault_of e)
    unfolding FailsToQuery IsNotRun
    query_fails old new e has (inl (inl wrong)) =
        absurd (stated sql params old (understood schema sql) e (ap (λ s. understood s sql) has) it.plain it.whole (it.given ∙ given) wrong.0)
    query_fails old new e has (inl (inr fails)) = rw fails.1 (store_fails old new fails.0 fails.2)
    query_fails old new e has (inr h) =
        let known : Ok h.0 ≡ understood schema sql = sym h.1.is ∙ ap (λ s. understood s sql) has in
        let bare = subst IsPlain (sym known) it.plain in
        let told = rw (bare.0, bare.1, append-nil params) at h.2 in
        let same : told.0 ≡ old.now = subst (λ b. IsSourceOf b old.now told.0) (ap (λ s. reads_listing s sql) has ∙ it.unlisted) told.1 in
        read_fails old new told.0 (ap (λ (d : Database). d.schema) same ∙ has) e (subst (λ k. RefusesToRead old.step_limit k told.0 params e) (ap command_of known ∙ it.is) told.2)

    pub if_fails : {X : Type 0} (old new : State) (r : Result X Fault) → HasCleanDisk new → old.now.schema ≡ schema → IfErr r (TellsQuery sql params old new) → IfErr r (FailsBy old new)
    if_fails old new (Ok x) clean has tells = tt
    if_fails old new (Err f) clean has tells = subst (FailsBy old new) (sym tells.1) (query_fails old new tells.0 has (tells.2 clean))

-- a query on a connection that was already closed fails for that reason
pub either_way : (sql : List ℕ) (params : Row) (old new : State) (f : Fault) → TellsQuery sql params old new f → (IsTrue old.is_open → FailsBy old new f) → FailsBy old new f
either_way sql params old new f tells fails = go old.is_open refl
  where
    go : (is_open : Bool) → old.is_open ≡ is_open → FailsBy old new f
    go true is = fails is
    go false is = elim (query_cause sql params old new f tells) [ inl memory ↦ inl memory | inr store ↦ inr (store, inr (inl is)) ]

-- ---- the parameters have the correct kinds

pub places_length : (k n : ℕ) → length (tests_from k n) ≡ n
places_length k n = mapped_length _ (places_from k n) ∙ counted k n
  where
    counted : (j m : ℕ) → length (places_from j m) ≡ m
    counted j zero = refl
    counted j (suc m) = ap suc (counted (suc j) m)

-- a value that is an integer, a text, or bytes
pub number_in : (v : Value) (more : Bool) → is_of Integer v && more ≡ true → (n : ℤ) × (v ≡ Int n)
number_in (Int n) more h = (n, refl)
number_in _ more h = absurd (true≢false (sym h))

pub text_in : (v : Value) (more : Bool) → is_of Words v && more ≡ true → (t : List ℕ) × (v ≡ Text t)
text_in (Text t) more h = (t, refl)
text_in _ more h = absurd (true≢false (sym h))

pub bytes_in : (v : Value) (more : Bool) → is_of Bytes v && more ≡ true → (b : List ℕ) × (v ≡ Blob b)
bytes_in (Blob b) more h = (b, refl)
bytes_in _ more h = absurd (true≢false (sym h))

pub behind : (v : Value) (more : Bool) → is_of Integer v && more ≡ true → more ≡ true
behind (Int n) more h = h
behind _ more h = absurd (true≢false (sym h))

-- a query for the rows with a given key prefix is accepted if its values have the columns' kinds
abbrev Accepts : Table → Row → Type 0
Accepts t key =
    (rest : List Definition) (others : List Index) (views : List View)
    → accepts_program (schema_from (1 + place_of t) rest others views) []
    (query (tree_of t) (tests_from 0 (length key)) (columns_from 0 (length (columns_of t))) (ordered_from 0 (shape t).key)) key ≡ true

pub accepts : (t : Table) (key : Row) → begins_key t key ≡ true → length key ≤ (shape t).key → Accepts t key
accepts Office [] kinds low rest others views = refl
accepts Office (a ∷ []) kinds low rest others views = rw (number_in a _ kinds).1 refl
accepts Office (a ∷ b ∷ more) kinds low rest others views = absurd (omega (arith, low))
accepts Ward [] kinds low rest others views = refl
accepts Ward (a ∷ []) kinds low rest others views = rw (number_in a _ kinds).1 refl
accepts Ward (a ∷ b ∷ more) kinds low rest others views = absurd (omega (arith, low))
accepts Candidate [] kinds low rest others views = refl
accepts Candidate (a ∷ []) kinds low rest others views = rw (number_in a _ kinds).1 refl
accepts Candidate (a ∷ b ∷ []) kinds low rest others views =
    let after_a = behind a _ kinds in
    rw ((number_in a _ kinds).1, (number_in b _ after_a).1) refl
accepts Candidate (a ∷ b ∷ c ∷ more) kinds low rest others views = absurd (omega (arith, low))
accepts Batch [] kinds low rest others views = refl
accepts Batch (a ∷ []) kinds low rest others views = rw (number_in a _ kinds).1 refl
accepts Batch (a ∷ b ∷ more) kinds low rest others views = absurd (omega (arith, low))
accepts Keying [] kinds low rest others views = refl
accepts Keying (a ∷ []) kinds low rest others views = rw (number_in a _ kinds).1 refl
accepts Keying (a ∷ b ∷ []) kinds low rest others views =
    let after_a = behind a _ kinds in
    rw ((number_in a _ kinds).1, (number_in b _ after_a).1) refl
accepts Keying (a ∷ b ∷ c ∷ []) kinds low rest others views =
    let after_a = behind a _ kinds in
    let after_b = behind b _ after_a in
    rw ((number_in a _ kinds).1, (number_in b _ after_a).1, (number_in c _ after_b).1) refl
accepts Keying (a ∷ b ∷ c ∷ d ∷ []) kinds low rest others views =
    let after_a = behind a _ kinds in
    let after_b = behind b _ after_a in
    let after_c = behind c _ after_b in
    rw ((number_in a _ kinds).1, (number_in b _ after_a).1, (number_in c _ after_b).1, (number_in d _ after_c).1) refl
accepts Keying (a ∷ b ∷ c ∷ d ∷ e ∷ more) kinds low rest others views = absurd (omega (arith, low))
accepts Verdict [] kinds low rest others views = refl
accepts Verdict (a ∷ []) kinds low rest others views = rw (number_in a _ kinds).1 refl
accepts Verdict (a ∷ b ∷ []) kinds low rest others views =
    let after_a = behind a _ kinds in
    rw ((number_in a _ kinds).1, (number_in b _ after_a).1) refl
accepts Verdict (a ∷ b ∷ c ∷ more) kinds low rest others views = absurd (omega (arith, low))
accepts Lot [] kinds low rest others views = refl
accepts Lot (a ∷ []) kinds low rest others views = rw (number_in a _ kinds).1 refl
accepts Lot (a ∷ b ∷ []) kinds low rest others views =
    let after_a = behind a _ kinds in
    rw ((number_in a _ kinds).1, (number_in b _ after_a).1) refl
accepts Lot (a ∷ b ∷ c ∷ more) kinds low rest others views = absurd (omega (arith, low))
accepts Receipt [] kinds low rest others views = refl
accepts Receipt (a ∷ []) kinds low rest others views = rw (number_in a _ kinds).1 refl
accepts Receipt (a ∷ b ∷ []) kinds low rest others views =
    let after_a = behind a _ kinds in
    rw ((number_in a _ kinds).1, (text_in b _ after_a).1) refl
accepts Receipt (a ∷ b ∷ c ∷ more) kinds low rest others views = absurd (omega (arith, low))
accepts Bundle [] kinds low rest others views = refl
accepts Bundle (a ∷ []) kinds low rest others views = rw (number_in a _ kinds).1 refl
accepts Bundle (a ∷ b ∷ []) kinds low rest others views =
    let after_a = behind a _ kinds in
    rw ((number_in a _ kinds).1, (bytes_in b _ after_a).1) refl
accepts Bundle (a ∷ b ∷ c ∷ more) kinds low rest others views = absurd (omega (arith, low))
accepts Vote [] kinds low rest others views = refl
accepts Vote (a ∷ []) kinds low rest others views = rw (number_in a _ kinds).1 refl
accepts Vote (a ∷ b ∷ []) kinds low rest others views =
    let after_a = behind a _ kinds in
    rw ((number_in a _ kinds).1, (number_in b _ after_a).1) refl
accepts Vote (a ∷ b ∷ c ∷ []) kinds low rest others views =
    let after_a = behind a _ kinds in
    let after_b = behind b _ after_a in
    rw ((number_in a _ kinds).1, (number_in b _ after_a).1, (number_in c _ after_b).1) refl
accepts Vote (a ∷ b ∷ c ∷ d ∷ more) kinds low rest others views = absurd (omega (arith, low))
accepts Third [] kinds low rest others views = refl
accepts Third (a ∷ []) kinds low rest others views = rw (number_in a _ kinds).1 refl
accepts Third (a ∷ b ∷ more) kinds low rest others views = absurd (omega (arith, low))

-- a query for the rows with a given number in the column that refers to another table is accepted
pub accepts_reference : (r : Reference) (value : Value) → is_of Integer value ≡ true → (rest : List Definition) (others : List Index) (views : List View)
    → accepts_program (schema_from (1 + place_of (table_sought r)) rest others views) []
    (query (tree_of (table_sought r)) (op2 (Compare Eq Binary) (col 1 (suc (place_sought r))) (col 0 0) ∷ []) (columns_from 0 (length (columns_of (table_sought r))))
    (ordered_from 0 (shape (table_sought r)).key)) (value ∷ []) ≡ true
accepts_reference WardOfBatch (Int n) kind rest others views = refl
accepts_reference WardOfBatch _ kind rest others views = absurd (true≢false (sym kind))

-- a query for the rowids is accepted
accepts_rowids : (t : Table) → changes_rows t ≡ true → (rest : List Definition) (others : List Index) (views : List View)
    → accepts_program (schema_from (1 + place_of t) rest others views) [] (query (tree_of t) [] (col 1 0 ∷ []) ((col 1 0, ascending Binary) ∷ [])) [] ≡ true
accepts_rowids Keying changes rest others views = absurd (true≢false (sym changes))
accepts_rowids Verdict changes rest others views = absurd (true≢false (sym changes))
accepts_rowids Lot changes rest others views = absurd (true≢false (sym changes))
accepts_rowids Receipt changes rest others views = absurd (true≢false (sym changes))
accepts_rowids Vote changes rest others views = absurd (true≢false (sym changes))
accepts_rowids Third changes rest others views = absurd (true≢false (sym changes))
accepts_rowids t changes rest others views = refl

-- a query for all rows is accepted
accepts_scan : (t : Table) → (rest : List Definition) (others : List Index) (views : List View)
    → accepts_program (schema_from (1 + place_of t) rest others views) [] (query (tree_of t) [] (columns_from 0 (length (columns_of t))) []) [] ≡ true
accepts_scan Office rest others views = refl
accepts_scan t rest others views = refl

-- ---- the queries of a table

-- the query for all rows, under a schema that begins with the tables up to the given one
pub all_fails : {X : Type 0} (t : Table) (db : Database) → BeginsTo t db.schema → (old new : State) (r : Result X Fault) → HasCleanDisk new → RestsAt db old
    → IfErr r (TellsQuery (scan_text t) [] old new) → IfErr r (FailsBy old new)
all_fails t db begins old new r clean rests tells =
    if_fails (schema_from (1 + place_of t) begins.rest begins.others begins.views) (scan_text t) (tree_of t) _ _ _ _
    ((scans t).select begins.rest begins.others begins.views) [] refl
    (accepts_scan t begins.rest begins.others begins.views) old new r clean (ap (λ (d : Database). d.schema) rests.now ∙ begins.is) tells

-- the query for the rowids of a table whose rows change
pub rowids_fail : (t : Table) → changes_rows t ≡ true → (db : Database) → BeginsTo t db.schema → (old new : State) (f : Fault) → HasCleanDisk new → RestsAt db old
    → TellsQuery (select_rowids_text t) [] old new f → FailsBy old new f
rowids_fail t changes db begins old new f clean rests tells =
    if_fails (schema_from (1 + place_of t) begins.rest begins.others begins.views) (select_rowids_text t) (tree_of t) _ _ _ _
    ((selects_rowids t changes).select begins.rest begins.others begins.views) [] refl
    (accepts_rowids t changes begins.rest begins.others begins.views) {X = ℕ} old new (Err f) clean (ap (λ (d : Database). d.schema) rests.now ∙ begins.is) tells

-- the schema of an office, as a connection sees it if it is open
pub begun : (t : Table) (c : Contents) (s : State) → (IsTrue s.is_open → Rests c s) → IsTrue s.is_open → BeginsTo t s.now.schema
begun t c s at is_open = begins_to t s.now.schema (office_of c s (at is_open)).begins

-- the query for the rows whose key begins with the given values
pub key_fails : {X : Type 0} (t : Table) (n : ℕ) (key : Row) → length key ≡ n → n ≤ (shape t).key → begins_key t key ≡ true → (c : Contents) (old new : State) (r : Result X Fault)
    → HasCleanDisk new → RestsIfOpen c old → IfErr r (TellsQuery (select_text t n) key old new) → IfErr r (FailsBy old new)
key_fails t n key many low kinds c old new (Ok x) clean at tells = tt
key_fails {X} t n key many low kinds c old new (Err f) clean at tells =
    either_way (select_text t n) key old new f tells (λ is_open.
    let begins = begun t c old at is_open in
    let schema = schema_from (1 + place_of t) begins.rest begins.others begins.views in
    let asked = λ (m : ℕ). accepts_program schema [] (query (tree_of t) (tests_from 0 m) (columns_from 0 (length (columns_of t))) (ordered_from 0 (shape t).key)) key ≡ true in
    if_fails schema (select_text t n) (tree_of t) _ _ _ _ ((selects t n low).select begins.rest begins.others begins.views) key (places_length 0 n ∙ sym many)
    (subst asked many (accepts t key kinds (omega (arith, many, low)) begins.rest begins.others begins.views)) {X = X} old new (Err f) clean begins.is tells)

-- the query for the rows with a given value in the column that refers to another table
pub reference_fails : {X : Type 0} (k : Reference) (value : Value) → is_of Integer value ≡ true → (c : Contents) (old new : State) (r : Result X Fault)
    → HasCleanDisk new → RestsIfOpen c old → IfErr r (TellsQuery (select_by_reference_text k) (value ∷ []) old new) → IfErr r (FailsBy old new)
reference_fails k value kind c old new (Ok x) clean at tells = tt
reference_fails {X} k value kind c old new (Err f) clean at tells =
    either_way (select_by_reference_text k) (value ∷ []) old new f tells (λ is_open.
    let t = table_sought k in
    let begins = begun t c old at is_open in
    let schema = schema_from (1 + place_of t) begins.rest begins.others begins.views in
    if_fails schema (select_by_reference_text k) (tree_of t) _ _ _ _ ((selects_by_reference k).select begins.rest begins.others begins.views) (value ∷ []) refl
    (accepts_reference k value kind begins.rest begins.others begins.views) {X = X} old new (Err f) clean begins.is tells)
