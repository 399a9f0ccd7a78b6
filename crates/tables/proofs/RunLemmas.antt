-- What the queries by rowid return, and why they fail.
use Rattle.std.proofs.Common.{◌≡◌, ℤ, ◌+◌, List, [], ◌∷◌, map, filter, drop, length, true, Option, Some, None, IfSome, Ok, Err, Result, IfOk, IfErr, refl, sym, ap, subst, ◌∙◌}
use Rattle.std.specs.List.{AllByRecursion, list_all}
use Rattle.std.specs.List.Sorted.{IsPermutation}
use Rattle.std.proofs.lemmas.List.Sorted.{IsPermutation-sym, IsPermutation-map}
use Rattle.std.proofs.Math.Bool.{and-true}
use Rattle.sqlite_rules.specs.Lists.{Has}
use Rattle.sqlite_rules.proofs.ListLemmas.{all_has, has_filtered}
use Rattle.sqlite.specs.declared.types.Value.TheVariants.{Int}
use Rattle.sqlite.specs.Order.{Row}
use Rattle.sqlite.specs.Term.{holds}
use Rattle.sqlite.specs.Tree.{rowid}
use Rattle.sqlite.specs.Effect.{Database}
use Rattle.sqlite.specs.State.{State, HasCleanDisk, Shown}
use Rattle.tables.specs.declared.table.Table.{Table}
use Rattle.tables.specs.declared.fault.Fault.{Fault}
use Rattle.tables.specs.Texts.{select_rowid_text, select_between_text}
use Rattle.tables.specs.Schema.{BeginsTo, schema_from, places_from, place_of, tree_of, shape, columns_of}
use Rattle.tables.specs.Rows.{at, agree_at, begins_key, begins_with, column_places, tuples}
use Rattle.tables.specs.Contents.{Contents, RestsAt, Rests, RestsIfOpen}
use Rattle.tables.specs.Reading.{FailsBy, HasInvalidRow, alone}
use Rattle.tables.specs.RowidRanges.{lies_between, run_of, StandsAt}
use Rattle.tables.specs.Faults.{TellsQuery}
use Rattle.tables.proofs.ListLemmas.{mapped_has, has_mapped, mapped_same, mapped_twice, mapped_itself, permuted_has, all_from, has_at}
use Rattle.tables.proofs.SelectLemmas.{reads_rows, shows_columns, tests_agree}
use Rattle.tables.proofs.ListingLemmas.{office_of}
use Rattle.tables.proofs.QueriedRowsLemmas.{itself}
use Rattle.tables.proofs.CauseLemmas.{if_fails, begun, either_way, places_length}
use Rattle.tables.proofs.RunQueries.{selects_rowid, accepts_rowid, between_tests, selects_between, accepts_between}

-- ---- the rowid of the row with a given key

-- the rows returned are rowids of rows with the given key
pub rowid_shown : (t : Table) (key : Row) → length key ≡ (shape t).key → (db : Database) → BeginsTo t db.schema → (old new : State) (rows : List Row)
    → RestsAt db old → Shown (select_rowid_text t) key old new rows
    → IsPermutation (map alone (filter (λ r. begins_with key (drop 1 r)) (db.trees (tree_of t)))) rows
rowid_shown t key many db begins old new rows rests shown =
    let has : old.now.schema ≡ schema_from (1 + place_of t) begins.rest begins.others begins.views = ap (λ (d : Database). d.schema) rests.now ∙ begins.is in
    let got = reads_rows (schema_from (1 + place_of t) begins.rest begins.others begins.views) (select_rowid_text t) (tree_of t) _ _ _ _
    ((selects_rowid t).select begins.rest begins.others begins.views)
    (λ r. r) key (λ r. begins_with key (drop 1 r)) (λ _. []) alone (λ r. tests_agree 0 (shape t).key key r ∙ ap (λ m. agree_at (places_from 0 m) (drop 1 r) key) (sym many))
    (λ r. refl) (λ r. refl) old new rows has shown in
    subst (λ (d : Database). IsPermutation (map alone (filter (λ r. begins_with key (drop 1 r)) (d.trees (tree_of t)))) rows) rests.now
    (subst (IsPermutation (map alone (filter (λ r. begins_with key (drop 1 r)) (old.now.trees (tree_of t))))) (sym got.shown)
    (subst (λ l. IsPermutation (map alone (filter (λ r. begins_with key (drop 1 r)) l)) (map alone got.ordered)) (mapped_itself (old.now.trees (tree_of t))) (IsPermutation-map alone _ _ got.same)))

pub if_rowid_shown : {X F : Type 0} (t : Table) (key : Row) → length key ≡ (shape t).key → (db : Database) → BeginsTo t db.schema
    → (old new : State) (rows : X → List Row) (r : Result X F) → RestsAt db old
    → IfOk r (λ x. Shown (select_rowid_text t) key old new (rows x)) → IfOk r (λ x. IsPermutation (map alone (filter (λ r. begins_with key (drop 1 r)) (db.trees (tree_of t)))) (rows x))
if_rowid_shown t key many db begins old new rows (Ok x) rests shown = rowid_shown t key many db begins old new (rows x) rests shown
if_rowid_shown t key many db begins old new rows (Err e) rests shown = tt

-- the rowid in a returned row is that of a row with the given key
pub stands_at : (t : Table) (key : Row) (db : Database) (rows : List Row) (row : Row) (id : ℤ) → IsPermutation (map alone (filter (λ r. begins_with key (drop 1 r)) (db.trees (tree_of t)))) rows
    → Has rows row → rowid row ≡ Int id → StandsAt t key db.trees id
stands_at t key db rows row id same there is =
    let kept = filter (λ r. begins_with key (drop 1 r)) (db.trees (tree_of t)) in
    let it = has_mapped alone kept row (permuted_has row rows (map alone kept) (IsPermutation-sym _ _ same) there) in
    let both = has_filtered (λ r. begins_with key (drop 1 r)) (db.trees (tree_of t)) it.0 it.1 in
    (it.0, both.0, ap rowid (sym it.2) ∙ is, both.1)

pub if_stands_at : (t : Table) (key : Row) (db : Database) (rows : List Row) (found : Option ℤ) → IsPermutation (map alone (filter (λ r. begins_with key (drop 1 r)) (db.trees (tree_of t)))) rows
    → IfSome found (λ n. (row : Row) × Has rows row × (rowid row ≡ Int n)) → IfSome found (StandsAt t key db.trees)
if_stands_at t key db rows None same there = tt
if_stands_at t key db rows (Some n) same there = stands_at t key db rows there.0 n same there.1 there.2

pub rowid_fails : {X : Type 0} (t : Table) (key : Row) → length key ≡ (shape t).key → begins_key t key ≡ true → (c : Contents) (old new : State) (r : Result X Fault)
    → HasCleanDisk new → RestsIfOpen c old → IfErr r (TellsQuery (select_rowid_text t) key old new) → IfErr r (FailsBy old new)
rowid_fails t key many kinds c old new (Ok x) clean at tells = tt
rowid_fails {X} t key many kinds c old new (Err f) clean at tells =
    either_way (select_rowid_text t) key old new f tells (λ is_open.
    let begins = begun t c old at is_open in
    let schema = schema_from (1 + place_of t) begins.rest begins.others begins.views in
    if_fails schema (select_rowid_text t) (tree_of t) _ _ _ _ ((selects_rowid t).select begins.rest begins.others begins.views) key (places_length 0 (shape t).key ∙ sym many)
    (accepts_rowid t key kinds many begins.rest begins.others begins.views) {X = X} old new (Err f) clean begins.is tells)

-- ---- the rows whose rowids are between two bounds

between_tested : (low high : ℤ) (r : Row) → list_all (holds ((Int low ∷ Int high ∷ []) ∷ r ∷ [])) between_tests ≡ lies_between low high r
between_tested low high r = rw (and-true _) refl

pub between_shown : (t : Table) (low high : ℤ) (db : Database) → BeginsTo t db.schema → (old new : State) (rows : List Row) → RestsAt db old
    → Shown (select_between_text t) (Int low ∷ Int high ∷ []) old new rows → IsPermutation (map (at (column_places t)) (run_of t low high db.trees)) rows
between_shown t low high db begins old new rows rests shown =
    let n = length (columns_of t) in
    let params : Row = Int low ∷ Int high ∷ [] in
    let test = lies_between low high in
    let has : old.now.schema ≡ schema_from (1 + place_of t) begins.rest begins.others begins.views = ap (λ (d : Database). d.schema) rests.now ∙ begins.is in
    let got = reads_rows (schema_from (1 + place_of t) begins.rest begins.others begins.views) (select_between_text t) (tree_of t) _ _ _ _
    ((selects_between t).select begins.rest begins.others begins.views)
    (λ r. r) params test (λ _. []) (λ r. at (places_from 0 n) (drop 1 r)) (between_tested low high) (λ r. refl) (λ r. shows_columns 0 n params r) old new rows has shown in
    let same : IsPermutation (map (λ r. at (places_from 0 n) (drop 1 r)) (filter test (old.now.trees (tree_of t)))) rows =
    subst (IsPermutation (map (λ r. at (places_from 0 n) (drop 1 r)) (filter test (old.now.trees (tree_of t))))) (sym got.shown)
    (subst (λ l. IsPermutation (map (λ r. at (places_from 0 n) (drop 1 r)) (filter test l)) (map (λ r. at (places_from 0 n) (drop 1 r)) got.ordered))
    (mapped_itself (old.now.trees (tree_of t))) (IsPermutation-map (λ r. at (places_from 0 n) (drop 1 r)) _ _ got.same)) in
    subst (λ (d : Database). IsPermutation (map (at (column_places t)) (run_of t low high d.trees)) rows) rests.now
    (subst (λ l. IsPermutation l rows) (sym (mapped_twice (drop 1) (at (column_places t)) (filter test (old.now.trees (tree_of t))))) same)

pub if_between_shown : {X F : Type 0} (t : Table) (low high : ℤ) (db : Database) → BeginsTo t db.schema → (old new : State) (rows : X → List Row) (r : Result X F) → RestsAt db old
    → IfOk r (λ x. Shown (select_between_text t) (Int low ∷ Int high ∷ []) old new (rows x)) → IfOk r (λ x. IsPermutation (map (at (column_places t)) (run_of t low high db.trees)) (rows x))
if_between_shown t low high db begins old new rows (Ok x) rests shown = between_shown t low high db begins old new (rows x) rests shown
if_between_shown t low high db begins old new rows (Err e) rests shown = tt

pub between_fails : {X : Type 0} (t : Table) (low high : ℤ) (c : Contents) (old new : State) (r : Result X Fault)
    → HasCleanDisk new → RestsIfOpen c old → IfErr r (TellsQuery (select_between_text t) (Int low ∷ Int high ∷ []) old new) → IfErr r (FailsBy old new)
between_fails t low high c old new (Ok x) clean at tells = tt
between_fails {X} t low high c old new (Err f) clean at tells =
    either_way (select_between_text t) (Int low ∷ Int high ∷ []) old new f tells (λ is_open.
    let begins = begun t c old at is_open in
    let schema = schema_from (1 + place_of t) begins.rest begins.others begins.views in
    if_fails schema (select_between_text t) (tree_of t) _ _ _ _ ((selects_between t).select begins.rest begins.others begins.views) (Int low ∷ Int high ∷ []) refl
    (accepts_between t low high begins.rest begins.others begins.views) {X = X} old new (Err f) clean begins.is tells)

-- ---- the entries of such rows

module _ (t : Table) (low high : ℤ) (c : Contents) (s : State) (rests : Rests c s) (rows : List Row) (shown : IsPermutation (map (at (column_places t)) (run_of t low high s.now.trees)) rows) where
  -- a row of a run is one of the table's rows
  in_table : (r : Row) → Has (run_of t low high s.now.trees) r → Has (c t) r
  in_table r there =
      let it = has_mapped (drop 1) (filter (lies_between low high) (s.now.trees (tree_of t))) r there in
      let both = has_filtered (lies_between low high) (s.now.trees (tree_of t)) it.0 it.1 in
      subst (Has (c t)) (sym it.2) (permuted_has (drop 1 it.0) (tuples t s.now.trees) (c t) (IsPermutation-sym _ _ ((office_of c s rests).holds t).same)
      (mapped_has (drop 1) (s.now.trees (tree_of t)) it.0 both.0))

  -- a row of a run has exactly the table's columns
  run_itself : map (at (column_places t)) (run_of t low high s.now.trees) ≡ run_of t low high s.now.trees
  run_itself = mapped_same (at (column_places t)) (λ r. r) (run_of t low high s.now.trees) (λ r h. itself t c s rests r (in_table r h)) ∙ mapped_itself _

  same_run : IsPermutation (run_of t low high s.now.trees) rows
  same_run = subst (λ l. IsPermutation l rows) run_itself shown

  pub shown_in_table : (r : Row) → Has rows r → Has (c t) r
  shown_in_table r there = in_table r (permuted_has r rows (run_of t low high s.now.trees) (IsPermutation-sym _ _ same_run) there)

  shown_themselves : map (at (column_places t)) rows ≡ rows
  shown_themselves = mapped_same (at (column_places t)) (λ r. r) rows (λ r h. itself t c s rests r (shown_in_table r h)) ∙ mapped_itself rows

  -- the rows of the entries that were read are those of the run
  pub run_read : (found : List Row) → map (at (column_places t)) rows ≡ found → IsPermutation (run_of t low high s.now.trees) found
  run_read found is = subst (IsPermutation (run_of t low high s.now.trees)) (sym shown_themselves ∙ is) same_run

  -- each row of the run is one of the table's
  pub all_in_table : (found : List Row) → map (at (column_places t)) rows ≡ found → AllByRecursion (Has (c t)) found
  all_in_table found is = subst (AllByRecursion (Has (c t))) (sym shown_themselves ∙ is) (all_from (Has (c t)) rows shown_in_table)

  -- if all rows of the table represent entries, so do the rows of the run
  pub none_other : (IsRow : Row → Type 0) → AllByRecursion IsRow (c t) → ¬ HasInvalidRow IsRow rows
  none_other IsRow all wrong = wrong.2 (all_has IsRow (c t) _ all (shown_in_table _ (has_at rows wrong.0 [] wrong.1)))
