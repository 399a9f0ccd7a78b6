-- What the queries on a table return.
use Rattle.std.proofs.Common.{◌≡◌, ℕ, zero, suc, ◌+◌, ◌<◌, ◌≤◌, List, [], ◌∷◌, ◌++◌, map, filter, drop, length, Bool, true, Ok, Err, Result, IfOk, refl, sym, ap, subst, ◌∙◌, arith}
use Rattle.std.specs.List.{list_all}
use Rattle.std.specs.List.Sorted.{IsPermutation, IsSorted}
use Rattle.std.specs.Ordering.{on, ordering_then}
use Rattle.std.proofs.lemmas.List.Sorted.{IsPermutation-map, IsPermutation-trans}
use Rattle.sqlite_trees.proofs.ListLemmas.{IsPermutation-filter}
use Rattle.sqlite_rules.proofs.ListLemmas.{test_has, has_filtered}
use Rattle.sqlite_value.proofs.OrderLemmas.{then-Equal}
use Rattle.sqlite.specs.Order.{Row, column, value_cmp}
use Rattle.sqlite.specs.Tree.{rowid}
use Rattle.sqlite.specs.Collation.TheVariants.{Binary}
use Rattle.sqlite_value.specs.Keys.{ascending}
use Rattle.sqlite.specs.Term.{Term, holds}
use Rattle.sqlite.specs.Schema.{Schema}
use Rattle.sqlite.specs.Effect.{Database}
use Rattle.sqlite.specs.Query.{key_cmp}
use Rattle.sqlite.specs.State.{State, Shown}
use Rattle.tables.specs.declared.table.Table.{Table}
use Rattle.tables.specs.declared.table.Table.TheVariants.{Office}
use Rattle.tables.specs.Texts.{scan_text, select_rowids_text}
use Rattle.tables.specs.Schema.{schema_from, place_of, tree_of, shape, columns_of, changes_rows, places_from, definition, key_index, all_tables, BeginsTo, IsOfficeSchema}
use Rattle.tables.specs.Rows.{tuples, at, begins_with, column_places, is_row_of, row_cmp, keys_cmp, ascending_keys}
use Rattle.tables.specs.Contents.{Contents, OfficeAt, IsOffice, RestsAt, Rests}
use Rattle.tables.specs.Reading.{Lists, Finds, ListsRowids, alone}
use Rattle.tables.proofs.ListLemmas.{all_pass, sorted_mapped, mapped_same, mapped_itself}
use Rattle.tables.proofs.ColumnPlaceLemmas.{column_shown, typed_at}
use Rattle.tables.proofs.ReadLemmas.{rests_at}
use Rattle.tables.proofs.SelectLemmas.{reads_rows, shows_columns, ordered_terms, ordered_keys, columns_from, ordered_from}
use Rattle.tables.proofs.Queries.{Reads, scans, selects_rowids}

-- a schema that begins with all tables begins with those up to any one of them
pub begins_to : (t : Table) (s : Schema) → IsOfficeSchema s → BeginsTo t s
begins_to Office s h =
    record { rest = map definition (drop (1 + place_of Office) all_tables) ++ h.rest; others = map key_index (drop (1 + place_of Office) all_tables) ++ h.others; views = h.views; is = h.is }
begins_to t s h = record { rest = map definition (drop (1 + place_of t) all_tables) ++ h.rest; others = map key_index (drop (1 + place_of t) all_tables) ++ h.others; views = h.views; is = h.is }

pub key_within : (t : Table) → (shape t).key ≤ length (columns_of t)
key_within Office = omega arith
key_within t = omega arith

-- comparing keys depends only on the first columns
same_keys : (k n : ℕ) (a b x y : Row) → ((j : ℕ) → j < k + n → column a j ≡ column x j) → ((j : ℕ) → j < k + n → column b j ≡ column y j)
    → key_cmp k (ascending_keys n) a b ≡ key_cmp k (ascending_keys n) x y
same_keys k zero a b x y first second = refl
same_keys k (suc n) a b x y first second =
    rw (first k (omega arith), second k (omega arith)) (ap (ordering_then (value_cmp (column x k) (column y k)))
    (same_keys (suc k) n a b x y (λ j low. first j (omega (arith, low))) (λ j low. second j (omega (arith, low)))))

keys_shown : (m n : ℕ) → m ≤ n → (a b : Row) → keys_cmp m (at (places_from 0 m) a) (at (places_from 0 m) b) ≡ keys_cmp m (at (places_from 0 n) a) (at (places_from 0 n) b)
keys_shown m n low a b = same_keys 0 m (at (places_from 0 m) a) (at (places_from 0 m) b) (at (places_from 0 n) a) (at (places_from 0 n) b)
    (λ j h. column_shown m j a (omega (arith, h)) ∙ sym (column_shown n j a (omega (arith, h, low)))) (λ j h. column_shown m j b (omega (arith, h)) ∙ sym (column_shown n j b (omega (arith, h, low))))

-- restricting rows to their columns doesn't change their order
pub order_shown : (t : Table) (a b : Row) → row_cmp t (at (column_places t) a) (at (column_places t) b) ≡ row_cmp t a b
order_shown t a b =
    let within = key_within t in
    same_keys 0 (shape t).key (at (column_places t) a) (at (column_places t) b) a b (λ j h. column_shown (length (columns_of t)) j a (omega (arith, h, within)))
    (λ j h. column_shown (length (columns_of t)) j b (omega (arith, h, within)))

-- ---- rows that pass a test

-- the office at which a connection between two transactions rests
pub office_of : (c : Contents) (s : State) → Rests c s → OfficeAt c s.now
unfolding IsOffice
office_of c s rests = rests.office

-- the rows that a query returns for an office are those of its contents
found_in : (t : Table) (test : Row → Bool) (c : Contents) (db : Database) (rows : List Row) → OfficeAt c db → Lists t test db rows → Finds t test c rows
found_in t test c db rows office lists =
    let it = office.holds t in
    record {
      same = IsPermutation-trans _ _ _
          (subst (λ l. IsPermutation l (map (at (column_places t)) (filter test (tuples t db.trees))))
          (mapped_same (at (column_places t)) (λ r. r) (filter test (c t)) (λ r h. typed_at (columns_of t) r (test_has (is_row_of t) (c t) r it.typed (has_filtered test (c t) r h).0))
          ∙ mapped_itself _)
          (IsPermutation-map (at (column_places t)) _ _ (IsPermutation-filter test (c t) (tuples t db.trees) it.same)))
          lists.same;
      sorted = lists.sorted;
    }

module _ (t : Table) (sql : List ℕ) (tests : List Term) (reads : Reads t sql tests) (params : Row) (test : Row → Bool)
    (tested : (r : Row) → list_all (holds (params ∷ r ∷ [])) tests ≡ test (drop 1 r)) where
  pub listed : (db : Database) → BeginsTo t db.schema → (old new : State) (rows : List Row) → RestsAt db old → Shown sql params old new rows → Lists t test db rows
  listed db begins old new rows rests shown =
      let n = length (columns_of t) in
      let m = (shape t).key in
      let has : old.now.schema ≡ schema_from (1 + place_of t) begins.rest begins.others begins.views = ap (λ (d : Database). d.schema) rests.now ∙ begins.is in
      let got = reads_rows (schema_from (1 + place_of t) begins.rest begins.others begins.views) sql (tree_of t) tests (columns_from 0 n) (ordered_from 0 m) _
      (reads.select begins.rest begins.others begins.views)
      (drop 1) params test (at (places_from 0 m)) (at (places_from 0 n)) tested (λ r. rw (ordered_terms 0 m) (shows_columns 0 m params r)) (λ r. shows_columns 0 n params r) old new rows has shown in
      record {
        same = subst (λ (d : Database). IsPermutation (map (at (column_places t)) (filter test (tuples t d.trees))) rows) rests.now
            (subst (IsPermutation (map (at (column_places t)) (filter test (tuples t old.now.trees)))) (sym got.shown) (IsPermutation-map (at (column_places t)) _ _ got.same));
        sorted = subst (IsSorted (row_cmp t)) (sym got.shown)
            (sorted_mapped (λ r. (at (places_from 0 m) r, at (places_from 0 n) r)) (at (places_from 0 n)) (on (λ (o : Row × Row). o.0) (key_cmp 0 (map (λ k. k.1) (ordered_from 0 m)))) (row_cmp t)
            (λ a b. rw (ordered_keys 0 m) (keys_shown m n (key_within t) a b)) got.ordered got.sorted);
      }

  pub if_found : {X F : Type 0} (c : Contents) (old new : State) (rows : X → List Row) (r : Result X F) → Rests c old → IfOk r (λ x. Shown sql params old new (rows x))
      → IfOk r (λ x. Finds t test c (rows x))
  if_found c old new rows (Ok x) rests shown =
      found_in t test c old.now (rows x) (office_of c old rests) (listed old.now (begins_to t old.now.schema (office_of c old rests).begins) old new (rows x) (rests_at c old rests) shown)
  if_found c old new rows (Err e) rests shown = tt

-- ---- all rows, in stored order

pub scanned : (t : Table) (db : Database) → BeginsTo t db.schema → (old new : State) (rows : List Row) → RestsAt db old → Shown (scan_text t) [] old new rows
    → IsPermutation (map (at (column_places t)) (tuples t db.trees)) rows
scanned t db begins old new rows rests shown =
    let n = length (columns_of t) in
    let has : old.now.schema ≡ schema_from (1 + place_of t) begins.rest begins.others begins.views = ap (λ (d : Database). d.schema) rests.now ∙ begins.is in
    let got = reads_rows (schema_from (1 + place_of t) begins.rest begins.others begins.views) (scan_text t) (tree_of t) [] (columns_from 0 n) [] _
    ((scans t).select begins.rest begins.others begins.views)
    (drop 1) [] (λ _. true) (λ _. []) (at (places_from 0 n)) (λ r. refl) (λ r. refl) (λ r. shows_columns 0 n [] r) old new rows has shown in
    let all : filter (λ _. true) (tuples t old.now.trees) ≡ tuples t old.now.trees = all_pass (tuples t old.now.trees) in
    subst (λ (d : Database). IsPermutation (map (at (column_places t)) (tuples t d.trees)) rows) rests.now
    (subst (IsPermutation (map (at (column_places t)) (tuples t old.now.trees))) (sym got.shown)
    (subst (λ l. IsPermutation (map (at (column_places t)) l) (map (at (column_places t)) got.ordered)) all (IsPermutation-map (at (column_places t)) _ _ got.same)))

pub if_scanned : {X F : Type 0} (t : Table) (db : Database) → BeginsTo t db.schema → (old new : State) (rows : X → List Row) (r : Result X F) → RestsAt db old
    → IfOk r (λ x. Shown (scan_text t) [] old new (rows x)) → IfOk r (λ x. IsPermutation (map (at (column_places t)) (tuples t db.trees)) (rows x))
if_scanned t db begins old new rows (Ok x) rests shown = scanned t db begins old new (rows x) rests shown
if_scanned t db begins old new rows (Err e) rests shown = tt

-- the same rows, in key order, form a listing of the table
pub in_order_listed : (t : Table) (db : Database) (rows sorted : List Row) → IsPermutation (map (at (column_places t)) (tuples t db.trees)) rows → IsPermutation rows sorted
    → IsSorted (row_cmp t) sorted → Lists t (begins_with []) db sorted
in_order_listed t db rows sorted scan same up = record {
  same = subst (λ l. IsPermutation (map (at (column_places t)) l) sorted) (sym (all_pass (tuples t db.trees))) (IsPermutation-trans _ _ _ scan same);
  sorted = up;
}

-- ---- the rowids

pub rowids_listed : (t : Table) → changes_rows t ≡ true → (db : Database) → BeginsTo t db.schema → (old new : State) (rows : List Row) → RestsAt db old
    → Shown (select_rowids_text t) [] old new rows → ListsRowids t db rows
rowids_listed t changes db begins old new rows rests shown =
    let has : old.now.schema ≡ schema_from (1 + place_of t) begins.rest begins.others begins.views = ap (λ (d : Database). d.schema) rests.now ∙ begins.is in
    let got = reads_rows (schema_from (1 + place_of t) begins.rest begins.others begins.views) (select_rowids_text t) (tree_of t) [] _ _ _
    ((selects_rowids t changes).select begins.rest begins.others begins.views)
    (λ r. r) [] (λ _. true) alone alone (λ r. refl) (λ r. refl) (λ r. refl) old new rows has shown in
    record {
      ordered = got.ordered;
      same =
          subst (λ (d : Database). IsPermutation (d.trees (tree_of t)) got.ordered) rests.now
          (subst (λ l. IsPermutation l got.ordered) (all_pass (map (λ r. r) (old.now.trees (tree_of t))) ∙ mapped_itself (old.now.trees (tree_of t))) got.same);
      sorted = subst (IsSorted (on rowid value_cmp)) (mapped_itself got.ordered)
          (sorted_mapped (λ r. (alone r, alone r)) (λ r. r) (on (λ (o : Row × Row). o.0) (key_cmp 0 (ascending Binary ∷ []))) (on rowid value_cmp)
          (λ a b. then-Equal (value_cmp (rowid a) (rowid b))) got.ordered got.sorted);
      shown = got.shown;
    }

pub if_rowids_listed : {X F : Type 0} (t : Table) → changes_rows t ≡ true → (db : Database) → BeginsTo t db.schema → (old new : State) (rows : X → List Row) (r : Result X F) → RestsAt db old
    → IfOk r (λ x. Shown (select_rowids_text t) [] old new (rows x)) → IfOk r (λ x. ListsRowids t db (rows x))
if_rowids_listed t changes db begins old new rows (Ok x) rests shown = rowids_listed t changes db begins old new (rows x) rests shown
if_rowids_listed t changes db begins old new rows (Err e) rests shown = tt
