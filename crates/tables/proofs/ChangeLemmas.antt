-- How an UPDATE, a DELETE, and several INSERTs or UPDATEs change the contents.
use Rattle.std.proofs.Common.{◌≡◌, inl, inr, ℕ, suc, ◌+◌, ◌==◌, drop, ◌<◌, List, [], ◌∷◌, ◌++◌, map, filter, fold, take, get_or, append_assoc, length, Bool, true, false, not, cond, Result}
use Rattle.std.proofs.Common.{OnOk, IsTrue, refl, sym, ap, subst, ◌∙◌, arith, true≢false}
use Rattle.std.proofs.Math.Seq.{take-suc}
use Rattle.std.proofs.lemmas.List.Sums.{fold_more}
use Rattle.std.specs.List.Sorted.{IsPermutation}
use Rattle.std.proofs.lemmas.List.Sorted.{IsPermutation-refl, IsPermutation-trans, IsPermutation-map, IsPermutation-sym, IsPermutation-middle}
use Rattle.sqlite_trees.proofs.ListLemmas.{IsPermutation-filter, filter-map}
use Rattle.sqlite_rules.proofs.ListLemmas.{test_has, test_from, has_filtered}
use Rattle.sqlite.specs.declared.error.Error.{Error}
use Rattle.sqlite.specs.declared.types.Value.{Value}
use Rattle.sqlite.specs.Order.{Row, column}
use Rattle.sqlite.specs.Term.{col, eval_all}
use Rattle.sqlite.specs.Tree.{rowid}
use Rattle.sqlite_schema.specs.declared.schema.Column.{Column}
use Rattle.std.proofs.lemmas.Bool.{and_parts, and_from}
use Rattle.sqlite.specs.State.{State, ExecutesInside}
use Rattle.tables.specs.declared.table.Table.{Table}
use Rattle.tables.specs.declared.table.SettableColumn.{SettableColumn}
use Rattle.tables.specs.Texts.{update_text, set_text, delete_text}
use Rattle.tables.specs.Schema.{schema_from, place_of, shape, columns_of, places_from, changes_rows, table_set, place_set}
use Rattle.tables.specs.Rows.{tuples, at, has_key, is_of, are_of, is_row_of, takes_from, value_set, is_setting, with_value}
use Rattle.tables.specs.Contents.{Contents, SameContents, changed, added, added_all, replaced, replaced_all, value_put, removed, Sees}
use Rattle.tables.proofs.ListLemmas.{filtered_same, has_mapped, permuted_all}
use Rattle.tables.proofs.SameLemmas.{sees_same}
use Rattle.tables.proofs.TableLemmas.{which_table}
use Rattle.tables.proofs.Edits.{beyond_key, updated, set_terms, setting_changes, edits_row, sets_value}
use Rattle.tables.proofs.KeyLemmas.{updated_row}
use Rattle.tables.proofs.SelectLemmas.{later}
use Rattle.tables.proofs.ContentsLemmas.{table_changed}
use Rattle.tables.proofs.RemoveLemmas.{removes}
use Rattle.tables.proofs.ReplaceLemmas.{shows_updated, replaces}

-- ---- a DELETE

-- a DELETE removes the row with the given key
pub row_removed : (t : Table) → changes_rows t ≡ true → (key : Row) (old new : State) (r : Result ℕ Error) → (IsTrue old.in_transaction → ExecutesInside 0 (delete_text t) key old new r)
    → (c : Contents) → Sees c old → OnOk r (Sees (removed t key c) new)
unfolding removed
row_removed t changing key old new r runs c sees =
    let stays : Row → Bool = λ x. not (has_key t key x) in
    table_changed t (filter stays) (delete_text t) key old new
    (λ rest others views free count has ran rows was.
    let it = edits_row rest others views t changing in
    let change = removes (schema_from 11 rest others views) t (it.alone free) it.place (delete_text t) it.deletes it.plain_delete it.low key old new count has (was.keyed changing) ran in (
      change.changes,
      record {
        same = subst (IsPermutation _) (sym change.rows) (IsPermutation-filter stays rows (tuples t old.now.trees) was.same);
        keyed = λ _. change.keyed;
        typed = test_from (is_row_of t) (filter stays rows) (λ x h. test_has (is_row_of t) rows x was.typed (has_filtered stays rows x h).0);
      },
    ))
    r runs c sees

-- ---- an UPDATE

-- an UPDATE replaces the row with the same key
pub row_replaced : (t : Table) → changes_rows t ≡ true → (row : Row) → is_row_of t row ≡ true → (old new : State) (r : Result ℕ Error)
    → (IsTrue old.in_transaction → ExecutesInside 0 (update_text t) row old new r)
    → (c : Contents) → Sees c old → OnOk r (Sees (replaced t row c) new)
unfolding replaced
row_replaced t changing row kinds old new r runs c sees =
    let put : Row → Row = λ x. cond (has_key t row x) row x in
    let next : Row → Row = λ x. at (places_from 0 (shape t).key) x ++ at (places_from (shape t).key (beyond_key t)) row in
    let good : (x : Row) → is_row_of t x ≡ true → is_row_of t (put x) ≡ true = λ x typed. elim (has_key t row x) as (λ b. is_row_of t (cond b row x) ≡ true) [ true ↦ kinds | false ↦ typed ] in
    table_changed t (map put) (update_text t) row old new
    (λ rest others views free count has ran rows was.
    let it = edits_row rest others views t changing in
    let change = replaces (schema_from 11 rest others views) t (it.alone free) it.place (updated t) (update_text t) it.updates it.plain_update it.low row next (λ x. row) (shows_updated t row)
    (λ x typed same. updated_row t x row typed kinds same) (λ x typed. kinds) old new count has (was.keyed changing)
    (permuted_all (is_row_of t) rows (tuples t old.now.trees) was.same was.typed) ran in (
      change.changes,
      record {
        same = IsPermutation-trans _ _ _ (IsPermutation-map put rows (tuples t old.now.trees) was.same) change.rows;
        keyed = λ _. change.keyed;
        typed = test_from (is_row_of t) (map put rows) (λ y h.
            let x = has_mapped put rows y h in
            subst (λ z. is_row_of t z ≡ true) (sym x.2) (good x.0 (test_has (is_row_of t) rows x.0 was.typed x.1)));
      },
    ))
    r runs c sees

-- ---- an UPDATE of one column

-- every column is unchanged except the one that is set
shows_set : (place key : ℕ) (params r : Row) (ps : List ℕ) → eval_all (map (λ p. cond (p == place) (col 0 key) (col 1 (suc p))) ps) (params ∷ r ∷ [])
    ≡ map (λ p. cond (p == place) (column params key) (column (drop 1 r) p)) ps
shows_set place key params r [] = refl
shows_set place key params r (p ∷ ps) = go (p == place) (shows_set place key params r ps)
  where
    go : (b : Bool) → eval_all (map (λ q. cond (q == place) (col 0 key) (col 1 (suc q))) ps) (params ∷ r ∷ []) ≡ map (λ q. cond (q == place) (column params key) (column (drop 1 r) q)) ps
        → eval_all (cond b (col 0 key) (col 1 (suc p)) ∷ map (λ q. cond (q == place) (col 0 key) (col 1 (suc q))) ps) (params ∷ r ∷ []) ≡ cond b (column params key) (column (drop 1 r) p)
        ∷ map (λ q. cond (q == place) (column params key) (column (drop 1 r) q)) ps
    go true more = ap (λ l. column params key ∷ l) more
    go false more = ap (λ v. v ∷ eval_all (map (λ q. cond (q == place) (col 0 key) (col 1 (suc q))) ps) (params ∷ r ∷ [])) (later p r) ∙ ap (λ l. column (drop 1 r) p ∷ l) more

-- a row with values of the correct kinds still has them
typed_set : (cs : List Column) (k place : ℕ) (value : Value) (xs : Row) (f : ℕ → Value) → ((i : ℕ) → f (k + i) ≡ column xs i) → are_of cs xs ≡ true → takes_from k place value cs ≡ true
    → are_of cs (map (λ p. cond (p == place) value (f p)) (places_from k (length cs))) ≡ true
typed_set [] k place value xs f same typed takes = refl
typed_set (c ∷ cs) k place value [] f same typed takes = absurd (true≢false (sym typed))
typed_set (c ∷ cs) k place value (x ∷ xs) f same typed takes =
    let own = and_parts _ _ typed in
    let here = and_parts _ _ takes in
    and_from _ _ (go (k == place) here.0 own.0) (typed_set cs (suc k) place value xs f (λ i. ap f (over k i) ∙ same (suc i)) own.1 here.1)
  where
    over : (m n : ℕ) → suc m + n ≡ m + suc n
    over m n = omega arith

    plus : (m : ℕ) → m ≡ m + 0
    plus m = omega arith

    go : (b : Bool) → cond b (is_of c.kind value) true ≡ true → is_of c.kind x ≡ true → is_of c.kind (cond b value (f k)) ≡ true
    go true takes_it was = takes_it
    go false takes_it was = ap (is_of c.kind) (ap f (plus k) ∙ same 0) ∙ was

none_past : (i : ℕ) → 0 + i ≡ i
none_past i = omega arith

-- an UPDATE of one column sets that column's value in the row with the given key
pub value_set_there : (g : SettableColumn) (values : Row) → is_setting g values ≡ true → (old new : State) (r : Result ℕ Error)
    → (IsTrue old.in_transaction → ExecutesInside 0 (set_text g) values old new r)
    → (c : Contents) → Sees c old → OnOk r (Sees (value_put g values c) new)
unfolding value_put
value_set_there g values kind old new r runs c sees =
    let t = table_set g in
    let made : Row → Row = with_value g (value_set g values) in
    let put : Row → Row = λ x. cond (has_key t values x) (made x) x in
    let kinds : (x : Row) → is_row_of t x ≡ true → is_row_of t (made x) ≡ true =
    λ x typed. typed_set (columns_of t) 0 (place_set g) (value_set g values) x (column x) (λ i. ap (column x) (none_past i)) typed kind
    in
    let good : (x : Row) → is_row_of t x ≡ true → is_row_of t (put x) ≡ true =
    λ x typed. elim (has_key t values x) as (λ b. is_row_of t (cond b (made x) x) ≡ true) [ true ↦ kinds x typed | false ↦ typed ]
    in
    table_changed t (map put) (set_text g) values old new
    (λ rest others views free count has ran rows was.
    let it = edits_row rest others views t (setting_changes g) in
    let text = sets_value rest others views g in
    let change = replaces (schema_from 11 rest others views) t (it.alone free) it.place (set_terms g) (set_text g) text.sets text.plain it.low values made made
    (λ x. ap (λ l. rowid x ∷ rowid x ∷ l) (shows_set (place_set g) (shape t).key values x (places_from 0 (length (columns_of t))))) (λ x typed same. refl) kinds old new count has
    (was.keyed (setting_changes g))
    (permuted_all (is_row_of t) rows (tuples t old.now.trees) was.same was.typed) ran in (
      change.changes,
      record {
        same = IsPermutation-trans _ _ _ (IsPermutation-map put rows (tuples t old.now.trees) was.same) change.rows;
        keyed = λ _. change.keyed;
        typed = test_from (is_row_of t) (map put rows) (λ y h.
            let x = has_mapped put rows y h in
            subst (λ z. is_row_of t z ≡ true) (sym x.2) (good x.0 (test_has (is_row_of t) rows x.0 was.typed x.1)));
      },
    ))
    r runs c sees

-- ---- several INSERTs

-- no rows added, and a row added after others
none_more : (t : Table) (c : Contents) → SameContents c (added_all t [] c)
unfolding added_all
none_more t c u = elim (which_table t u) [ inl same ↦ rw same.0 (IsPermutation-refl (c u)) | inr other ↦ rw other.0 (IsPermutation-refl (c u)) ]

one_more : (t : Table) (rows : List Row) (row : Row) (c : Contents) → SameContents (added t row (added_all t rows c)) (added_all t (rows ++ row ∷ []) c)
unfolding added added_all
one_more t rows row c u = elim (which_table t u) [
  | inl same ↦ rw (same.0, append_assoc rows (row ∷ []) (c u)) (IsPermutation-sym _ _ (IsPermutation-middle rows row (c u)))
  | inr other ↦ rw other.0 (IsPermutation-refl (c u))
]

pub none_added : (t : Table) (c : Contents) (s : State) → Sees c s → Sees (added_all t [] c) s
none_added t c s sees = sees_same c (added_all t [] c) s (none_more t c) sees

-- the rows before this one have been added, and then this one
pub next_added : (t : Table) (rows : List Row) (k : ℕ) (row : Row) → k < length rows → get_or rows k [] ≡ row → (c : Contents) (s : State) → Sees (added t row (added_all t (take k rows) c)) s
    → Sees (added_all t (take (k + 1) rows) c) s
next_added t rows k row low is c s sees =
    let more : take (k + 1) rows ≡ take k rows ++ row ∷ [] = ap (λ n. take n rows) (plus k) ∙ take-suc rows k [] low ∙ ap (λ r. take k rows ++ r ∷ []) is in
    subst (λ l. Sees (added_all t l c) s) (sym more) (sees_same (added t row (added_all t (take k rows) c)) (added_all t (take k rows ++ row ∷ []) c) s (one_more t (take k rows) row c) sees)
  where
    plus : (n : ℕ) → n + 1 ≡ suc n
    plus n = omega arith

-- ---- several UPDATEs

pub none_replaced : (t : Table) (c : Contents) (s : State) → Sees c s → Sees (replaced_all t [] c) s
unfolding replaced_all
none_replaced t c s sees = sees

-- the rows before this one have been replaced, and then this one
pub next_replaced : (t : Table) (rows : List Row) (k : ℕ) (row : Row) → k < length rows → get_or rows k [] ≡ row → (c : Contents) (s : State)
    → Sees (replaced t row (replaced_all t (take k rows) c)) s → Sees (replaced_all t (take (k + 1) rows) c) s
unfolding replaced_all
next_replaced t rows k row low is c s sees =
    let one : Contents → Row → Contents = λ before r. replaced t r before in
    let more : fold one c (take (k + 1) rows) ≡ one (fold one c (take k rows)) row = fold_more one c rows k [] low ∙ ap (one (fold one c (take k rows))) is in
    subst (λ d. Sees d s) (sym more) sees

-- ---- rows of entries

-- Replacing the row with the same key as an entry's row replaces the entry with the same key.
pub replaced_rows : {X : Type 0} (t : Table) (row : X → Row) (same : X → Bool) (y : X) → ((x : X) → has_key t (row y) (row x) ≡ same x) → (xs : List X)
    → map (λ r. cond (has_key t (row y) r) (row y) r) (map row xs) ≡ map row (map (λ x. cond (same x) y x) xs)
replaced_rows t row same y alike [] = refl
replaced_rows t row same y alike (x ∷ xs) =
    ap (λ b. cond b (row y) (row x) ∷ map (λ r. cond (has_key t (row y) r) (row y) r) (map row xs)) (alike x) ∙ one (same x) (replaced_rows t row same y alike xs)
  where
    one : (b : Bool) → map (λ r. cond (has_key t (row y) r) (row y) r) (map row xs) ≡ map row (map (λ z. cond (same z) y z) xs)
        → cond b (row y) (row x) ∷ map (λ r. cond (has_key t (row y) r) (row y) r) (map row xs) ≡ row (cond b y x) ∷ map row (map (λ z. cond (same z) y z) xs)
    one true later = ap (λ l. row y ∷ l) later
    one false later = ap (λ l. row x ∷ l) later

-- the given rows, with each of the new rows, one after another, replacing the row with the same key
abbrev pub all_replaced : Table → List Row → List Row → List Row
all_replaced t = fold (λ rows row. map (λ r. cond (has_key t row r) row r) rows)

-- how several UPDATEs change one table; they leave the other tables unchanged
pub replaced_all_there : (t : Table) (news : List Row) (c : Contents) (u : Table) → replaced_all t news c u ≡ changed t (λ rows. all_replaced t rows news) c u
unfolding replaced_all replaced
replaced_all_there t [] c u = elim (place_of u == place_of t) as (λ b. c u ≡ cond b (c u) (c u)) [ true ↦ refl | false ↦ refl ]
replaced_all_there t (row ∷ news) c u =
    replaced_all_there t news (replaced t row c) u
    ∙ elim (place_of u == place_of t) as (λ b. cond b (all_replaced t (cond b (map (λ r. cond (has_key t row r) row r) (c u)) (c u)) news)
    (cond b (map (λ r. cond (has_key t row r) row r) (c u)) (c u)) ≡ cond b (all_replaced t (map (λ r. cond (has_key t row r) row r) (c u)) news) (c u)) [ true ↦ refl | false ↦ refl ]

-- Replacing the rows with the same keys as entries' rows, one after another, replaces the entries with the same keys.
pub replaced_each : {X : Type 0} (t : Table) (row : X → Row) (same : X → X → Bool) → ((y x : X) → has_key t (row y) (row x) ≡ same y x) → (ys xs : List X)
    → all_replaced t (map row xs) (map row ys) ≡ map row (fold (λ zs y. map (λ z. cond (same y z) y z) zs) xs ys)
replaced_each t row same alike [] xs = refl
replaced_each t row same alike (y ∷ ys) xs =
    ap (λ rows. all_replaced t rows (map row ys)) (replaced_rows t row (same y) y (alike y) xs) ∙ replaced_each t row same alike ys (map (λ z. cond (same y z) y z) xs)

-- Setting a value in one column of the row with a given key changes the entry with that key.
pub rows_set : {X : Type 0} (g : SettableColumn) (values : Row) (row : X → Row) (same : X → Bool) (change : X → X) → ((x : X) → has_key (table_set g) values (row x) ≡ same x)
    → ((x : X) → with_value g (value_set g values) (row x) ≡ row (change x))
    → (xs : List X) → map (λ r. cond (has_key (table_set g) values r) (with_value g (value_set g values) r) r) (map row xs) ≡ map row (map (λ x. cond (same x) (change x) x) xs)
rows_set g values row same change alike made [] = refl
rows_set {X} g values row same change alike made (x ∷ xs) =
    ap (λ b. cond b (with_value g (value_set g values) (row x)) (row x) ∷ map (λ r. cond (has_key (table_set g) values r) (with_value g (value_set g values) r) r) (map row xs)) (alike x)
    ∙ one (same x) (rows_set g values row same change alike made xs)
  where
    one : (b : Bool) → map (λ r. cond (has_key (table_set g) values r) (with_value g (value_set g values) r) r) (map row xs) ≡ map row (map (λ z. cond (same z) (change z) z) xs)
        → cond b (with_value g (value_set g values) (row x)) (row x) ∷ map (λ r. cond (has_key (table_set g) values r) (with_value g (value_set g values) r) r) (map row xs)
        ≡ row (cond b (change x) x) ∷ map row (map (λ z. cond (same z) (change z) z) xs)
    one true more = ap (λ r. r ∷ map (λ q. cond (has_key (table_set g) values q) (with_value g (value_set g values) q) q) (map row xs)) (made x) ∙ ap (λ l. row (change x) ∷ l) more
    one false more = ap (λ l. row x ∷ l) more

-- The rows that don't have a given key are the rows of the entries that don't have it.
pub removed_rows : {X : Type 0} (t : Table) (key : Row) (row : X → Row) (same : X → Bool) → ((x : X) → has_key t key (row x) ≡ same x) → (xs : List X)
    → filter (λ r. not (has_key t key r)) (map row xs) ≡ map row (filter (λ x. not (same x)) xs)
removed_rows t key row same alike xs = filter-map (λ r. not (has_key t key r)) row xs ∙ ap (map row) (filtered_same _ _ xs (λ x h. ap not (alike x)))
