-- The contents of a table, and the rows that a query returns.
use Rattle.std.proofs.Common.{◌≡◌, ◌⊎◌, inl, inr, ℕ, zero, suc, ◌+◌, ◌≤◌, ◌<◌, List, [], ◌∷◌, map, filter, drop, length, get_or, Option, Bool, true, not, refl, sym, ap, subst, ◌∙◌, arith}
use Rattle.std.proofs.Common.{Ordering, Less, Equal, Greater}
use Rattle.std.specs.List.{AllByRecursion, list_all}
use Rattle.std.specs.Ordering.{is_eq, eq_by_cmp, ordering_reverse}
use Rattle.std.specs.Cmp.{IsTotalOrder}
use Rattle.std.specs.List.Sorted.{IsPermutation, IsSorted, IsStrictlySortedBy}
use Rattle.std.proofs.lemmas.Bool.{and_parts, and_from, true≢false, false≢true}
use Rattle.std.proofs.lemmas.Cmp.{eq_by_cmp_equiv, tied_itself}
use Rattle.std.proofs.lemmas.Map.Keys.{IsDistinct-from_sorted, IsDistinct-IsPermutation, apart_from_distinct, sorted_head, sorted_tail}
use Rattle.std.proofs.lemmas.List.Sorted.{IsPermutation-sym, IsPermutation-map, IsPermutation-trans}
use Rattle.sqlite_rules.specs.Lists.{Has}
use Rattle.sqlite_rules.proofs.ListLemmas.{all_has, test_has}
use Rattle.sqlite_schema.specs.declared.schema.Column.{Column}
use Rattle.sqlite_schema.specs.declared.schema.Constraint.TheVariants.{Datatype}
use Rattle.sqlite_schema.specs.Rules.{are_typed}
use Rattle.sqlite_sql.specs.Ops.{is_null}
use Rattle.sqlite.specs.declared.types.Value.{Value}
use Rattle.sqlite.specs.declared.types.Value.TheVariants.{Int, Text, Blob}
use Rattle.sqlite.specs.Kind.{Kind}
use Rattle.sqlite.specs.Kind.TheVariants.{Integer, Text as Words, Blob as Bytes}
use Rattle.sqlite.specs.Order.{Row}
use Rattle.sqlite.specs.Schema.{Schema}
use Rattle.sqlite.specs.Tree.{Trees}
use Rattle.sqlite.specs.Effect.{Database, IsDatabase}
use Rattle.tables.specs.declared.table.Table.{Table}
use Rattle.tables.specs.declared.table.Table.TheVariants.{Office, Ward, Candidate, Batch, Keying, Verdict, Lot, Receipt, Bundle, Vote, Third}
use Rattle.tables.specs.Schema.{definition, columns_of, tree_of, changes_rows, BeginsTo}
use Rattle.tables.specs.Rows.{tuples, at, column_places, is_row_of, is_of, are_of, begins_with, row_cmp, HasWrongRowid, RepeatsRowid}
use Rattle.tables.specs.Contents.{HoldsTable}
use Rattle.tables.specs.Reading.{Lists, ListsKeyed, HoldsNone, HasInvalidRow, FailsToRise}
use Rattle.tables.proofs.ListLemmas.{mapped_length, get_mapped, mapped_has, has_mapped, permuted_has, mapped_same, mapped_itself, all_pass, has_at}
use Rattle.tables.proofs.ColumnPlaceLemmas.{padded, pads, at_twice, typed_at}
use Rattle.tables.proofs.OrderLemmas.{row_total, rise_all, one_key}

-- ---- rows that obey a schema have no more values than it has columns

width : (key : Option ℕ) (place : ℕ) (cs : List Column) (vs : Row) → are_typed key place cs vs ≡ true → length vs ≤ length cs
width key place [] [] h = omega arith
width key place [] (v ∷ vs) h = absurd (true≢false (sym h))
width key place (c ∷ cs) [] h = omega arith
width key place (c ∷ cs) (v ∷ vs) h = let later : length vs ≤ length cs = width key (place + 1) cs vs (and_parts _ (are_typed key (place + 1) cs vs) h).1 in omega (arith, later)

-- a schema that begins with the tables up to a given one has that table
begun_has : (t : Table) (s : Schema) → BeginsTo t s → Has s.tables (definition t)
begun_has Office s h = subst (λ (x : Schema). Has x.tables (definition Office)) (sym h.is) (inl refl)
begun_has Ward s h = subst (λ (x : Schema). Has x.tables (definition Ward)) (sym h.is) (inr (inl refl))
begun_has Candidate s h = subst (λ (x : Schema). Has x.tables (definition Candidate)) (sym h.is) (inr (inr (inl refl)))
begun_has Batch s h = subst (λ (x : Schema). Has x.tables (definition Batch)) (sym h.is) (inr (inr (inr (inl refl))))
begun_has Keying s h = subst (λ (x : Schema). Has x.tables (definition Keying)) (sym h.is) (inr (inr (inr (inr (inl refl)))))
begun_has Verdict s h = subst (λ (x : Schema). Has x.tables (definition Verdict)) (sym h.is) (inr (inr (inr (inr (inr (inl refl))))))
begun_has Lot s h = subst (λ (x : Schema). Has x.tables (definition Lot)) (sym h.is) (inr (inr (inr (inr (inr (inr (inl refl)))))))
begun_has Receipt s h = subst (λ (x : Schema). Has x.tables (definition Receipt)) (sym h.is) (inr (inr (inr (inr (inr (inr (inr (inl refl))))))))
begun_has Bundle s h = subst (λ (x : Schema). Has x.tables (definition Bundle)) (sym h.is) (inr (inr (inr (inr (inr (inr (inr (inr (inl refl)))))))))
begun_has Vote s h = subst (λ (x : Schema). Has x.tables (definition Vote)) (sym h.is) (inr (inr (inr (inr (inr (inr (inr (inr (inr (inl refl))))))))))
begun_has Third s h = subst (λ (x : Schema). Has x.tables (definition Third)) (sym h.is) (inr (inr (inr (inr (inr (inr (inr (inr (inr (inr (inl refl)))))))))))

short : (t : Table) (db : Database) → BeginsTo t db.schema → IsDatabase db → (r : Row) → Has (tuples t db.trees) r → length r ≤ length (columns_of t)
short t db begins sound r h =
    let raw = has_mapped (drop 1) (db.trees (tree_of t)) r h in
    let rows = all_has _ db.schema.tables (definition t) (sound.obeys.rules Datatype) (begun_has t db.schema begins) in
    let low = width (definition t).key 0 (columns_of t) (drop 1 raw.0) (and_parts _ _ (all_has _ (db.trees (tree_of t)) raw.0 rows raw.1)).0 in
    subst (λ (x : Row). length x ≤ length (columns_of t)) (sym raw.2) low

-- ---- values, and NULL

abbrev is_value : Value → Bool
is_value v = not (is_null v)

whole : (n : ℕ) (r : Row) → length r ≤ n → list_all is_value (padded n r) ≡ true → padded n r ≡ r
whole zero [] low all = refl
whole zero (v ∷ vs) low all = absurd (omega (arith, low))
whole (suc n) [] low all = absurd (true≢false (sym all))
whole (suc n) (v ∷ vs) low all = ap (λ l. v ∷ l) (whole n vs (omega (arith, low)) (and_parts _ _ all).1)

value_of : (k : Kind) (v : Value) → is_of k v ≡ true → is_value v ≡ true
value_of Integer (Int n) h = refl
value_of Words (Text t) h = refl
value_of Bytes (Blob b) h = refl
value_of _ _ h = absurd (true≢false (sym h))

values_of : (cs : List Column) (r : Row) → are_of cs r ≡ true → list_all is_value r ≡ true
values_of [] [] h = refl
values_of [] (v ∷ vs) h = absurd (true≢false (sym h))
values_of (c ∷ cs) [] h = absurd (true≢false (sym h))
values_of (c ∷ cs) (v ∷ vs) h = and_from _ _ (value_of c.kind v (and_parts _ _ h).0) (values_of cs vs (and_parts _ _ h).1)

-- ---- what a query returns

-- a query for all rows returns all of them
pub lists_all : (t : Table) (db : Database) (rows : List Row) → Lists t (begins_with []) db rows → IsPermutation (map (at (column_places t)) (tuples t db.trees)) rows
lists_all t db rows lists = subst (λ l. IsPermutation (map (at (column_places t)) l) rows) (all_pass (tuples t db.trees)) lists.same

-- the rows that a query returns have exactly the table's columns
pub shown_rows : (t : Table) (test : Row → Bool) (db : Database) (rows : List Row) → Lists t test db rows → map (at (column_places t)) rows ≡ rows
shown_rows t test db rows lists =
    mapped_same (at (column_places t)) (λ r. r) rows (λ r h.
    let raw =
    has_mapped (at (column_places t)) (filter test (tuples t db.trees)) r (permuted_has r rows (map (at (column_places t)) (filter test (tuples t db.trees))) (IsPermutation-sym _ _ lists.same) h)
    in
    ap (at (column_places t)) raw.2 ∙ at_twice (length (columns_of t)) raw.0 ∙ sym raw.2)
    ∙ mapped_itself rows

-- rows with values of the correct kinds, returned by a query for all rows, are the table's contents
pub rows_held : (t : Table) (db : Database) → BeginsTo t db.schema → IsDatabase db → (rows : List Row) → ListsKeyed t db rows → list_all (is_row_of t) rows ≡ true → HoldsTable t rows db.trees
rows_held t db begins sound rows keyed typed =
    let n = length (columns_of t) in
    let same = lists_all t db rows keyed.lists in
    let each : (r : Row) → Has (tuples t db.trees) r → at (column_places t) r ≡ r = λ r h.
    let there = permuted_has (at (column_places t) r) (map (at (column_places t)) (tuples t db.trees)) rows same (mapped_has (at (column_places t)) (tuples t db.trees) r h) in
    let values : list_all is_value (padded n r) ≡ true =
    ap (list_all is_value) (sym (pads n r)) ∙ values_of (columns_of t) (at (column_places t) r) (test_has (is_row_of t) rows (at (column_places t) r) typed there)
    in
    pads n r ∙ whole n r (short t db begins sound r h) values in
    record {
      same = IsPermutation-sym _ _ (subst (λ l. IsPermutation l rows) (mapped_same (at (column_places t)) (λ r. r) (tuples t db.trees) each ∙ mapped_itself (tuples t db.trees)) same);
      keyed = keyed.keyed;
      typed = typed;
    }

-- a query for all rows returns the table's contents
pub held_listed : (t : Table) (db : Database) (rows : List Row) → Lists t (begins_with []) db rows → (held : List Row) → HoldsTable t held db.trees → IsPermutation held rows
held_listed t db rows lists held holds =
    IsPermutation-trans _ _ _
    (subst (λ l. IsPermutation l (map (at (column_places t)) (tuples t db.trees)))
    (mapped_same (at (column_places t)) (λ r. r) held (λ r h. typed_at (columns_of t) r (test_has (is_row_of t) held r holds.typed h)) ∙ mapped_itself held)
    (IsPermutation-map (at (column_places t)) _ _ holds.same))
    (lists_all t db rows lists)

-- ---- rows that a table can't contain

-- a row that isn't of a given kind is in no list of rows of that kind
no_wrong : (IsRow : Row → Type 0) (rows : List Row) → HasInvalidRow IsRow rows → (held : List Row) → AllByRecursion IsRow held → IsPermutation held rows → ⊥
no_wrong IsRow rows other held all same =
    other.2 (all_has IsRow held (get_or rows other.0 []) all (permuted_has (get_or rows other.0 []) rows held (IsPermutation-sym _ _ same) (has_at rows other.0 [] other.1)))

-- rows with a repeated key don't form, in any order, a list in ascending key order
no_repeat : (t : Table) (rows : List Row) → IsSorted (row_cmp t) rows → FailsToRise t rows → (held : List Row) → IsStrictlySortedBy (row_cmp t) held → IsPermutation held rows → ⊥
no_repeat t rows sorted fails held rise same =
    let apart = IsDistinct-IsPermutation (eq_by_cmp (row_cmp t)) (eq_by_cmp_equiv (row_total t)).symm held rows same (IsDistinct-from_sorted (row_cmp t) held rise) in
    let at_place = apart_from_distinct (eq_by_cmp (row_cmp t)) rows fails.0 (fails.0 + 1) [] apart (omega arith) fails.1 in
    false≢true (sym at_place ∙ ap is_eq (one_key t rows sorted fails))

-- the rowids of a table that contains a list in ascending key order identify its rows
pub own_rowids : (t : Table) (rows : List Row) (trees : Trees) → HoldsTable t rows trees → IsStrictlySortedBy (row_cmp t) rows → changes_rows t ≡ true
    → ¬ (HasWrongRowid (trees (tree_of t)) ⊎ RepeatsRowid (trees (tree_of t)))
own_rowids t rows trees holds rise changes (inl wrong) = true≢false (sym ((holds.keyed changes).ints wrong.0 wrong.1) ∙ wrong.2)
own_rowids t rows trees holds rise changes (inr twice) =
    let k = twice.place in
    let within = twice.within in
    let first : k < length twice.ordered = omega (arith, within) in
    let here = get_or twice.ordered k [] in
    let next = get_or twice.ordered (k + 1) [] in
    let back = IsPermutation-sym _ _ twice.same in
    let one : here ≡ next =
    (holds.keyed changes).once here next (permuted_has here _ _ back (has_at twice.ordered k [] first)) (permuted_has next _ _ back (has_at twice.ordered (k + 1) [] within)) twice.equal
    in
    let shown = map (drop 1) twice.ordered in
    let len : length shown ≡ length twice.ordered = mapped_length (drop 1) twice.ordered in
    let same : get_or shown k [] ≡ get_or shown (k + 1) [] = get_mapped (drop 1) twice.ordered k [] [] first ∙ ap (drop 1) one ∙ sym (get_mapped (drop 1) twice.ordered (k + 1) [] [] within) in
    let distinct =
    IsDistinct-IsPermutation (eq_by_cmp (row_cmp t)) (eq_by_cmp_equiv (row_total t)).symm rows shown (IsPermutation-trans _ _ _ holds.same (IsPermutation-map (drop 1) _ _ twice.same))
    (IsDistinct-from_sorted (row_cmp t) rows rise)
    in
    let apart = apart_from_distinct (eq_by_cmp (row_cmp t)) shown k (k + 1) [] distinct (omega arith) (omega (arith, within, len)) in
    false≢true (sym apart ∙ ap (λ r. is_eq (row_cmp t (get_or shown k []) r)) (sym same) ∙ ap is_eq (tied_itself (row_total t) (get_or shown k [])))

pub none_held : (t : Table) (IsRow : Row → Type 0) (db : Database) (rows : List Row) → Lists t (begins_with []) db rows → HasInvalidRow IsRow rows ⊎ FailsToRise t rows → HoldsNone t IsRow db
none_held t IsRow db rows lists (inl other) held all rise holds = no_wrong IsRow rows other held all (held_listed t db rows lists held holds)
none_held t IsRow db rows lists (inr fails) held all rise holds = no_repeat t rows lists.sorted fails held rise (held_listed t db rows lists held holds)

-- ---- ascending lists

never : {X : Type 0} {cmp : X → X → Ordering} → IsTotalOrder cmp → (x y : X) → cmp x y ≡ Less → cmp y x ≡ Less → ⊥
never {X} {cmp} total x y h k = let turned = total.antisymm x y in let e : Less ≡ ordering_reverse Less = sym h ∙ turned ∙ ap ordering_reverse k in absurd cc

-- two lists with the same elements, ascending in the same order, are equal
pub rising_same : {X : Type 0} {cmp : X → X → Ordering} → IsTotalOrder cmp → (xs ys : List X) → IsStrictlySortedBy cmp xs → IsStrictlySortedBy cmp ys
    → ((z : X) → Has xs z → Has ys z) → ((z : X) → Has ys z → Has xs z) → xs ≡ ys
rising_same total [] [] up above there back = refl
rising_same total [] (y ∷ ys) up above there back = absurd (back y (inl refl))
rising_same total (x ∷ xs) [] up above there back = absurd (there x (inl refl))
rising_same {X} {cmp} total (x ∷ xs) (y ∷ ys) up above there back =
    let low = sorted_head cmp x xs up in
    let base = sorted_head cmp y ys above in
    let head : x ≡ y = elim (there x (inl refl)) [
      | inl same ↦ same
      | inr later ↦ elim (back y (inl refl)) [
        | inl same ↦ sym same
        | inr after ↦ absurd (never total x y (all_has (λ z. cmp x z ≡ Less) xs y low after) (all_has (λ z. cmp y z ≡ Less) ys x base later))
      ]
    ] in
    let first : (z : X) → Has xs z → Has ys z = λ z h. elim (there z (inr h)) [
      | inl same ↦ absurd (let r = all_has (λ w. cmp x w ≡ Less) xs z low h in let rr : cmp x x ≡ Less = subst (λ w. cmp x w ≡ Less) (same ∙ sym head) r in never total x x rr rr)
      | inr later ↦ later
    ] in
    let second : (z : X) → Has ys z → Has xs z = λ z h. elim (back z (inr h)) [
      | inl same ↦ absurd (let r = all_has (λ w. cmp y w ≡ Less) ys z base h in let rr : cmp y y ≡ Less = subst (λ w. cmp y w ≡ Less) (same ∙ head) r in never total y y rr rr)
      | inr later ↦ later
    ] in
    ap (λ z. z ∷ xs) head ∙ ap (λ l. y ∷ l) (rising_same total xs ys (sorted_tail cmp x xs up) (sorted_tail cmp y ys above) first second)

-- if rows in key order are a permutation of a list in ascending key order, they are that list
pub found_same : (t : Table) (rows held : List Row) → IsSorted (row_cmp t) rows → IsStrictlySortedBy (row_cmp t) held → IsPermutation held rows → held ≡ rows
found_same t rows held sorted rise same =
    rising_same (row_total t) held rows rise (rise_all t rows each) (λ r h. permuted_has r held rows same h) (λ r h. permuted_has r rows held (IsPermutation-sym _ _ same) h)
  where
    each : (k : ℕ) → k + 1 < length rows → row_cmp t (get_or rows k []) (get_or rows (k + 1) []) ≡ Less
    each k low = go (row_cmp t (get_or rows k []) (get_or rows (k + 1) [])) refl
      where
        go : (o : Ordering) → row_cmp t (get_or rows k []) (get_or rows (k + 1) []) ≡ o → row_cmp t (get_or rows k []) (get_or rows (k + 1) []) ≡ Less
        go Less is = is
        go Equal is = absurd (no_repeat t rows sorted (k, low, λ less. let e : Less ≡ Equal = sym less ∙ is in cc) held rise same)
        go Greater is = absurd (no_repeat t rows sorted (k, low, λ less. let e : Less ≡ Greater = sym less ∙ is in cc) held rise same)
