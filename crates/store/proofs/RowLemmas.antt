-- Entries and their rows, for any table.
use Rattle.std.proofs.Common.{◌≡◌, List, [], ◌∷◌, map, filter, find, Option, Some, None, option_map, IfSome, Result, Ok, Err, IfOk, Bool, true, false, cond, refl, sym, ap, ◌∙◌, Ordering, Less, Equal}
use Rattle.std.specs.Option.{option_to_list}
use Rattle.std.specs.Ordering.{is_eq}
use Rattle.std.specs.List.{AllByRecursion}
use Rattle.std.specs.List.Sorted.{IsPermutation, IsSorted, IsStrictlySortedBy}
use Rattle.std.proofs.lemmas.List.Sorted.{IsPermutation-sym}
use Rattle.std.proofs.lemmas.Map.Keys.{sorted_head, sorted_tail}
use Rattle.sqlite_trees.proofs.ListLemmas.{filter-map}
use Rattle.sqlite.specs.Order.{Row}
use Rattle.register.specs.Offices.{entry_at}
use Rattle.tables.specs.declared.table.Table.{Table}
use Rattle.std.proofs.lemmas.List.Kept.{IsStrictlySortedBy-filter}
use Rattle.tables.specs.Rows.{row_cmp, begins_with}
use Rattle.tables.proofs.ListLemmas.{mapped_twice, mapped_same, mapped_itself, permuted_has}
use Rattle.tables.proofs.OrderLemmas.{row_total}
use Rattle.tables.proofs.HoldLemmas.{rising_same, found_same}

-- ---- the order of rows

above : {X : Type 0} (row : X → Row) (by : Row → Row → Ordering) (cmp : X → X → Ordering) → ((x y : X) → by (row x) (row y) ≡ cmp x y) → (x : X) (xs : List X)
    → AllByRecursion (λ r. by (row x) r ≡ Less) (map row xs) → AllByRecursion (λ y. cmp x y ≡ Less) xs
above row by cmp alike x [] all = tt
above row by cmp alike x (y ∷ ys) all = (sym (alike x y) ∙ all.0, above row by cmp alike x ys all.1)

-- entries are in ascending order if their rows are
pub entries_rise : {X : Type 0} (row : X → Row) (by : Row → Row → Ordering) (cmp : X → X → Ordering) → ((x y : X) → by (row x) (row y) ≡ cmp x y)
    → (xs : List X) → IsStrictlySortedBy by (map row xs) → IsStrictlySortedBy cmp xs
unfolding IsStrictlySortedBy
entries_rise row by cmp alike [] up = tt
entries_rise row by cmp alike (x ∷ xs) up = (above row by cmp alike x xs up.0, entries_rise row by cmp alike xs up.1)

-- ---- rows that determine their entries

back_all : {X : Type 0} (row : X → Row) (back : Row → X) → ((x : X) → back (row x) ≡ x) → (xs : List X) → map back (map row xs) ≡ xs
back_all row back returns xs = mapped_twice row back xs ∙ mapped_same (λ x. back (row x)) (λ x. x) xs (λ x h. returns x) ∙ mapped_itself xs

-- entries whose rows are in ascending order are determined by these rows, in any order
pub entries_same : {X : Type 0} (t : Table) (row : X → Row) (back : Row → X) → ((x : X) → back (row x) ≡ x) → (xs ys : List X) → IsStrictlySortedBy (row_cmp t) (map row xs)
    → IsStrictlySortedBy (row_cmp t) (map row ys)
    → IsPermutation (map row xs) (map row ys) → xs ≡ ys
entries_same t row back returns xs ys up also same =
    let rows : map row xs ≡ map row ys = rising_same (row_total t) (map row xs) (map row ys) up also (λ r h. permuted_has r (map row xs) (map row ys) same h)
    (λ r h. permuted_has r (map row ys) (map row xs) (IsPermutation-sym _ _ same) h) in
    sym (back_all row back returns xs) ∙ ap (map back) rows ∙ back_all row back returns ys

-- a value that was read and has the row of an entry represents that entry
pub entry_told : {V X : Type 0} (entry : V → X) (row : X → Row) (back : Row → X) → ((x : X) → back (row x) ≡ x) → (v : Option V) (x : Option X)
    → option_map (λ u. row (entry u)) v ≡ option_map row x → option_map entry v ≡ x
entry_told entry row back returns None None is = refl
entry_told entry row back returns None (Some x) is = absurd cc
entry_told entry row back returns (Some v) None is = absurd cc
entry_told entry row back returns (Some v) (Some x) is = ap Some (sym (returns (entry v)) ∙ ap back (some_same is) ∙ returns x)
  where
    some_same : {a b : Row} → ◌≡◌ {A = Option Row} (Some a) (Some b) → a ≡ b
    some_same e = cc

pub if_entry_told : {V X F : Type 0} (entry : V → X) (row : X → Row) (back : Row → X) → ((x : X) → back (row x) ≡ x) → (r : Result (Option V) F) (x : Option X)
    → IfOk r (λ v. option_map (λ u. row (entry u)) v ≡ option_map row x) → IfOk r (λ v. option_map entry v ≡ x)
if_entry_told entry row back returns (Ok v) x told = entry_told entry row back returns v x told
if_entry_told entry row back returns (Err f) x told = tt

-- the same statement for a list of entries
pub if_entries_told : {V X W F : Type 0} (items : W → List V) (entry : V → X) (row : X → Row) (back : Row → X) → ((x : X) → back (row x) ≡ x)
    → (r : Result W F) (xs : List X) (P : List Row → Type 0) → ((rows : List Row) → P rows → rows ≡ map row xs)
    → IfOk r (λ v. P (map (λ u. row (entry u)) (items v))) → IfOk r (λ v. map entry (items v) ≡ xs)
if_entries_told items entry row back returns (Ok v) xs P are told =
    sym (back_all row back returns (map entry (items v))) ∙ ap (map back) (mapped_twice entry row (items v) ∙ are (map (λ u. row (entry u)) (items v)) told) ∙ back_all row back returns xs
if_entries_told items entry row back returns (Err f) xs P are told = tt

-- ---- the only row with a given key

-- equal tests keep the same elements
pub filter_alike : {X : Type 0} (p q : X → Bool) → ((x : X) → p x ≡ q x) → (xs : List X) → filter p xs ≡ filter q xs
filter_alike p q alike [] = refl
filter_alike p q alike (x ∷ xs) = ap (λ b. cond b (x ∷ filter p xs) (filter p xs)) (alike x) ∙ ap (λ l. cond (q x) (x ∷ l) l) (filter_alike p q alike xs)

-- the rows that pass a test, in key order, are those of the entries that pass it
pub listed_as : {X : Type 0} (t : Table) (row : X → Row) (test : Row → Bool) (keep : X → Bool) → ((x : X) → test (row x) ≡ keep x) → (xs : List X) → IsStrictlySortedBy (row_cmp t) (map row xs)
    → (rows : List Row) → IsPermutation (filter test (map row xs)) rows → IsSorted (row_cmp t) rows → rows ≡ map row (filter keep xs)
listed_as t row test keep alike xs up rows same sorted =
    sym (found_same t rows (filter test (map row xs)) sorted (IsStrictlySortedBy-filter (row_cmp t) test (map row xs) up) same)
    ∙ filter-map test row xs ∙ ap (map row) (filter_alike (λ x. test (row x)) keep alike xs)

none_pass : {X : Type 0} (q : X → Bool) (P : X → Type 0) → ((x : X) → P x → q x ≡ false) → (xs : List X) → AllByRecursion P xs → filter q xs ≡ []
none_pass q P fails [] all = refl
none_pass q P fails (x ∷ xs) all = rw (fails x all.0) (none_pass q P fails xs all.1)

-- if all entries that pass a test have equal keys, at most one entry of a map passes it
one_found : {X : Type 0} {cmp : X → X → Ordering} (q : X → Bool) → ((x y : X) → q x ≡ true → q y ≡ true → cmp x y ≡ Equal) → (xs : List X)
    → IsStrictlySortedBy cmp xs → filter q xs ≡ option_to_list (find q xs)
one_found q apart [] up = refl
one_found {X} {cmp} q apart (x ∷ xs) up = go (q x) refl (one_found q apart xs (sorted_tail cmp x xs up))
  where
    fails : q x ≡ true → (y : X) → cmp x y ≡ Less → q y ≡ false
    fails is y below = go_y (q y) refl
      where
        go_y : (b : Bool) → q y ≡ b → q y ≡ false
        go_y true passes = absurd (let e : Less ≡ Equal = sym below ∙ apart x y is passes in cc)
        go_y false is_not = is_not

    go : (b : Bool) → q x ≡ b → filter q xs ≡ option_to_list (find q xs) → filter q (x ∷ xs) ≡ option_to_list (find q (x ∷ xs))
    go true is later = rw is (ap (λ l. x ∷ l) (none_pass q (λ y. cmp x y ≡ Less) (fails is) xs (sorted_head cmp x xs up)))
    go false is later = rw is later

mapped_option : {X : Type 0} (row : X → Row) (x : Option X) → map row (option_to_list x) ≡ option_to_list (option_map row x)
mapped_option row None = refl
mapped_option row (Some x) = refl

-- the row with a given key is that of the entry with that key
pub row_found : {X : Type 0} {cmp : X → X → Ordering} (row : X → Row) (key : Row) (compared : X → Ordering) → ((x : X) → begins_with key (row x) ≡ is_eq (compared x))
    → ((x y : X) → compared x ≡ Equal → compared y ≡ Equal → cmp x y ≡ Equal)
    → (xs : List X) → IsStrictlySortedBy cmp xs → filter (begins_with key) (map row xs) ≡ option_to_list (option_map row (entry_at compared xs))
row_found row key compared alike apart xs up =
    filter-map (begins_with key) row xs
    ∙ ap (map row) (filter_alike (λ x. begins_with key (row x)) (λ x. is_eq (compared x)) alike xs ∙ one_found (λ x. is_eq (compared x))
    (λ x y a b. apart x y (equal (compared x) a) (equal (compared y) b)) xs up)
    ∙ mapped_option row (entry_at compared xs)
  where
    equal : (o : Ordering) → is_eq o ≡ true → o ≡ Equal
    equal Equal is = refl
    equal _ is = absurd cc

-- if all rows can be read, so can the row of the entry found
pub found_fits : {X : Type 0} (R : Row → Type 0) (row : X → Row) (q : X → Bool) (xs : List X) → AllByRecursion R (map row xs) → IfSome (option_map row (find q xs)) R
found_fits R row q [] all = tt
found_fits {X} R row q (x ∷ xs) all = elim (q x) as (λ b. IfSome (option_map row (cond b (Some x) (find q xs))) R) [ true ↦ all.0 | false ↦ found_fits R row q xs all.1 ]
