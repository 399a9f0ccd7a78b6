-- Keys, as SQL compares and orders them.
use Rattle.std.proofs.Common.{◌≡◌, ◌≢◌, ℕ, ◌+◌, ◌-◌, ◌<◌, ◌≤◌, ◌==◌, ◌&&◌, ℤ, pos, List, [], ◌∷◌, map, length, get_or, true, false, refl, sym, ap, ◌∙◌, arith, Ordering, Less, Equal, Greater}
use Rattle.std.proofs.Common.{int_cmp, nat_cmp, Bool, Some}
use Rattle.std.specs.Ordering.{is_lt, is_eq, ordering_then, ordering_reverse}
use Rattle.std.specs.Cmp.{IsTotalOrder}
use Rattle.std.specs.Cmp.Lexicographic.{slice_cmp}
use Rattle.std.specs.List.{AllByRecursion}
use Rattle.std.specs.List.Sorted.{IsSorted, IsStrictlySortedBy}
use Rattle.std.proofs.Math.Bool.{and-true}
use Rattle.std.proofs.lemmas.Cmp.{nat_cmp_total, nat_list_cmp_total}
use Rattle.std.proofs.lemmas.Bool.Decides.{nat_tests}
use Rattle.std.proofs.lemmas.Int.{ints}
use Rattle.std.specs.Str.{bytes_eq}
use Rattle.std.proofs.lemmas.Map.Text.{is_eq-slice_cmp}
use Rattle.std.proofs.lemmas.Map.Keys.{sorted_from_all_adjacent}
use Rattle.sqlite_value.proofs.OrderLemmas.{value_cmp-Int, value_cmp-Text, value_cmp-Blob, then-Equal}
use Rattle.sqlite.specs.declared.types.Value.TheVariants.{Int, Text, Blob}
use Rattle.sqlite.specs.Collation.TheVariants.{Binary}
use Rattle.sqlite.specs.Ops.{binary, is_true, from_truth}
use Rattle.sqlite_schema.specs.Rules.{equal}
use Rattle.sqlite.specs.Order.{Row, value_cmp}
use Rattle.tables.specs.Rows.{keys_cmp, row_cmp, ascending_keys}
use Rattle.tables.specs.declared.table.Table.{Table}
use Rattle.tables.specs.Schema.{shape}
use Rattle.tables.specs.Reading.{FailsToRise}
use Rattle.sqlite_sql.proofs.QueryLemmas.{key_cmp_total}
use Rattle.tables.proofs.ListLemmas.{get_any}

-- ---- SQL's = on keys

-- the truth value decoded from its number
told : (b : Bool) → is_true (from_truth (Some b)) ≡ b
told true = refl
told false = refl

pub equal-Int : (m n : ℤ) → equal Binary (Int m) (Int n) ≡ is_eq (int_cmp m n)
unfolding binary
equal-Int m n = told (is_eq (value_cmp (Int m) (Int n))) ∙ ap is_eq (value_cmp-Int m n)

pub equal-Text : (s t : List ℕ) → equal Binary (Text s) (Text t) ≡ is_eq (slice_cmp nat_cmp s t)
unfolding binary
equal-Text s t = told (is_eq (value_cmp (Text s) (Text t))) ∙ ap is_eq (value_cmp-Text s t)

pub equal-Blob : (s t : List ℕ) → equal Binary (Blob s) (Blob t) ≡ is_eq (slice_cmp nat_cmp s t)
unfolding binary
equal-Blob s t = told (is_eq (value_cmp (Blob s) (Blob t))) ∙ ap is_eq (value_cmp-Blob s t)

pub equal-number : (m n : ℕ) → equal Binary (Int (pos m)) (Int (pos n)) ≡ (m == n)
equal-number m n = equal-Int (pos m) (pos n) ∙ grind (arith, ints, nat_tests)

pub equal-words : (s t : List ℕ) → equal Binary (Text s) (Text t) ≡ bytes_eq s t
equal-words s t = equal-Text s t ∙ is_eq-slice_cmp s t

-- ---- the order of keys

turned : {X : Type 0} {cmp : X → X → Ordering} → IsTotalOrder cmp → (x y : X) → is_eq (cmp x y) ≡ is_eq (cmp y x)
turned {X} {cmp} total x y = ap is_eq (total.antisymm x y) ∙ go (cmp y x)
  where
    go : (o : Ordering) → is_eq (ordering_reverse o) ≡ is_eq o
    go Less = refl
    go Equal = refl
    go Greater = refl

then_equal : (a b : Ordering) → (is_eq a && is_eq b) ≡ is_eq (ordering_then a b)
then_equal Less b = refl
then_equal Equal b = refl
then_equal Greater b = refl

numbers : (m n : ℕ) → int_cmp (pos m) (pos n) ≡ nat_cmp m n
numbers m n = grind (arith, ints, nat_tests)

pub one_number : (m n : ℕ) → keys_cmp 1 (Int (pos m) ∷ []) (Int (pos n) ∷ []) ≡ nat_cmp m n
one_number m n = then-Equal (value_cmp (Int (pos m)) (Int (pos n))) ∙ value_cmp-Int (pos m) (pos n) ∙ numbers m n

pub two_numbers : (a b m n : ℕ) → keys_cmp 2 (Int (pos a) ∷ Int (pos b) ∷ []) (Int (pos m) ∷ Int (pos n) ∷ []) ≡ ordering_then (nat_cmp a m) (nat_cmp b n)
two_numbers a b m n =
    ap (λ o. ordering_then o (ordering_then (value_cmp (Int (pos b)) (Int (pos n))) Equal)) (value_cmp-Int (pos a) (pos m) ∙ numbers a m)
    ∙ ap (ordering_then (nat_cmp a m)) (one_number b n)

pub number_and_text : (a m : ℕ) (s t : List ℕ) → keys_cmp 2 (Int (pos a) ∷ Text s ∷ []) (Int (pos m) ∷ Text t ∷ []) ≡ ordering_then (nat_cmp a m) (slice_cmp nat_cmp s t)
number_and_text a m s t =
    ap (λ o. ordering_then o (ordering_then (value_cmp (Text s) (Text t)) Equal)) (value_cmp-Int (pos a) (pos m) ∙ numbers a m)
    ∙ ap (ordering_then (nat_cmp a m)) (then-Equal (value_cmp (Text s) (Text t)) ∙ value_cmp-Text s t)

pub number_and_bytes : (a m : ℕ) (s t : List ℕ) → keys_cmp 2 (Int (pos a) ∷ Blob s ∷ []) (Int (pos m) ∷ Blob t ∷ []) ≡ ordering_then (nat_cmp a m) (slice_cmp nat_cmp s t)
number_and_bytes a m s t =
    ap (λ o. ordering_then o (ordering_then (value_cmp (Blob s) (Blob t)) Equal)) (value_cmp-Int (pos a) (pos m) ∙ numbers a m)
    ∙ ap (ordering_then (nat_cmp a m)) (then-Equal (value_cmp (Blob s) (Blob t)) ∙ value_cmp-Blob s t)

pub three_numbers : (a b c k m n : ℕ) → keys_cmp 3 (Int (pos a) ∷ Int (pos b) ∷ Int (pos c) ∷ []) (Int (pos k) ∷ Int (pos m) ∷ Int (pos n) ∷ [])
    ≡ ordering_then (nat_cmp a k) (ordering_then (nat_cmp b m) (nat_cmp c n))
three_numbers a b c k m n =
    ap (λ o. ordering_then o (ordering_then (value_cmp (Int (pos b)) (Int (pos m))) (ordering_then (value_cmp (Int (pos c)) (Int (pos n))) Equal))) (value_cmp-Int (pos a) (pos k) ∙ numbers a k)
    ∙ ap (ordering_then (nat_cmp a k)) (two_numbers b c m n)

pub four_numbers : (a b c d k l m n : ℕ) → keys_cmp 4 (Int (pos a) ∷ Int (pos b) ∷ Int (pos c) ∷ Int (pos d) ∷ []) (Int (pos k) ∷ Int (pos l) ∷ Int (pos m) ∷ Int (pos n) ∷ [])
    ≡ ordering_then (nat_cmp a k) (ordering_then (nat_cmp b l) (ordering_then (nat_cmp c m) (nat_cmp d n)))
four_numbers a b c d k l m n =
    ap (λ o. ordering_then o (ordering_then (value_cmp (Int (pos b)) (Int (pos l)))
    (ordering_then (value_cmp (Int (pos c)) (Int (pos m))) (ordering_then (value_cmp (Int (pos d)) (Int (pos n))) Equal)))) (value_cmp-Int (pos a) (pos k) ∙ numbers a k)
    ∙ ap (λ o. ordering_then (nat_cmp a k) (ordering_then o (ordering_then (value_cmp (Int (pos c)) (Int (pos m))) (ordering_then (value_cmp (Int (pos d)) (Int (pos n))) Equal))))
    (value_cmp-Int (pos b) (pos l) ∙ numbers b l)
    ∙ ap (λ o. ordering_then (nat_cmp a k) (ordering_then (nat_cmp b l) o)) (two_numbers c d m n)

-- ---- a row that begins with a key

pub key_of_number : (n m : ℕ) → (equal Binary (Int (pos m)) (Int (pos n)) && true) ≡ is_eq (nat_cmp n m)
key_of_number n m = and-true _ ∙ equal-Int (pos m) (pos n) ∙ ap is_eq (numbers m n) ∙ turned nat_cmp_total m n

pub key_of_two_numbers : (a b m n : ℕ) → (equal Binary (Int (pos m)) (Int (pos a)) && (equal Binary (Int (pos n)) (Int (pos b)) && true)) ≡ is_eq (ordering_then (nat_cmp a m) (nat_cmp b n))
key_of_two_numbers a b m n =
    ap (λ x. x && (equal Binary (Int (pos n)) (Int (pos b)) && true)) (equal-Int (pos m) (pos a) ∙ ap is_eq (numbers m a) ∙ turned nat_cmp_total m a)
    ∙ ap (λ x. is_eq (nat_cmp a m) && x) (key_of_number b n) ∙ then_equal (nat_cmp a m) (nat_cmp b n)

pub key_of_three_numbers : (a b c k m n : ℕ) → (equal Binary (Int (pos k)) (Int (pos a)) && (equal Binary (Int (pos m)) (Int (pos b)) && (equal Binary (Int (pos n)) (Int (pos c)) && true)))
    ≡ is_eq (ordering_then (nat_cmp a k) (ordering_then (nat_cmp b m) (nat_cmp c n)))
key_of_three_numbers a b c k m n =
    ap (λ x. x && (equal Binary (Int (pos m)) (Int (pos b)) && (equal Binary (Int (pos n)) (Int (pos c)) && true))) (equal-Int (pos k) (pos a) ∙ ap is_eq (numbers k a) ∙ turned nat_cmp_total k a)
    ∙ ap (λ x. is_eq (nat_cmp a k) && x) (key_of_two_numbers b c m n) ∙ then_equal (nat_cmp a k) (ordering_then (nat_cmp b m) (nat_cmp c n))

-- the same statement for a single number
pub same_number : (a k : ℕ) → (equal Binary (Int (pos k)) (Int (pos a)) && true) ≡ (k == a)
same_number a k = and-true _ ∙ equal-number k a

pub same_three_numbers : (a b c k m n : ℕ) → (equal Binary (Int (pos k)) (Int (pos a)) && (equal Binary (Int (pos m)) (Int (pos b)) && (equal Binary (Int (pos n)) (Int (pos c)) && true)))
    ≡ ((k == a) && ((m == b) && (n == c)))
same_three_numbers a b c k m n = rw (equal-number k a, equal-number m b, same_number c n) refl

pub key_of_number_and_text : (n m : ℕ) (s t : List ℕ) → (equal Binary (Int (pos m)) (Int (pos n)) && (equal Binary (Text t) (Text s) && true))
    ≡ is_eq (ordering_then (nat_cmp n m) (slice_cmp nat_cmp s t))
key_of_number_and_text n m s t =
    ap (λ b. b && (equal Binary (Text t) (Text s) && true)) (equal-Int (pos m) (pos n) ∙ ap is_eq (numbers m n) ∙ turned nat_cmp_total m n)
    ∙ ap (λ b. is_eq (nat_cmp n m) && b) (and-true _ ∙ equal-Text t s ∙ turned nat_list_cmp_total t s) ∙ then_equal (nat_cmp n m) (slice_cmp nat_cmp s t)

pub key_of_number_and_bytes : (n m : ℕ) (s t : List ℕ) → (equal Binary (Int (pos m)) (Int (pos n)) && (equal Binary (Blob t) (Blob s) && true))
    ≡ is_eq (ordering_then (nat_cmp n m) (slice_cmp nat_cmp s t))
key_of_number_and_bytes n m s t =
    ap (λ b. b && (equal Binary (Blob t) (Blob s) && true)) (equal-Int (pos m) (pos n) ∙ ap is_eq (numbers m n) ∙ turned nat_cmp_total m n)
    ∙ ap (λ b. is_eq (nat_cmp n m) && b) (and-true _ ∙ equal-Blob t s ∙ turned nat_list_cmp_total t s) ∙ then_equal (nat_cmp n m) (slice_cmp nat_cmp s t)

-- ---- ascending rows

pub row_total : (t : Table) → IsTotalOrder (row_cmp t)
row_total t = key_cmp_total (ascending_keys (shape t).key) 0

pub rise_all : (t : Table) (rows : List Row) → ((k : ℕ) → k + 1 < length rows → row_cmp t (get_or rows k []) (get_or rows (k + 1) []) ≡ Less) → IsStrictlySortedBy (row_cmp t) rows
rise_all t rows each = sorted_from_all_adjacent (row_total t) rows [] each

-- a row whose key isn't above that of the preceding row
pub fails_there : (t : Table) (rows : List Row) (i : ℕ) (a b : Row) → 1 ≤ i → i < length rows → a ≡ get_or rows (i - 1) a → b ≡ get_or rows i b → row_cmp t a b ≢ Less → FailsToRise t rows
fails_there t rows i a b above below first second not_less =
    let next : (i - 1) + 1 ≡ i = omega (arith, above) in
    ((i - 1), omega (arith, above, below), rw (next, get_any rows (i - 1) [] a (omega (arith, above, below)), get_any rows i [] b below, sym first, sym second) not_less)

falls : (t : Table) (x y : Row) → is_lt (row_cmp t y x) ≡ false → row_cmp t x y ≡ Greater → ⊥
falls t x y low greater =
    let turned : row_cmp t y x ≡ Less = (row_total t).antisymm y x ∙ ap ordering_reverse greater in
    let e : true ≡ false = sym (ap is_lt turned) ∙ low in
    absurd cc

-- if two adjacent rows of a list in key order don't ascend, they have the same key
pub one_key : (t : Table) (rows : List Row) → IsSorted (row_cmp t) rows → (fails : FailsToRise t rows) → row_cmp t (get_or rows fails.0 []) (get_or rows (fails.0 + 1) []) ≡ Equal
one_key t rows sorted fails = tie (row_cmp t (get_or rows fails.0 []) (get_or rows (fails.0 + 1) [])) refl
  where
    tie : (o : Ordering) → row_cmp t (get_or rows fails.0 []) (get_or rows (fails.0 + 1) []) ≡ o → row_cmp t (get_or rows fails.0 []) (get_or rows (fails.0 + 1) []) ≡ Equal
    tie Less is = absurd (fails.2 is)
    tie Equal is = is
    tie Greater is = absurd (falls t (get_or rows fails.0 []) (get_or rows (fails.0 + 1) []) (sorted fails.0 [] (omega arith) fails.1) is)

-- ---- rows of entries

below : {X : Type 0} (row : X → Row) (by : Row → Row → Ordering) (cmp : X → X → Ordering) → ((x y : X) → by (row x) (row y) ≡ cmp x y) → (x : X) (xs : List X)
    → AllByRecursion (λ y. cmp x y ≡ Less) xs → AllByRecursion (λ r. by (row x) r ≡ Less) (map row xs)
below row by cmp alike x [] all = tt
below row by cmp alike x (y ∷ ys) all = (alike x y ∙ all.0, below row by cmp alike x ys all.1)

-- the rows of entries are in ascending order if the entries are
pub rows_rise : {X : Type 0} (row : X → Row) (by : Row → Row → Ordering) (cmp : X → X → Ordering) → ((x y : X) → by (row x) (row y) ≡ cmp x y) → (xs : List X) → IsStrictlySortedBy cmp xs
    → IsStrictlySortedBy by (map row xs)
unfolding IsStrictlySortedBy
rows_rise row by cmp alike [] up = tt
rows_rise row by cmp alike (x ∷ xs) up = (below row by cmp alike x xs up.0, rows_rise row by cmp alike xs up.1)
