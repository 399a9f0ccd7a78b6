-- What the rowids of a table, read in order, prove about the table.
use Rattle.std.proofs.lemmas.Bool.{cases_lt}
use Rattle.std.proofs.Common.{◌≡◌, ◌⊎◌, inl, inr, ℕ, ◌+◌, ◌<◌, ◌≤ℤ◌, ℤ, List, [], ◌∷◌, map, length, get_or, true, false, refl, sym, ap, subst, ◌∙◌, arith, Less, Equal, int_cmp, add-one, ◌<ℤ◌, ◌-◌}
use Rattle.std.specs.Ordering.{is_lt}
use Rattle.std.specs.List.Sorted.{IsStrictlySortedBy}
use Rattle.std.proofs.lemmas.Int.{ints}
use Rattle.std.proofs.lemmas.Cmp.{tied_itself}
use Rattle.std.proofs.lemmas.Bool.Decides.{nat_tests}
use Rattle.std.proofs.lemmas.List.Sorted.{IsPermutation-sym}
use Rattle.std.proofs.lemmas.Map.Keys.{sorted_from_all_adjacent, sorted_head, sorted_tail}
use Rattle.sqlite_rules.specs.Lists.{Has}
use Rattle.sqlite_rules.proofs.ListLemmas.{all_has}
use Rattle.sqlite_value.proofs.OrderLemmas.{value_cmp_total, value_cmp-Int}
use Rattle.sqlite.specs.declared.types.Value.{Value}
use Rattle.sqlite.specs.declared.types.Value.TheVariants.{Null, Int, Real, Text, Blob}
use Rattle.sqlite.specs.Order.{Row, value_cmp}
use Rattle.sqlite.specs.View.{is_int}
use Rattle.sqlite.specs.Tree.{rowid}
use Rattle.sqlite.specs.Effect.{Database}
use Rattle.tables.specs.declared.table.Table.{Table}
use Rattle.tables.specs.Schema.{tree_of}
use Rattle.tables.specs.Rows.{Keyed, HasWrongRowid, RepeatsRowid}
use Rattle.tables.specs.Reading.{ListsRowids, RowidsRise, RowidsFailToRise, alone}
use Rattle.tables.proofs.ListLemmas.{get_any, mapped_has, has_at, get_mapped, mapped_length, permuted_has}

pub no_integer : (v : Value) → ((n : ℤ) → ¬ (v ≡ Int n)) → is_int v ≡ false
no_integer Null none = refl
no_integer (Int n) none = absurd (none n refl)
no_integer (Real x) none = refl
no_integer (Text t) none = refl
no_integer (Blob b) none = refl

-- ---- the next rowid

-- the rowid of the row read at an index
pub rowid_there : (rows : List Row) (k : ℕ) (r : Row) (n : ℤ) → k < length rows → r ≡ get_or rows k r → rowid r ≡ Int n → rowid (get_or rows k []) ≡ Int n
rowid_there rows k r n low is id = ap rowid (get_any rows k [] r low ∙ sym is) ∙ id

pub ints_more : (rows : List Row) (i : ℕ) (n : ℤ) → rowid (get_or rows i []) ≡ Int n → ((k : ℕ) → k < i → is_int (rowid (get_or rows k [])) ≡ true) → (k : ℕ) → k < i + 1
    → is_int (rowid (get_or rows k [])) ≡ true
ints_more rows i n id before k low = elim (cases_lt k i) [
  | inl less ↦ before k less
  | inr past ↦ let same : i ≡ k = omega (arith, low, past) in ap is_int (subst (λ j. rowid (get_or rows j []) ≡ Int n) same id)
]

pub rise_more : (rows : List Row) (i : ℕ) (m n : ℤ) → 0 < i → rowid (get_or rows (i - 1) []) ≡ Int m → rowid (get_or rows i []) ≡ Int n → m <ℤ n
    → ((k : ℕ) → k + 1 < i → value_cmp (rowid (get_or rows k [])) (rowid (get_or rows (k + 1) [])) ≡ Less)
    → (k : ℕ) → k + 1 < i + 1 → value_cmp (rowid (get_or rows k [])) (rowid (get_or rows (k + 1) [])) ≡ Less
rise_more rows i m n some first second less before k low = elim (cases_lt (k + 1) i) [
  | inl earlier ↦ before k earlier
  | inr past ↦
      let same : i ≡ k + 1 = omega (arith, low, past) in
      let back : i - 1 ≡ k = omega (arith, same) in
      rw (subst (λ j. rowid (get_or rows j []) ≡ Int m) back first, subst (λ j. rowid (get_or rows j []) ≡ Int n) same second) (value_cmp-Int m n ∙ lower m n less)
]
  where
    lower : (a b : ℤ) → a <ℤ b → int_cmp a b ≡ Less
    lower a b h = grind (arith, ints, nat_tests)

pub fall_there : (rows : List Row) (i : ℕ) (m n : ℤ) → 0 < i → i < length rows → rowid (get_or rows (i - 1) []) ≡ Int m → rowid (get_or rows i []) ≡ Int n → n ≤ℤ m → RowidsFailToRise rows
fall_there rows i m n some low first second above =
    let next : i ≡ i - 1 + 1 = omega (arith, some) in
    inr ((i - 1), m, n, omega (arith, some, low), first, subst (λ j. rowid (get_or rows j []) ≡ Int n) next second, above)

-- ---- ascending rowids

above : (r : Row) (rows : List Row) → IsStrictlySortedBy value_cmp (map rowid (r ∷ rows)) → (x : Row) → Has rows x → rowid x ≡ rowid r → ⊥
above r rows up x h same =
    let lower = all_has (λ v. value_cmp (rowid r) v ≡ Less) (map rowid rows) (rowid x) (sorted_head value_cmp (rowid r) (map rowid rows) up) (mapped_has rowid rows x h) in
    let tie = tied_itself value_cmp_total (rowid r) in
    let e : Less ≡ Equal = sym (subst (λ v. value_cmp (rowid r) v ≡ Less) same lower) ∙ tie in
    absurd cc

once_each : (rows : List Row) → IsStrictlySortedBy value_cmp (map rowid rows) → (a b : Row) → Has rows a → Has rows b → rowid a ≡ rowid b → a ≡ b
once_each [] up a b h k e = absurd h
once_each (r ∷ rows) up a b (inl h) (inl k) e = h ∙ sym k
once_each (r ∷ rows) up a b (inl h) (inr k) e = absurd (above r rows up b k (sym e ∙ ap rowid h))
once_each (r ∷ rows) up a b (inr h) (inl k) e = absurd (above r rows up a h (e ∙ ap rowid k))
once_each (r ∷ rows) up a b (inr h) (inr k) e = once_each rows (sorted_tail value_cmp (rowid r) (map rowid rows) up) a b h k e

-- the index of a rowid in table order
shown_at : (ordered rows : List Row) → rows ≡ map alone ordered → (k : ℕ) → k < length rows → (k < length ordered) × (rowid (get_or rows k []) ≡ rowid (get_or ordered k []))
shown_at ordered rows shown k low =
    let below : k < length ordered = let n = ap length shown ∙ mapped_length alone ordered in omega (arith, low, n) in
    (below, ap rowid (ap (λ l. get_or l k []) shown ∙ get_mapped alone ordered k [] [] below))

rising : (ordered : List Row) → ((k : ℕ) → k + 1 < length ordered → value_cmp (rowid (get_or ordered k [])) (rowid (get_or ordered (k + 1) [])) ≡ Less)
    → IsStrictlySortedBy value_cmp (map rowid ordered)
rising ordered each = sorted_from_all_adjacent value_cmp_total (map rowid ordered) Null (λ k h.
    let next : k + 1 < length ordered = let n = mapped_length rowid ordered in omega (arith, h, n) in
    let here : k < length ordered = omega (arith, next) in
    rw (get_mapped rowid ordered k Null [] here, get_mapped rowid ordered (k + 1) Null [] next) (each k next))

pub keyed_from : (t : Table) (db : Database) (rows : List Row) → ListsRowids t db rows → RowidsRise rows → Keyed (db.trees (tree_of t))
keyed_from t db rows lists rise =
    let ordered = lists.ordered in
    let len : length rows ≡ length ordered = ap length lists.shown ∙ mapped_length alone ordered in
    let up = rising ordered (λ k h.
    let next : k + 1 < length rows = omega (arith, h, len) in
    let here : k < length rows = omega (arith, next) in
    rw (sym (shown_at ordered rows lists.shown k here).1, sym (shown_at ordered rows lists.shown (k + 1) next).1) (rise.rise k next)) in
    record {
      ints = λ r h. each (map rowid ordered) (λ k low.
          let here : k < length rows = let n = mapped_length rowid ordered in omega (arith, low, n, len) in
          let there : k < length ordered = omega (arith, here, len) in
          rw (get_mapped rowid ordered k Null [] there, sym (shown_at ordered rows lists.shown k here).1) (rise.ints k here))
          (rowid r) (mapped_has rowid ordered r (permuted_has r (db.trees (tree_of t)) ordered lists.same h));
      once = λ a b h k. once_each ordered up a b (permuted_has a (db.trees (tree_of t)) ordered lists.same h) (permuted_has b (db.trees (tree_of t)) ordered lists.same k);
    }
  where
    each : (vs : List Value) → ((k : ℕ) → k < length vs → is_int (get_or vs k Null) ≡ true) → (v : Value) → Has vs v → is_int v ≡ true
    each [] all v h = absurd h
    each (w ∷ ws) all v (inl same) = ap is_int same ∙ all 0 (omega arith)
    each (w ∷ ws) all v (inr later) = each ws (λ k low. subst (λ n. is_int (get_or (w ∷ ws) n Null) ≡ true) (add-one k) (all (k + 1) (omega (arith, low)))) v later

-- ---- rowids that don't ascend: the query's order implies that two rows share a rowid

not_above : (a b : ℤ) → is_lt (int_cmp b a) ≡ false → b ≤ℤ a → a ≡ b
not_above a b low high = grind (arith, ints, nat_tests)

pub repeated : (t : Table) (db : Database) (rows : List Row) → ListsRowids t db rows → RowidsFailToRise rows → HasWrongRowid (db.trees (tree_of t)) ⊎ RepeatsRowid (db.trees (tree_of t))
repeated t db rows lists (inl wrong) =
    let k = wrong.0 in
    let there = shown_at lists.ordered rows lists.shown k wrong.1 in
    let r = get_or lists.ordered k [] in
    inl (r, permuted_has r lists.ordered (db.trees (tree_of t)) (IsPermutation-sym _ _ lists.same) (has_at lists.ordered k [] there.0), ap is_int (sym there.1) ∙ wrong.2)
repeated t db rows lists (inr repeats) =
    let k = repeats.0 in
    let a = repeats.1 in
    let b = repeats.2 in
    let low = repeats.3 in
    let next = shown_at lists.ordered rows lists.shown (k + 1) low in
    let here = shown_at lists.ordered rows lists.shown k (omega (arith, low)) in
    let first : rowid (get_or lists.ordered k []) ≡ Int a = sym here.1 ∙ repeats.4 in
    let second : rowid (get_or lists.ordered (k + 1) []) ≡ Int b = sym next.1 ∙ repeats.5 in
    let sorted : is_lt (int_cmp b a) ≡ false = ap is_lt (sym (value_cmp-Int b a)) ∙ rw (first, second) at (lists.sorted k [] (omega arith) next.0) in
    inr (record { ordered = lists.ordered; same = lists.same; place = k; within = next.0; equal = first ∙ ap Int (not_above a b sorted repeats.6) ∙ sym second })
