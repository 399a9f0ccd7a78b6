-- Rows identified by their rowids.
use Rattle.std.proofs.Common.{◌≡◌, inl, inr, ℤ, List, [], ◌∷◌, map, filter, Bool, true, false, not, cond, refl, sym, ap, subst, ◌∙◌, true≢false, ◌&&◌, ◌||◌, arith}
use Rattle.std.specs.List.{list_any}
use Rattle.std.specs.List.Sorted.{IsPermutation}
use Rattle.std.specs.Ordering.{is_eq, int_cmp}
use Rattle.std.proofs.lemmas.Bool.{cases_Bool}
use Rattle.std.proofs.lemmas.Cmp.{tied_itself}
use Rattle.std.proofs.lemmas.Int.{ints}
use Rattle.std.proofs.lemmas.Bool.Decides.{nat_tests}
use Rattle.std.proofs.lemmas.List.Sorted.{IsPermutation-sym}
use Rattle.sqlite_value.proofs.OrderLemmas.{value_cmp_total, value_cmp-Int}
use Rattle.sqlite_rules.specs.Lists.{Has}
use Rattle.sqlite_rules.specs.Calls.{ids_of}
use Rattle.sqlite_rules.proofs.ListLemmas.{some_has, some_from, has_filtered}
use Rattle.sqlite_rules.proofs.TableLemmas.{int_is}
use Rattle.sqlite.specs.declared.types.Value.{Value}
use Rattle.sqlite.specs.declared.types.Value.TheVariants.{Int}
use Rattle.sqlite.specs.Order.{Row, value_cmp}
use Rattle.sqlite.specs.View.{is_int}
use Rattle.sqlite.specs.Tree.{rowid, has_rowid, without_rowid}
use Rattle.sqlite.specs.Edit.{id_in, without_all}
use Rattle.tables.specs.Rows.{Keyed}
use Rattle.tables.proofs.ListLemmas.{mapped_has, has_mapped, filtered_has, filtered_same, permuted_has, all_pass}

-- ---- lists

filter_twice : {X : Type 0} (p q : X → Bool) (xs : List X) → filter p (filter q xs) ≡ filter (λ x. q x && p x) xs
filter_twice p q [] = refl
filter_twice p q (x ∷ xs) = go (q x) (filter_twice p q xs)
  where
    go : (b : Bool) → filter p (filter q xs) ≡ filter (λ y. q y && p y) xs
        → filter p (cond b (x ∷ filter q xs) (filter q xs)) ≡ cond (b && p x) (x ∷ filter (λ y. q y && p y) xs) (filter (λ y. q y && p y) xs)
    go true later = ap (λ l. cond (p x) (x ∷ l) l) later
    go false later = later

-- ---- rowids

abbrev named : List ℤ → Row → Bool
named ids r = list_any (λ id. has_rowid id r) ids

not_or : (a b : Bool) → (not a && not b) ≡ not (a || b)
not_or true b = refl
not_or false b = refl

without_named : (ids : List ℤ) (rows : List Row) → without_all rows ids ≡ filter (λ r. not (named ids r)) rows
without_named [] rows = sym (all_pass rows)
without_named (id ∷ ids) rows =
    without_named ids (without_rowid id rows) ∙ filter_twice (λ r. not (named ids r)) (λ r. not (has_rowid id r)) rows
    ∙ filtered_same _ _ rows (λ r _. not_or (has_rowid id r) (named ids r))

pub tied : (a b : ℤ) → is_eq (int_cmp a b) ≡ true → a ≡ b
tied a b h = grind (arith, ints, nat_tests)

same_id : (v : Value) (id : ℤ) → is_int v ≡ true → is_eq (value_cmp v (Int id)) ≡ true → v ≡ Int id
same_id v id int tie = int_is v int ∙ ap Int (tied (id_in v) id (sym (ap is_eq (value_cmp-Int (id_in v) id)) ∙ ap (λ x. is_eq (value_cmp x (Int id))) (sym (int_is v int)) ∙ tie))

itself : (r : Row) → is_int (rowid r) ≡ true → has_rowid (id_in (rowid r)) r ≡ true
itself r int = ap (λ v. is_eq (value_cmp v (Int (id_in (rowid r))))) (int_is (rowid r) int) ∙ ap is_eq (tied_itself value_cmp_total (Int (id_in (rowid r))))

-- ---- rows that a query selects

-- The rows that pass a test are selected, and returned with their rowids.
module _ (p : Row → Bool) (show : Row → Row) (same_rowid : (r : Row) → rowid (show r) ≡ rowid r) (rows : List Row) (keyed : Keyed rows)
    (ordered found : List Row) (from : IsPermutation (filter p rows) ordered) (shown : found ≡ map show ordered)
  where
    -- a row that was selected is in the table and passes the test
    pub picked : (r : Row) → Has ordered r → Has rows r × (p r ≡ true)
    picked r there = has_filtered p rows r (permuted_has r ordered (filter p rows) (IsPermutation-sym (filter p rows) ordered from) there)

    -- the returned rowids identify the rows that pass the test
    picks : (r : Row) → Has rows r → named (ids_of found) r ≡ p r
    picks r here = elim (cases_Bool (p r)) [
      | inl passes ↦
          let there : Has found (show r) = subst (λ l. Has l (show r)) (sym shown) (mapped_has show ordered r (permuted_has r (filter p rows) ordered from (filtered_has p rows r here passes))) in
          let id : Has (ids_of found) (id_in (rowid r)) = subst (λ v. Has (ids_of found) (id_in v)) (same_rowid r) (mapped_has (λ y. id_in (rowid y)) found (show r) there) in
          some_from (λ i. has_rowid i r) (ids_of found) (id_in (rowid r)) id (itself r (keyed.ints r here)) ∙ sym passes
      | inr fails ↦ elim (cases_Bool (named (ids_of found) r)) [
        | inl some ↦
            let id = some_has (λ i. has_rowid i r) (ids_of found) some in
            let x = has_mapped (λ y. id_in (rowid y)) found id.0 id.1 in
            let o = has_mapped show ordered x.0 (subst (λ l. Has l x.0) shown x.1) in
            let other = picked o.0 o.1 in
            let its : rowid o.0 ≡ Int id.0 = int_is (rowid o.0) (keyed.ints o.0 other.0) ∙ ap (λ v. Int (id_in v)) (sym (ap rowid o.2 ∙ same_rowid o.0)) ∙ ap Int (sym x.2) in
            let mine : rowid r ≡ Int id.0 = same_id (rowid r) id.0 (keyed.ints r here) id.2 in
            let same : r ≡ o.0 = keyed.once r o.0 here other.0 (mine ∙ sym its) in
            absurd (true≢false (sym other.1 ∙ ap p (sym same) ∙ fails))
        | inr none ↦ none ∙ sym fails
      ]
    ]

    -- once the returned rows are removed, those that don't pass the test remain
    pub picked_left : without_all rows (ids_of found) ≡ filter (λ r. not (p r)) rows
    picked_left = without_named (ids_of found) rows ∙ filtered_same _ _ rows (λ r here. ap not (picks r here))

-- rowids also identify the rows of a subset
pub keyed_filtered : (p : Row → Bool) (rows : List Row) → Keyed rows → Keyed (filter p rows)
keyed_filtered p rows keyed =
    let was = λ (r : Row) (there : Has (filter p rows) r). (has_filtered p rows r there).0 in
    record { ints = λ r there. keyed.ints r (was r there); once = λ x y k l. keyed.once x y (was x k) (was y l) }
