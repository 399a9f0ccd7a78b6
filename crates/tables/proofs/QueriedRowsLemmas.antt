-- What a query finds.
use Rattle.std.proofs.Common.{◌≡◌, ◌⊎◌, inl, inr, List, [], ◌∷◌, map, filter, length, Option, Some, None, IfSome, slice_index_or, option_map, Bool, refl, sym, ap, subst, ◌∙◌, arith}
use Rattle.std.specs.Option.{option_to_list}
use Rattle.std.specs.List.{AllByRecursion}
use Rattle.std.specs.List.Sorted.{IsPermutation}
use Rattle.std.proofs.lemmas.List.Sorted.{IsPermutation-sym, length_permutation}
use Rattle.sqlite_rules.specs.Lists.{Has}
use Rattle.sqlite_rules.proofs.ListLemmas.{all_has, test_has, has_filtered}
use Rattle.sqlite.proofs.Callers.{one_permutation}
use Rattle.sqlite.specs.Order.{Row}
use Rattle.sqlite.specs.State.{State}
use Rattle.tables.specs.declared.table.Table.{Table}
use Rattle.tables.specs.declared.fault.Fault.{Fault}
use Rattle.tables.specs.declared.fault.Fault.TheVariants.{Memory, Damaged}
use Rattle.tables.specs.Schema.{columns_of}
use Rattle.tables.specs.Rows.{at, column_places, is_row_of}
use Rattle.tables.specs.Contents.{Contents, Rests}
use Rattle.tables.specs.Reading.{Finds, HasInvalidRow}
use Rattle.tables.proofs.ListLemmas.{mapped_same, mapped_itself, permuted_has, has_at}
use Rattle.tables.proofs.ColumnPlaceLemmas.{typed_at}
use Rattle.tables.proofs.ListingLemmas.{office_of}

-- a row of an office has exactly the table's columns
pub itself : (t : Table) (c : Contents) (s : State) → Rests c s → (r : Row) → Has (c t) r → at (column_places t) r ≡ r
itself t c s rests r there = typed_at (columns_of t) r (test_has (is_row_of t) (c t) r ((office_of c s rests).holds t).typed there)

-- the rows of the entries are the rows found
pub found_as : (t : Table) (test : Row → Bool) (c : Contents) (rows shown : List Row) → Finds t test c rows → map (at (column_places t)) rows ≡ shown → (s : State) → Rests c s → Finds t test c shown
found_as t test c rows shown finds is s rests =
    let whole : map (at (column_places t)) rows ≡ rows =
    mapped_same (at (column_places t)) (λ r. r) rows (λ r h. itself t c s rests r (has_filtered test (c t) r (permuted_has r rows (filter test (c t)) (IsPermutation-sym _ _ finds.same) h)).0)
    ∙ mapped_itself rows in
    subst (Finds t test c) (sym whole ∙ is) finds

-- if all rows represent entries, the only fault is `Memory`
pub found_cause : (t : Table) (test : Row → Bool) (c : Contents) (IsRow : Row → Type 0) (rows : List Row) (f : Fault) → Finds t test c rows → AllByRecursion IsRow (c t)
    → (f ≡ Memory) ⊎ ((f ≡ Damaged) × HasInvalidRow IsRow rows) → f ≡ Memory
found_cause t test c IsRow rows f finds all (inl memory) = memory
found_cause t test c IsRow rows f finds all (inr wrong) =
    let k = wrong.1 in
    let there = has_filtered test (c t) _ (permuted_has _ rows (filter test (c t)) (IsPermutation-sym _ _ finds.same) (has_at rows k.0 [] k.1)) in
    absurd (k.2 (all_has IsRow (c t) _ all there.0))

-- ---- the row with a given key

-- a query's only row doesn't represent an entry
pub one_other : (IsRow : Row → Type 0) (o : Option Row) (rows : List Row) → rows ≡ option_to_list o → HasInvalidRow IsRow rows → ¬ IfSome o IsRow
one_other IsRow None rows is wrong fits = let low = wrong.1 in let none = ap length is in omega (arith, low, none)
one_other IsRow (Some r) rows is wrong fits =
    let low = wrong.1 in
    let one = ap length is in
    let first : wrong.0 ≡ 0 = omega (arith, low, one) in
    wrong.2 (subst IsRow (sym (ap (λ k. slice_index_or rows k []) first ∙ ap (λ l. slice_index_or l 0 []) is)) fits)

pub one_found : (t : Table) (test : Row → Bool) (c : Contents) (o : Option Row) (rows : List Row) → filter test (c t) ≡ option_to_list o → Finds t test c rows → rows ≡ option_to_list o
one_found t test c None [] only finds = refl
one_found t test c None (r ∷ rows) only finds = absurd (let n = length_permutation _ _ finds.same ∙ refl in let none = ap length only in omega (arith, n, none))
one_found t test c (Some x) rows only finds = one_permutation x rows (subst (λ l. IsPermutation l rows) only finds.same)

pub if_one_found : (t : Table) (test : Row → Bool) (c : Contents) (o : Option Row) → filter test (c t) ≡ option_to_list o → (s : State) → Rests c s → (e : Option Row)
    → option_map (at (column_places t)) o ≡ e → e ≡ o
if_one_found t test c None only s rests e is = sym is
if_one_found t test c (Some r) only s rests e is =
    let there = has_filtered test (c t) r (subst (λ l. Has l r) (sym only) (inl refl)) in
    sym is ∙ ap Some (itself t c s rests r there.0)
