-- Bundles: how a change of the tree adds papers, and which papers bundles represent.
use Rattle.std.proofs.Common.{◌≡◌, ℕ, ◌+◌, ◌≤◌, Bool, true, false, cond, List, [], ◌∷◌, ◌++◌, length, replicate, Option, Some, unwrap_or, refl, sym, ap, ◌∙◌, subst, append_assoc, length-append, arith}
use Rattle.std.specs.List.{AllByRecursion}
use Rattle.std.specs.List.Sorted.{IsStrictlySortedBy, IsPermutation}
use Rattle.std.specs.Map.{keys_of, lookup}
use Rattle.std.specs.BTreeMap.{insert_entry, is_at}
use Rattle.std.specs.Ordering.{match_ordering, is_eq, ordering_reverse}
use Rattle.std.specs.declared.cmp.Ordering.{Ordering}
use Rattle.std.specs.declared.cmp.Ordering.TheVariants.{Less, Equal, Greater}
use Rattle.std.specs.Cmp.Lexicographic.{nat_list_cmp_total}
use Rattle.std.proofs.lemmas.List.{length-replicate, replicate-append-replicate}
use Rattle.std.proofs.lemmas.List.Sorted.{IsPermutation-refl, IsPermutation-trans, IsPermutation-append_left, IsPermutation-append_right, IsPermutation-append_comm, length_permutation}
use Rattle.std.proofs.lemmas.Map.{lookup-none}
use Rattle.std.proofs.lemmas.Map.Entries.{none_below_head}
use Rattle.std.proofs.lemmas.Map.Keys.{sorted_tail}
use Rattle.std.proofs.lemmas.Map.Lookups.{exact_bytes}
use Rattle.count.specs.Bundles.{Bundle, list_cmp, papers_of, with_papers, IsBundle, AreBundles}

-- the number of papers with the given list
abbrev pub number_of : List ℕ → List Bundle → ℕ
number_of list bs = unwrap_or (lookup (is_at (list_cmp list)) bs) 0

-- the number of papers with a given list is at most the total number of papers
number_at : (b : Bundle) (bs : List Bundle) (found : Option ℕ) (here : Bool) → unwrap_or found 0 ≤ length (papers_of bs) →
    unwrap_or (cond here (Some b.1) found) 0 ≤ length (papers_of (b ∷ bs))
number_at b bs found true behind = omega (arith, length-append (replicate b.1 b.0) (papers_of bs), length-replicate b.1 b.0)
number_at b bs found false behind = omega (arith, length-append (replicate b.1 b.0) (papers_of bs), behind)

pub number-le-papers : (list : List ℕ) (bs : List Bundle) → number_of list bs ≤ length (papers_of bs)
number-le-papers list [] = omega arith
number-le-papers list (b ∷ bs) = number_at b bs (lookup (is_at (list_cmp list)) bs) (is_at (list_cmp list) b.0) (number-le-papers list bs)

-- increasing a list's number by n, or inserting n in its place, adds n papers with the list
inserted_at : (list : List ℕ) (n : ℕ) (b : Bundle) (bs : List Bundle) (o : Ordering) → list_cmp list b.0 ≡ o → IsStrictlySortedBy list_cmp (keys_of (b ∷ bs)) →
    insert_entry list_cmp bs list (number_of list bs + n) ≡ with_papers bs list n →
    match_ordering o ((list, number_of list (b ∷ bs) + n) ∷ b ∷ bs) ((b.0, number_of list (b ∷ bs) + n) ∷ bs) (b ∷ insert_entry list_cmp bs list (number_of list (b ∷ bs) + n))
    ≡ match_ordering o ((list, n) ∷ b ∷ bs) ((b.0, b.1 + n) ∷ bs) (b ∷ with_papers bs list n)
inserted_at list n b bs Less is rise behind =
    let none : number_of list (b ∷ bs) ≡ 0 = ap (λ o. unwrap_or o 0) (lookup-none (is_at (list_cmp list)) (b ∷ bs) (none_below_head nat_list_cmp_total list b bs rise is)) in
    let same : number_of list (b ∷ bs) + n ≡ n = omega (arith, none) in
    ap (λ m. (list, m) ∷ b ∷ bs) same
inserted_at list n b bs Equal is rise behind = ap (λ o. (b.0, unwrap_or (cond (is_eq o) (Some b.1) (lookup (is_at (list_cmp list)) bs)) 0 + n) ∷ bs) is
inserted_at list n b bs Greater is rise behind =
    ap (λ o. b ∷ insert_entry list_cmp bs list (unwrap_or (cond (is_eq o) (Some b.1) (lookup (is_at (list_cmp list)) bs)) 0 + n)) is
    ∙ ap (λ l. b ∷ l) behind

pub inserted-with_papers : (list : List ℕ) (n : ℕ) (bs : List Bundle) → IsStrictlySortedBy list_cmp (keys_of bs) →
    insert_entry list_cmp bs list (number_of list bs + n) ≡ with_papers bs list n
inserted-with_papers list n [] rise = let same : 0 + n ≡ n = omega arith in ap (λ m. (list, m) ∷ []) same
inserted-with_papers list n (b ∷ bs) rise =
    inserted_at list n b bs (list_cmp list b.0) refl rise (inserted-with_papers list n bs (sorted_tail list_cmp b.0 (keys_of bs) rise))

-- bundles remain bundles when a bundle is added
each_at : (list : List ℕ) (n : ℕ) (b : Bundle) (bs : List Bundle) (o : Ordering) → IsBundle (list, n) → AllByRecursion IsBundle (b ∷ bs) →
    AllByRecursion IsBundle (with_papers bs list n) →
    AllByRecursion IsBundle (match_ordering o ((list, n) ∷ b ∷ bs) ((b.0, b.1 + n) ∷ bs) (b ∷ with_papers bs list n))
each_at list n b bs Less new all behind = (new, all)
each_at list n b bs Equal new all behind = ((omega (arith, all.0.0), all.0.1, all.0.2), all.1)
each_at list n b bs Greater new all behind = (all.0, behind)

pub each-with_papers : (list : List ℕ) (n : ℕ) (bs : List Bundle) → IsBundle (list, n) → AllByRecursion IsBundle bs → AllByRecursion IsBundle (with_papers bs list n)
each-with_papers list n [] new all = (new, tt)
each-with_papers list n (b ∷ bs) new all = each_at list n b bs (list_cmp list b.0) new all (each-with_papers list n bs new all.1)

-- lists remain in order when a list is added
above_at : (x list : List ℕ) (n : ℕ) (b : Bundle) (bs : List Bundle) (o : Ordering) → list_cmp x list ≡ Less → AllByRecursion (λ y. list_cmp x y ≡ Less) (keys_of (b ∷ bs)) →
    AllByRecursion (λ y. list_cmp x y ≡ Less) (keys_of (with_papers bs list n)) →
    AllByRecursion (λ y. list_cmp x y ≡ Less) (keys_of (match_ordering o ((list, n) ∷ b ∷ bs) ((b.0, b.1 + n) ∷ bs) (b ∷ with_papers bs list n)))
above_at x list n b bs Less new all behind = (new, all)
above_at x list n b bs Equal new all behind = all
above_at x list n b bs Greater new all behind = (all.0, behind)

above-with_papers : (x list : List ℕ) (n : ℕ) (bs : List Bundle) → list_cmp x list ≡ Less → AllByRecursion (λ y. list_cmp x y ≡ Less) (keys_of bs) →
    AllByRecursion (λ y. list_cmp x y ≡ Less) (keys_of (with_papers bs list n))
above-with_papers x list n [] new all = (new, tt)
above-with_papers x list n (b ∷ bs) new all = above_at x list n b bs (list_cmp list b.0) new all (above-with_papers x list n bs new all.1)

-- a list below another is below all lists above the other one
above_both : (x y : List ℕ) (zs : List (List ℕ)) → list_cmp x y ≡ Less → AllByRecursion (λ z. list_cmp y z ≡ Less) zs → AllByRecursion (λ z. list_cmp x z ≡ Less) zs
above_both x y [] below all = tt
above_both x y (z ∷ zs) below all = (nat_list_cmp_total.trans x y z below all.0, above_both x y zs below all.1)

rise_at : (list : List ℕ) (n : ℕ) (b : Bundle) (bs : List Bundle) (o : Ordering) → list_cmp list b.0 ≡ o → IsStrictlySortedBy list_cmp (keys_of (b ∷ bs)) →
    IsStrictlySortedBy list_cmp (keys_of (with_papers bs list n)) →
    IsStrictlySortedBy list_cmp (keys_of (match_ordering o ((list, n) ∷ b ∷ bs) ((b.0, b.1 + n) ∷ bs) (b ∷ with_papers bs list n)))
unfolding IsStrictlySortedBy
rise_at list n b bs Less is rise behind = ((is, above_both list b.0 (keys_of bs) is rise.0), rise)
rise_at list n b bs Equal is rise behind = rise
rise_at list n b bs Greater is rise behind = (above-with_papers b.0 list n bs (nat_list_cmp_total.antisymm b.0 list ∙ ap ordering_reverse is) rise.0, behind)

pub rise-with_papers : (list : List ℕ) (n : ℕ) (bs : List Bundle) → IsStrictlySortedBy list_cmp (keys_of bs) → IsStrictlySortedBy list_cmp (keys_of (with_papers bs list n))
unfolding IsStrictlySortedBy
rise-with_papers list n [] rise = (tt, tt)
rise-with_papers list n (b ∷ bs) rise = rise_at list n b bs (list_cmp list b.0) refl rise (rise-with_papers list n bs rise.1)

-- bundles remain bundles when papers with a given list are added
pub bundles-with_papers : (list : List ℕ) (n : ℕ) (bs : List Bundle) → IsBundle (list, n) → AreBundles bs → AreBundles (with_papers bs list n)
bundles-with_papers list n bs new all = record { rise = rise-with_papers list n bs all.rise; each = each-with_papers list n bs new all.each }

-- papers in the middle can be moved to the front
to_front : (xs ys zs : List (List ℕ)) → IsPermutation (xs ++ (ys ++ zs)) (ys ++ (xs ++ zs))
to_front xs ys zs =
    subst (λ l. IsPermutation l (ys ++ (xs ++ zs))) (append_assoc xs ys zs)
    (subst (λ l. IsPermutation ((xs ++ ys) ++ zs) l) (append_assoc ys xs zs)
    (IsPermutation-append_left zs (xs ++ ys) (ys ++ xs) (IsPermutation-append_comm xs ys)))

-- the papers are the old ones and the new ones
papers_at : (list : List ℕ) (n : ℕ) (b : Bundle) (bs : List Bundle) (o : Ordering) → list_cmp list b.0 ≡ o →
    IsPermutation (replicate n list ++ papers_of bs) (papers_of (with_papers bs list n)) →
    IsPermutation (replicate n list ++ papers_of (b ∷ bs)) (papers_of (match_ordering o ((list, n) ∷ b ∷ bs) ((b.0, b.1 + n) ∷ bs) (b ∷ with_papers bs list n)))
papers_at list n b bs Less is behind = IsPermutation-refl (replicate n list ++ papers_of (b ∷ bs))
papers_at list n b bs Equal is behind = subst (λ l. IsPermutation l (replicate (b.1 + n) b.0 ++ papers_of bs)) (sym joined) (IsPermutation-refl (replicate (b.1 + n) b.0 ++ papers_of bs))
  where
    swapped : n + b.1 ≡ b.1 + n
    swapped = omega arith

    joined : replicate n list ++ (replicate b.1 b.0 ++ papers_of bs) ≡ replicate (b.1 + n) b.0 ++ papers_of bs
    joined =
        ap (λ l. replicate n l ++ (replicate b.1 b.0 ++ papers_of bs)) (exact_bytes list b.0 is)
        ∙ sym (append_assoc (replicate n b.0) (replicate b.1 b.0) (papers_of bs))
        ∙ ap (λ l. l ++ papers_of bs) (replicate-append-replicate n b.1 b.0 ∙ ap (λ m. replicate m b.0) swapped)
papers_at list n b bs Greater is behind =
    IsPermutation-trans (replicate n list ++ (replicate b.1 b.0 ++ papers_of bs)) (replicate b.1 b.0 ++ (replicate n list ++ papers_of bs)) (replicate b.1 b.0 ++ papers_of (with_papers bs list n))
    (to_front (replicate n list) (replicate b.1 b.0) (papers_of bs))
    (IsPermutation-append_right (replicate b.1 b.0) (replicate n list ++ papers_of bs) (papers_of (with_papers bs list n)) behind)

pub papers-with_papers : (list : List ℕ) (n : ℕ) (bs : List Bundle) → IsPermutation (replicate n list ++ papers_of bs) (papers_of (with_papers bs list n))
papers-with_papers list n [] = IsPermutation-refl (replicate n list ++ [])
papers-with_papers list n (b ∷ bs) = papers_at list n b bs (list_cmp list b.0) refl (papers-with_papers list n bs)

-- the number of papers increases by the number of new ones
pub length-with_papers : (list : List ℕ) (n : ℕ) (bs : List Bundle) → length (papers_of (with_papers bs list n)) ≡ length (papers_of bs) + n
length-with_papers list n bs =
    let same : length (papers_of (with_papers bs list n)) ≡ length (replicate n list ++ papers_of bs) = length_permutation _ _ (papers-with_papers list n bs) in
    omega (arith, same, length-append (replicate n list) (papers_of bs), length-replicate n list)
