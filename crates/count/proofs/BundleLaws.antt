-- Bundles are a function of the papers, independent of their order.
use Rattle.std.proofs.Common.{◌≡◌, ℕ, ◌+◌, ◌*◌, ◌≤◌, Bool, true, false, cond, List, [], ◌∷◌, replicate, Option, Some, None, unwrap_or, refl, sym, ap, ◌∙◌, arith}
use Rattle.std.specs.List.{sum_by}
use Rattle.std.specs.List.Sorted.{IsStrictlySortedBy, IsPermutation}
use Rattle.std.specs.Map.{keys_of, lookup}
use Rattle.std.specs.BTreeMap.{is_at}
use Rattle.std.specs.Option.{IfSome}
use Rattle.std.specs.Ordering.{is_eq, eq_by_cmp, ordering_reverse}
use Rattle.std.specs.declared.cmp.Ordering.{Ordering}
use Rattle.std.specs.declared.cmp.Ordering.TheVariants.{Less, Equal, Greater}
use Rattle.std.specs.Cmp.Lexicographic.{nat_list_cmp_total}
use Rattle.std.proofs.lemmas.Cmp.{eq_by_cmp_equiv, tied_itself}
use Rattle.std.proofs.lemmas.List.Elements.{All-from_recursion}
use Rattle.std.proofs.lemmas.List.Folds.{sum_by-replicate}
use Rattle.std.proofs.lemmas.List.Sums.{sum_by-append}
use Rattle.std.proofs.lemmas.List.Sorted.{sum_by-IsPermutation}
use Rattle.std.proofs.lemmas.Map.{lookup-none}
use Rattle.std.proofs.lemmas.Map.Entries.{none_past_head, none_below_head, lookup_head, lookup_tail, All-lookup}
use Rattle.std.proofs.lemmas.Map.Keys.{sorted_tail, IsDistinct-from_sorted}
use Rattle.std.proofs.lemmas.Map.Lookups.{exact_bytes}
use Rattle.count.specs.Bundles.{Bundle, list_cmp, papers_of, IsBundle, AreBundles}
use Rattle.count.proofs.BundleLemmas.{number_of}

-- 1 for a paper with the given list, otherwise 0
abbrev one_for : List ℕ → List ℕ → ℕ
one_for list paper = cond (is_at (list_cmp list) paper) 1 0

-- the number of papers with a given list is the number stored in its bundle
counted_at : (list : List ℕ) (b : Bundle) (bs : List Bundle) (o : Ordering) → list_cmp list b.0 ≡ o → IsStrictlySortedBy list_cmp (keys_of (b ∷ bs)) →
    b.1 * cond (is_eq o) 1 0 + number_of list bs ≡ unwrap_or (cond (is_eq o) (Some b.1) (lookup (is_at (list_cmp list)) bs)) 0
counted_at list b bs Less is rise = omega arith
counted_at list b bs Equal is rise =
    let none : number_of list bs ≡ 0 = ap (λ o. unwrap_or o 0) (lookup-none (is_at (list_cmp list)) bs
    (none_past_head {eq = eq_by_cmp list_cmp} (eq_by_cmp_equiv nat_list_cmp_total) list b bs (IsDistinct-from_sorted list_cmp (keys_of (b ∷ bs)) rise) (ap is_eq is))) in
    omega (arith, none)
counted_at list b bs Greater is rise = omega arith

counted : (list : List ℕ) (bs : List Bundle) → IsStrictlySortedBy list_cmp (keys_of bs) → sum_by (one_for list) (papers_of bs) ≡ number_of list bs
counted list [] rise = refl
counted list (b ∷ bs) rise =
    sum_by-append (one_for list) (replicate b.1 b.0) (papers_of bs)
    ∙ ap (λ n. n + sum_by (one_for list) (papers_of bs)) (sum_by-replicate (one_for list) b.1 b.0)
    ∙ ap (λ n. b.1 * one_for list b.0 + n) (counted list bs (sorted_tail list_cmp b.0 (keys_of bs) rise))
    ∙ counted_at list b bs (list_cmp list b.0) refl rise

-- optional numbers of at least 1 are equal if they are equal when `None` counts as 0
same_number : (o p : Option ℕ) → IfSome o (λ n. 1 ≤ n) → IfSome p (λ n. 1 ≤ n) → unwrap_or o 0 ≡ unwrap_or p 0 → o ≡ p
same_number None None some others same = refl
same_number None (Some m) some others same = absurd (omega (arith, others, same))
same_number (Some n) None some others same = absurd (omega (arith, some, same))
same_number (Some n) (Some m) some others same = ap (λ k. Some k) same

-- a bundle that is found has at least one paper
some_number : (list : List ℕ) (bs : List Bundle) → AreBundles bs → IfSome (lookup (is_at (list_cmp list)) bs) (λ n. 1 ≤ n)
some_number list bs all = All-lookup (λ n. 1 ≤ n) (is_at (list_cmp list)) bs (λ k d l. (All-from_recursion IsBundle bs all.each k d l).0)

-- the number found for the given list, if any
abbrev found : List Bundle → List ℕ → Option ℕ
found bs list = lookup (is_at (list_cmp list)) bs

some-none : (n : ℕ) → Some n ≡ None → ⊥
some-none n same = cc

-- the number found for the first list is that of the first bundle,
first_found : (b : Bundle) (bs : List Bundle) → found (b ∷ bs) b.0 ≡ Some b.1
first_found b bs = lookup_head (is_at (list_cmp b.0)) b bs (ap is_eq (tied_itself nat_list_cmp_total b.0))

-- and the list isn't found after it
not_behind : (list : List ℕ) (b : Bundle) (bs : List Bundle) → IsStrictlySortedBy list_cmp (keys_of (b ∷ bs)) → eq_by_cmp list_cmp list b.0 ≡ true → found bs list ≡ None
not_behind list b bs rise is =
    lookup-none (is_at (list_cmp list)) bs (none_past_head {eq = eq_by_cmp list_cmp} (eq_by_cmp_equiv nat_list_cmp_total) list b bs (IsDistinct-from_sorted list_cmp (keys_of (b ∷ bs)) rise) is)

-- a list below the first one isn't found
not_below : (list : List ℕ) (b : Bundle) (bs : List Bundle) → IsStrictlySortedBy list_cmp (keys_of (b ∷ bs)) → list_cmp list b.0 ≡ Less → found (b ∷ bs) list ≡ None
not_below list b bs rise is = lookup-none (is_at (list_cmp list)) (b ∷ bs) (none_below_head nat_list_cmp_total list b bs rise is)

-- if the same lists are found, with the same numbers, the first lists are equal
same_heads : (b c : Bundle) (bs cs : List Bundle) (o : Ordering) → list_cmp b.0 c.0 ≡ o →
    IsStrictlySortedBy list_cmp (keys_of (b ∷ bs)) → IsStrictlySortedBy list_cmp (keys_of (c ∷ cs)) →
    ((list : List ℕ) → found (b ∷ bs) list ≡ found (c ∷ cs) list) → b.0 ≡ c.0
same_heads b c bs cs Less is rise others same = absurd (some-none b.1 (sym (first_found b bs) ∙ same b.0 ∙ not_below b.0 c cs others is))
same_heads b c bs cs Equal is rise others same = exact_bytes b.0 c.0 is
same_heads b c bs cs Greater is rise others same =
    absurd (some-none c.1 (sym (first_found c cs) ∙ sym (same c.0) ∙ not_below c.0 b bs rise (nat_list_cmp_total.antisymm c.0 b.0 ∙ ap ordering_reverse is)))

-- and the rest has the same numbers for each list
same_tails : (b c : Bundle) (bs cs : List Bundle) (list : List ℕ) (here : Bool) → eq_by_cmp list_cmp list b.0 ≡ here → b.0 ≡ c.0 →
    IsStrictlySortedBy list_cmp (keys_of (b ∷ bs)) → IsStrictlySortedBy list_cmp (keys_of (c ∷ cs)) →
    found (b ∷ bs) list ≡ found (c ∷ cs) list → found bs list ≡ found cs list
same_tails b c bs cs list true is heads rise others same =
    not_behind list b bs rise is ∙ sym (not_behind list c cs others (ap (eq_by_cmp list_cmp list) (sym heads) ∙ is))
same_tails b c bs cs list false is heads rise others same =
    sym (lookup_tail (is_at (list_cmp list)) b bs is) ∙ same ∙ lookup_tail (is_at (list_cmp list)) c cs (ap (eq_by_cmp list_cmp list) (sym heads) ∙ is)

same_found : (bs cs : List Bundle) → IsStrictlySortedBy list_cmp (keys_of bs) → IsStrictlySortedBy list_cmp (keys_of cs) → ((list : List ℕ) → found bs list ≡ found cs list) → bs ≡ cs
same_found [] [] rise others same = refl
same_found [] (c ∷ cs) rise others same = absurd (some-none c.1 (sym (first_found c cs) ∙ sym (same c.0)))
same_found (b ∷ bs) [] rise others same = absurd (some-none b.1 (sym (first_found b bs) ∙ same b.0))
same_found (b ∷ bs) (c ∷ cs) rise others same =
    let heads : b.0 ≡ c.0 = same_heads b c bs cs (list_cmp b.0 c.0) refl rise others same in
    let at : found (b ∷ bs) b.0 ≡ found (c ∷ cs) c.0 = same b.0 ∙ ap (found (c ∷ cs)) heads in
    let numbers : b.1 ≡ c.1 = ap (λ o. unwrap_or o 0) (sym (first_found b bs) ∙ at ∙ first_found c cs) in
    let behind : bs ≡ cs = same_found bs cs (sorted_tail list_cmp b.0 (keys_of bs) rise) (sorted_tail list_cmp c.0 (keys_of cs) others)
    (λ list. same_tails b c bs cs list (eq_by_cmp list_cmp list b.0) refl heads rise others (same list)) in
    λ i. (heads i, numbers i) ∷ behind i

-- bundles of the same papers, in any order, are the same
pub same-bundles : (bs cs : List Bundle) → AreBundles bs → AreBundles cs → IsPermutation (papers_of bs) (papers_of cs) → bs ≡ cs
same-bundles bs cs all others moved =
    same_found bs cs all.rise others.rise
    (λ list. same_number (found bs list) (found cs list) (some_number list bs all) (some_number list cs others)
    (sym (counted list bs all.rise) ∙ sym (sum_by-IsPermutation (one_for list) (papers_of bs) (papers_of cs) moved) ∙ counted list cs others.rise))
