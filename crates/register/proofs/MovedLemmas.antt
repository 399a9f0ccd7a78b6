-- Bundles that move to other places, among all the bundles of an office.
use Rattle.std.proofs.Common.{◌≡◌, ℕ, ◌==◌, Bool, true, false, cond, not, List, [], ◌∷◌, ◌++◌, map, filter, fold, refl, sym, ap, ◌∙◌}
use Rattle.std.specs.List.{AllByRecursion, list_all}
use Rattle.std.specs.List.Sorted.{IsStrictlySortedBy}
use Rattle.std.specs.Ordering.{nat_cmp, is_eq, ordering_reverse, ordering_then}
use Rattle.std.specs.Cmp.{unsigned_tied}
use Rattle.std.specs.declared.cmp.Ordering.{Ordering}
use Rattle.std.specs.declared.cmp.Ordering.TheVariants.{Less, Equal, Greater}
use Rattle.std.proofs.lemmas.Bool.{and_parts, and_from, eqb-true, not-true}
use Rattle.std.proofs.lemmas.Cmp.{nat_cmp_total, nat_list_cmp_total, tied_itself}
use Rattle.std.proofs.lemmas.List.{map-append}
use Rattle.count.specs.Bundles.{Bundle, list_cmp, with_papers, bundled}
use Rattle.count.specs.Books.{placed}
use Rattle.count.specs.Law.Places.{Place}
use Rattle.count.proofs.BundleLemmas.{rise-with_papers}
use Rattle.register.specs.Tabulated.{PlacedEntry, placed_cmp, placed_at, moved_to}
use Rattle.register.specs.Additions.{is_same_place}
use Rattle.register.specs.Walks.{moved_bundles}

-- the bundles of a list of papers are ordered by list
pub bundled-rise : (papers : List (List ℕ)) → IsStrictlySortedBy list_cmp (map (λ (b : Bundle). b.0) (bundled papers))
unfolding IsStrictlySortedBy
bundled-rise papers = go [] papers tt
  where
    go : (bs : List Bundle) (rest : List (List ℕ)) → IsStrictlySortedBy list_cmp (map (λ (b : Bundle). b.0) bs)
        → IsStrictlySortedBy list_cmp (map (λ (b : Bundle). b.0) (fold (λ cs paper. with_papers cs paper 1) bs rest))
    go bs [] up = up
    go bs (paper ∷ rest) up = go (with_papers bs paper 1) rest (rise-with_papers paper 1 bs up)

-- ---- moving bundles, one by one

abbrev pub all_moved : List PlacedEntry → List PlacedEntry → List PlacedEntry
all_moved bundles moved = fold (λ (bs : List PlacedEntry) (b : PlacedEntry). moved_to b bs) bundles moved

pub moved-append : (ms xs ys : List PlacedEntry) → all_moved (xs ++ ys) ms ≡ all_moved xs ms ++ all_moved ys ms
moved-append [] xs ys = refl
moved-append (m ∷ ms) xs ys =
    ap (λ (zs : List PlacedEntry). all_moved zs ms) (map-append (λ (x : PlacedEntry). cond (is_eq (placed_cmp m x)) m x) xs ys)
    ∙ moved-append ms (moved_to m xs) (moved_to m ys)

-- a bundle that was not moved keeps its place
keeps_others : (x : PlacedEntry) (ms xs : List PlacedEntry) → list_all (λ m. not (is_eq (placed_cmp m x))) ms ≡ true → all_moved (x ∷ xs) ms ≡ x ∷ all_moved xs ms
keeps_others x [] xs apart = refl
keeps_others x (m ∷ ms) xs apart =
    let parts = and_parts (not (is_eq (placed_cmp m x))) (list_all (λ m. not (is_eq (placed_cmp m x))) ms) apart in
    rw (not-true (is_eq (placed_cmp m x)) parts.0) (keeps_others x ms (moved_to m xs) parts.1)

-- two orders in sequence distinguish two entries if the first one does
first_apart : (o p : Ordering) → is_eq o ≡ false → is_eq (ordering_then o p) ≡ false
first_apart Less p apart = refl
first_apart Equal p apart = absurd (cc)
first_apart Greater p apart = refl

then_apart : (o p : Ordering) → is_eq p ≡ false → is_eq (ordering_then o p) ≡ false
then_apart Less p apart = refl
then_apart Equal p apart = apart
then_apart Greater p apart = refl

then_equal : (o p : Ordering) → is_eq o ≡ true → is_eq p ≡ true → is_eq (ordering_then o p) ≡ true
then_equal Less p is same = is
then_equal Equal p is same = same
then_equal Greater p is same = is

-- ---- bundles of other wards

-- none of the given bundles belongs to the ward
abbrev pub of_others : ℕ → List PlacedEntry → Bool
of_others n xs = list_all (λ (x : PlacedEntry). not (n == x.ward)) xs

-- all of the given bundles belong to the ward
abbrev pub of_ward : ℕ → List PlacedEntry → Bool
of_ward n ms = list_all (λ (m : PlacedEntry). n == m.ward) ms

moved_none : (n : ℕ) (m : PlacedEntry) (xs : List PlacedEntry) → n ≡ m.ward → of_others n xs ≡ true → moved_to m xs ≡ xs
moved_none n m [] own others = refl
moved_none n m (x ∷ xs) own others =
    let parts = and_parts (not (n == x.ward)) (of_others n xs) others in
    let other : is_eq (nat_cmp m.ward x.ward) ≡ false = unsigned_tied m.ward x.ward ∙ ap (λ k. k == x.ward) (sym own) ∙ not-true (n == x.ward) parts.0 in
    rw (first_apart (nat_cmp m.ward x.ward) (list_cmp m.list x.list) other) (ap (λ (ys : List PlacedEntry). x ∷ ys) (moved_none n m xs own parts.1))

-- moving bundles of one ward leaves the bundles of other wards unchanged
pub others_stay : (n : ℕ) (ms xs : List PlacedEntry) → of_ward n ms ≡ true → of_others n xs ≡ true → all_moved xs ms ≡ xs
others_stay n [] xs own others = refl
others_stay n (m ∷ ms) xs own others =
    let parts = and_parts (n == m.ward) (of_ward n ms) own in
    ap (λ (ys : List PlacedEntry). all_moved ys ms) (moved_none n m xs (eqb-true n m.ward parts.0) others) ∙ others_stay n ms xs parts.1 others

-- ---- the bundles of a ward

module _ (n : ℕ) where
  -- the bundles of a ward, with their places, belong to that ward
  pub of_it : (at : List ℕ → Place) (bs : List Bundle) → of_ward n (map (λ (b : Bundle). placed_at n b (at b.0)) bs) ≡ true
  of_it at [] = refl
  of_it at (b ∷ bs) = and_from _ _ (sym (unsigned_tied n n) ∙ ap is_eq (tied_itself nat_cmp_total n)) (of_it at bs)

  -- the bundles of a ward, with their places, belong to no other ward
  pub of_no_other : (m : ℕ) (at : List ℕ → Place) (bs : List Bundle) → (m == n) ≡ false → of_others m (map (λ (b : Bundle). placed_at n b (at b.0)) bs) ≡ true
  of_no_other m at [] other = refl
  of_no_other m at (b ∷ bs) other = and_from _ _ (ap not other) (of_no_other m at bs other)

  module _ (before after : List ℕ → Place) where
    abbrev stays : Bundle → Bool
    stays b = is_same_place (before b.0) (after b.0)

    -- if the place of a bundle is unchanged, so is its entry
    same_bundle : (b : Bundle) → stays b ≡ true → placed_at n b (before b.0) ≡ placed_at n b (after b.0)
    same_bundle b same =
        let parts = and_parts ((before b.0).holder == (after b.0).holder) ((before b.0).value == (after b.0).value) same in
        ap (λ (h : ℕ). made h (before b.0).value) (eqb-true _ _ parts.0) ∙ ap (made (after b.0).holder) (eqb-true _ _ parts.1)
      where
        made : ℕ → ℕ → PlacedEntry
        made holder value = record { ward = n; list = b.0; papers = b.1; holder = holder; value = value }

    -- a bundle that precedes the others, ordered by list, isn't one of them
    apart_behind : (x : Bundle) (bs : List Bundle) → AllByRecursion (λ list. list_cmp x.0 list ≡ Less) (map (λ (b : Bundle). b.0) bs)
        → moved_to (placed_at n x (after x.0)) (map (λ (b : Bundle). placed_at n b (before b.0)) bs) ≡ map (λ (b : Bundle). placed_at n b (before b.0)) bs
    apart_behind x [] above = refl
    apart_behind x (b ∷ bs) above =
        rw (then_apart (nat_cmp n n) (list_cmp x.0 b.0) (ap is_eq above.0)) (ap (λ (ys : List PlacedEntry). placed_at n b (before b.0) ∷ ys) (apart_behind x bs above.1))

    apart_before : (x : Bundle) (at : Place) (bs : List Bundle) → AllByRecursion (λ list. list_cmp x.0 list ≡ Less) (map (λ (b : Bundle). b.0) bs)
        → list_all (λ m. not (is_eq (placed_cmp m (placed_at n x at)))) (map (λ (b : Bundle). placed_at n b (after b.0)) (filter (λ (b : Bundle). not (stays b)) bs)) ≡ true
    apart_before x at [] above = refl
    apart_before x at (b ∷ bs) above =
        elim (stays b) as (λ s. list_all (λ m. not (is_eq (placed_cmp m (placed_at n x at))))
        (map (λ (b : Bundle). placed_at n b (after b.0)) (cond (not s) (b ∷ filter (λ (b : Bundle). not (stays b)) bs) (filter (λ (b : Bundle). not (stays b)) bs))) ≡ true) [
          | true ↦ apart_before x at bs above.1
          | false ↦ and_from _ _ (ap not (then_apart (nat_cmp n n) (list_cmp b.0 x.0) (ap is_eq (nat_list_cmp_total.antisymm b.0 x.0 ∙ ap ordering_reverse above.0)))) (apart_before x at bs above.1)
        ]

    -- Moving the bundles whose places have changed puts every bundle in its new place.
    pub moved_there : (bs : List Bundle) → IsStrictlySortedBy list_cmp (map (λ (b : Bundle). b.0) bs)
        → all_moved (map (λ (b : Bundle). placed_at n b (before b.0)) bs) (map (λ (b : Bundle). placed_at n b (after b.0)) (filter (λ (b : Bundle). not (stays b)) bs))
        ≡ map (λ (b : Bundle). placed_at n b (after b.0)) bs
    unfolding IsStrictlySortedBy
    moved_there [] up = refl
    moved_there (b ∷ bs) up = go (stays b) refl (moved_there bs up.1)
      where
        go : (s : Bool) → stays b ≡ s
            → all_moved (map (λ (b : Bundle). placed_at n b (before b.0)) bs) (map (λ (b : Bundle). placed_at n b (after b.0)) (filter (λ (b : Bundle). not (stays b)) bs))
            ≡ map (λ (b : Bundle). placed_at n b (after b.0)) bs
            → all_moved (placed_at n b (before b.0) ∷ map (λ (b : Bundle). placed_at n b (before b.0)) bs)
            (map (λ (b : Bundle). placed_at n b (after b.0)) (cond (not s) (b ∷ filter (λ (b : Bundle). not (stays b)) bs) (filter (λ (b : Bundle). not (stays b)) bs)))
            ≡ placed_at n b (after b.0) ∷ map (λ (b : Bundle). placed_at n b (after b.0)) bs
        go true is later =
            keeps_others (placed_at n b (before b.0)) _ (map (λ (b : Bundle). placed_at n b (before b.0)) bs) (apart_before b (before b.0) bs up.0)
            ∙ ap (λ (ys : List PlacedEntry). placed_at n b (before b.0) ∷ ys) later
            ∙ ap (λ (y : PlacedEntry). y ∷ map (λ (b : Bundle). placed_at n b (after b.0)) bs) (same_bundle b is)
        go false is later =
            let own : is_eq (placed_cmp (placed_at n b (after b.0)) (placed_at n b (before b.0))) ≡ true =
            then_equal (nat_cmp n n) (list_cmp b.0 b.0) (ap is_eq (tied_itself nat_cmp_total n)) (ap is_eq (tied_itself nat_list_cmp_total b.0))
            in
            let ms = map (λ (b : Bundle). placed_at n b (after b.0)) (filter (λ (b : Bundle). not (stays b)) bs) in
            ap (λ (s : Bool). all_moved (cond s (placed_at n b (after b.0)) (placed_at n b (before b.0))
            ∷ moved_to (placed_at n b (after b.0)) (map (λ (b : Bundle). placed_at n b (before b.0)) bs)) ms) own
            ∙ ap (λ (ys : List PlacedEntry). all_moved (placed_at n b (after b.0) ∷ ys) ms) (apart_behind b bs up.0)
            ∙ keeps_others (placed_at n b (after b.0)) ms (map (λ (b : Bundle). placed_at n b (before b.0)) bs) (apart_before b (after b.0) bs up.0)
            ∙ ap (λ (ys : List PlacedEntry). placed_at n b (after b.0) ∷ ys) later

    -- comparing the old and new places one by one finds those that have changed
    pub walked-moves : (bs : List Bundle) → moved_bundles n bs (map (λ (b : Bundle). placed (before b.0)) bs) (map (λ (b : Bundle). placed (after b.0)) bs)
        ≡ map (λ (b : Bundle). placed_at n b (after b.0)) (filter (λ (b : Bundle). not (stays b)) bs)
    walked-moves [] = refl
    walked-moves (b ∷ bs) =
        elim (stays b) as (λ s. cond s (moved_bundles n bs (map (λ (b : Bundle). placed (before b.0)) bs) (map (λ (b : Bundle). placed (after b.0)) bs))
        (placed_at n b (after b.0) ∷ moved_bundles n bs (map (λ (b : Bundle). placed (before b.0)) bs) (map (λ (b : Bundle). placed (after b.0)) bs))
        ≡ map (λ (b : Bundle). placed_at n b (after b.0)) (cond (not s) (b ∷ filter (λ (b : Bundle). not (stays b)) bs) (filter (λ (b : Bundle). not (stays b)) bs))) [
          | true ↦ walked-moves bs
          | false ↦ ap (λ (ys : List PlacedEntry). placed_at n b (after b.0) ∷ ys) (walked-moves bs)
        ]
