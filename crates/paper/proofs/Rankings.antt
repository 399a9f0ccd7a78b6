-- Rankings: their lengths, and the arrays that store them.
use Rattle.std.proofs.Common.{◌≡◌, ℕ, ◌<◌, ◌≤◌, ◌||◌, Bool, true, false, eqb, ◌==◌, List, [], ◌∷◌, ◌++◌, length, replicate, ◌+◌, ◌-◌, suc, zero, refl, sym, ap, ◌∙◌, arith}
use Rattle.std.specs.List.{list_any, IsDistinct, AllByRecursion}
use Rattle.std.specs.Cmp.{nat_cmp_is}
use Rattle.std.specs.Cmp.Lexicographic.{slice_cmp}
use Rattle.std.specs.Ordering.{nat_cmp, ordering_then}
use Rattle.std.specs.declared.cmp.Ordering.TheVariants.{Less, Equal, Greater}
use Rattle.std.proofs.lemmas.Bool.{eqb-true, eqb-false}
use Rattle.std.proofs.lemmas.Map.Steps.{length-le_from_distinct_below}
use Rattle.paper.specs.Columns.{max_candidates}
use Rattle.paper.specs.Padded.{listed, padded}
use Rattle.paper.specs.Ranking.{IsRanking}
use Rattle.paper.proofs.PaddedLists.{listed-append_zeros}

or_false : (a b : Bool) → (a || b) ≡ false → (a ≡ false) × (b ≡ false)
or_false true b h = cc
or_false false b h = (refl, h)

-- equality is symmetric
other_way : (x y : ℕ) (b : Bool) → eqb x y ≡ b → eqb y x ≡ false → b ≡ false
other_way x y true e h = absurd (eqb-false y x h (sym (eqb-true x y e)))
other_way x y false e h = refl

all_other : (x : ℕ) (xs : List ℕ) → list_any (λ y. y == x) xs ≡ false → AllByRecursion (λ y. eqb x y ≡ false) xs
all_other x [] h = tt
all_other x (y ∷ ys) h =
    let apart = or_false (eqb y x) (list_any (λ z. z == x) ys) h in
    (other_way x y (eqb x y) refl apart.0, all_other x ys apart.1)

ranking_distinct : (xs : List ℕ) → IsRanking xs → IsDistinct eqb xs
unfolding IsDistinct
ranking_distinct [] h = tt
ranking_distinct (x ∷ xs) h = (all_other x xs h.2, ranking_distinct xs h.3)

-- no candidate has the number 0
pub ranking_some : (xs : List ℕ) → IsRanking xs → AllByRecursion (λ x. 1 ≤ x) xs
ranking_some [] h = tt
ranking_some (x ∷ xs) h = (h.0, ranking_some xs h.3)

zero_apart : (xs : List ℕ) → AllByRecursion (λ x. 1 ≤ x) xs → AllByRecursion (λ y. eqb 0 y ≡ false) xs
zero_apart [] some = tt
zero_apart (x ∷ xs) some = (apart x (eqb 0 x) refl some.0, zero_apart xs some.1)
  where
    apart : (y : ℕ) (b : Bool) → eqb 0 y ≡ b → 1 ≤ y → b ≡ false
    apart y true is above = absurd (omega (arith, eqb-true 0 y is, above))
    apart y false is above = refl

below_more : (x q : ℕ) (b more : Bool) → x ≤ max_candidates → (more ≡ true → q < 31) → eqb q x ≡ b → (b || more) ≡ true → q < 31
below_more x q true more few later same found = omega (arith, eqb-true q x same)
below_more x q false more few later same found = later found

below : (xs : List ℕ) (q : ℕ) → IsRanking xs → list_any (eqb q) xs ≡ true → q < 31
below [] q h found = cc
below (x ∷ xs) q h found = below_more x q (eqb q x) (list_any (eqb q) xs) h.1 (λ later. below xs q h.3 later) refl found

distinct_zero : (xs : List ℕ) → IsRanking xs → IsDistinct eqb (0 ∷ xs)
unfolding IsDistinct
distinct_zero xs h = (zero_apart xs (ranking_some xs h), ranking_distinct xs h)

-- 0 and the numbers in a ranking are distinct and less than 31, so a ranking has at most 30 elements
pub length_ranking : (xs : List ℕ) → IsRanking xs → length xs ≤ max_candidates
length_ranking xs h =
    omega (arith, length-le_from_distinct_below (0 ∷ xs) 31 (distinct_zero xs h) (λ q found. below_more 0 q (eqb q 0) (list_any (eqb q) xs) (omega arith) (below xs q h) refl found))

-- the array made from a ranking stores the ranking
pub listed-padded_ranking : (xs : List ℕ) → IsRanking xs → listed (padded xs) ≡ xs
listed-padded_ranking xs h = listed-append_zeros xs (max_candidates - length xs) (ranking_some xs h)

pub ruleset rankings = (length_ranking, listed-padded_ranking)

-- padding two lists of positive numbers with zeros to the same length preserves their order
zeros_equal : (n : ℕ) → slice_cmp nat_cmp (replicate n 0) (replicate n 0) ≡ Equal
zeros_equal zero = refl
zeros_equal (suc n) = zeros_equal n

zeros_behind : (xs ys : List ℕ) (j k : ℕ) → AllByRecursion (λ x. 1 ≤ x) xs → AllByRecursion (λ y. 1 ≤ y) ys → length xs + j ≡ length ys + k →
    slice_cmp nat_cmp (xs ++ replicate j 0) (ys ++ replicate k 0) ≡ slice_cmp nat_cmp xs ys
zeros_behind [] [] j k some others long = ap (λ n. slice_cmp nat_cmp (replicate j 0) (replicate n 0)) (let same : k ≡ j = omega (arith, long) in same) ∙ zeros_equal j
zeros_behind [] (zero ∷ ys) j k some others long = absurd (omega (arith, others.0))
zeros_behind [] (suc y ∷ ys) zero k some others long = absurd (omega (arith, long))
zeros_behind [] (suc y ∷ ys) (suc j) k some others long = ap (λ o. ordering_then o (slice_cmp nat_cmp (replicate j 0) (ys ++ replicate k 0))) (sym (nat_cmp_is 0 (suc y) Less others.0))
zeros_behind (zero ∷ xs) [] j k some others long = absurd (omega (arith, some.0))
zeros_behind (suc x ∷ xs) [] j zero some others long = absurd (omega (arith, long))
zeros_behind (suc x ∷ xs) [] j (suc k) some others long = ap (λ o. ordering_then o (slice_cmp nat_cmp (xs ++ replicate j 0) (replicate k 0))) (sym (nat_cmp_is (suc x) 0 Greater some.0))
zeros_behind (x ∷ xs) (y ∷ ys) j k some others long = ap (ordering_then (nat_cmp x y)) (zeros_behind xs ys j k some.1 others.1 (omega (arith, long)))

-- so the arrays of two rankings sort in the same order as the rankings
pub padded-order : (xs ys a b : List ℕ) → IsRanking xs → IsRanking ys → padded xs ≡ a → padded ys ≡ b → slice_cmp nat_cmp a b ≡ slice_cmp nat_cmp xs ys
padded-order xs ys a b ranking other a_is b_is =
    let long : length xs + (max_candidates - length xs) ≡ length ys + (max_candidates - length ys) = omega (arith, length_ranking xs ranking, length_ranking ys other) in
    ap (λ l. slice_cmp nat_cmp l b) (sym a_is) ∙ ap (slice_cmp nat_cmp (padded xs)) (sym b_is)
    ∙ zeros_behind xs ys (max_candidates - length xs) (max_candidates - length ys) (ranking_some xs ranking) (ranking_some ys other) long
