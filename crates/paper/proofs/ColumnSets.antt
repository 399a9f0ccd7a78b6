-- Sets of candidate numbers, stored as ascending lists.
use Rattle.std.proofs.Common.{◌≡◌, ℕ, suc, zero, ◌+◌, ◌-◌, ◌<◌, ◌≤◌, nat_eq, nat_lt, true, false, List, [], ◌∷◌, ◌++◌, length, take, drop, slice_index, inl, inr, refl, sym, ap, ◌∙◌, subst}
use Rattle.std.proofs.Common.{arith, length-append, take-append-drop}
use Rattle.std.specs.List.{filter, AllByRecursion, list_any, prefix_len}
use Rattle.std.proofs.lemmas.Bool.{lt-ltb, le-ltb, eq-eqb, ne_eqb, cases_order, or_parts, or_from, or_left}
use Rattle.paper.specs.Columns.{max_candidates, IsCandidateSet, with_column}
use Rattle.paper.specs.Padded.{listed, padded}
use Rattle.paper.proofs.PaddedLists.{listed-append_zeros}

-- ascending candidate numbers above the given bound
abbrev pub Ascends : ℕ → List ℕ → Type 0
Ascends low [] = Unit {0}
Ascends low (x ∷ xs) = (low < x) × (x ≤ max_candidates) × Ascends x xs

ascends_each : (low : ℕ) (xs : List ℕ) → Ascends low xs → (k : ℕ) → k < length xs → (low < slice_index xs k) × (slice_index xs k ≤ max_candidates)
ascends_each low [] up k here = absurd (omega arith)
ascends_each low (x ∷ xs) up zero here = (up.0, up.1)
ascends_each low (x ∷ xs) up (suc k) here =
    let later = ascends_each x xs up.2 k (omega arith) in
    (omega (arith, later.0, up.0), later.1)

ascends_next : (low : ℕ) (xs : List ℕ) → Ascends low xs → (k : ℕ) → k + 1 < length xs → slice_index xs k < slice_index xs (k + 1)
ascends_next low [] up k here = absurd (omega arith)
ascends_next low (x ∷ xs) up zero here = (ascends_each x xs up.2 0 (omega arith)).0
ascends_next low (x ∷ xs) up (suc k) here =
    let e : suc k + 1 ≡ suc (k + 1) = omega arith in
    let later = ascends_next x xs up.2 k (omega arith) in
    subst (λ j. slice_index xs k < slice_index (x ∷ xs) j) (sym e) later

pub columns_from_ascends : (low : ℕ) (xs : List ℕ) → Ascends low xs → IsCandidateSet xs
columns_from_ascends low xs up = record {
  ascending = ascends_next low xs up;
  within = λ k here. let each = ascends_each low xs up k here in (omega (arith, each.0), each.1);
}

ascends_from : (low : ℕ) (xs : List ℕ) → IsCandidateSet xs → (0 < length xs → low < slice_index xs 0) → Ascends low xs
ascends_from low [] set first = tt
ascends_from low (x ∷ xs) set first = (first (omega arith), (set.within 0 (omega arith)).1, ascends_from x xs others (λ some. set.ascending 0 (omega (arith, some))))
  where
    others : IsCandidateSet xs
    others = record {
      ascending = λ k here.
          let e : suc k + 1 ≡ suc (k + 1) = omega arith in
          subst (λ j. slice_index xs k < slice_index (x ∷ xs) j) e (set.ascending (suc k) (omega (arith, here)));
      within = λ k here. set.within (suc k) (omega (arith, here));
    }

pub ascends_from_columns : (xs : List ℕ) → IsCandidateSet xs → Ascends 0 xs
ascends_from_columns xs set = ascends_from 0 xs set (λ some. (set.within 0 some).0)

ascends_length : (low : ℕ) (xs : List ℕ) → low ≤ max_candidates → Ascends low xs → low + length xs ≤ max_candidates
ascends_length low [] small up = omega arith
ascends_length low (x ∷ xs) small up = omega (arith, ascends_length x xs up.1 up.2, up.0)

-- a set of columns has at most the maximum number of candidates
pub length_columns : (xs : List ℕ) → IsCandidateSet xs → length xs ≤ max_candidates
length_columns xs set = omega (arith, ascends_length 0 xs (omega arith) (ascends_from_columns xs set))

ascends_some : (low : ℕ) (xs : List ℕ) → Ascends low xs → AllByRecursion (λ x. 1 ≤ x) xs
ascends_some low [] up = tt
ascends_some low (x ∷ xs) up = (omega (arith, up.0), ascends_some x xs up.2)

-- the array made from a set of columns stores the set
pub listed-padded_columns : (xs : List ℕ) → IsCandidateSet xs → listed (padded xs) ≡ xs
listed-padded_columns xs set = listed-append_zeros xs (max_candidates - length xs) (ascends_some 0 xs (ascends_from_columns xs set))

-- in a set that ascends from c or higher, no number is less than c, and all of them are greater
none_below : (c low : ℕ) (xs : List ℕ) → c ≤ low → Ascends low xs → filter (λ d. nat_lt d c) xs ≡ []
none_below c low [] at up = refl
none_below c low (x ∷ xs) at up = rw (le-ltb x c (omega (arith, up.0))) (none_below c x xs (omega (arith, up.0)) up.2)

all_above : (c low : ℕ) (xs : List ℕ) → c ≤ low → Ascends low xs → filter (λ d. nat_lt c d) xs ≡ xs
all_above c low [] at up = refl
all_above c low (x ∷ xs) at up = rw (lt-ltb c x (omega (arith, up.0))) (ap (λ l. x ∷ l) (all_above c x xs (omega (arith, up.0)) up.2))

-- a number is inserted after the smaller numbers and before the larger ones, unless it is already present
with_less : (c x : ℕ) (xs : List ℕ) → x < c → with_column (x ∷ xs) c ≡ x ∷ with_column xs c
with_less c x xs less = rw (lt-ltb x c less, le-ltb c x (omega arith)) refl

with_more : (c x : ℕ) (xs : List ℕ) → c < x → Ascends x xs → with_column (x ∷ xs) c ≡ c ∷ x ∷ xs
with_more c x xs more up = rw (le-ltb x c (omega arith), lt-ltb c x more, none_below c x xs (omega arith) up, all_above c x xs (omega arith) up) refl

with_same : (c x : ℕ) (xs : List ℕ) → c ≡ x → Ascends x xs → with_column (x ∷ xs) c ≡ x ∷ xs
with_same c x xs same up =
    rw (le-ltb x c (omega arith), le-ltb c x (omega arith), none_below c x xs (omega arith) up, all_above c x xs (omega arith) up) (ap (λ n. n ∷ xs) same)

-- a set remains ascending when a number is added
with_column-Ascends : (c low : ℕ) (xs : List ℕ) → low < c → c ≤ max_candidates → Ascends low xs → Ascends low (with_column xs c)
with_column-Ascends c low [] high few up = (high, few, tt)
with_column-Ascends c low (x ∷ xs) high few up =
    elim (cases_order c x) [
      | inl same ↦ rw (with_same c x xs same up.2) up
      | inr other ↦ elim other [
        | inl more ↦ rw (with_more c x xs more up.2) (high, few, (more, up.1, up.2))
        | inr less ↦ rw (with_less c x xs less) (up.0, up.1, with_column-Ascends c x xs less few up.2)
      ]
    ]

pub with_column-IsCandidateSet : (xs : List ℕ) (c : ℕ) → 1 ≤ c → c ≤ max_candidates → IsCandidateSet xs → IsCandidateSet (with_column xs c)
with_column-IsCandidateSet xs c some few set =
    columns_from_ascends 0 (with_column xs c) (with_column-Ascends c 0 xs (omega (arith, some)) few (ascends_from_columns xs set))

absent_below : (c low : ℕ) (xs : List ℕ) → c ≤ low → Ascends low xs → list_any (nat_eq c) xs ≡ false
absent_below c low [] at up = refl
absent_below c low (x ∷ xs) at up =
    or_from _ _ (ne_eqb c x (λ same. omega (arith, up.0))) (absent_below c x xs (omega (arith, up.0)) up.2)

with_present : (c low : ℕ) (xs : List ℕ) → Ascends low xs → list_any (nat_eq c) xs ≡ true → with_column xs c ≡ xs
with_present c low [] up found = cc
with_present c low (x ∷ xs) up found =
    elim (cases_order c x) [
      | inl same ↦ with_same c x xs same up.2
      | inr other ↦ elim other [
        | inl more ↦ let absent = absent_below c c (x ∷ xs) (omega arith) (more, up.1, up.2) in cc
        | inr less ↦ with_less c x xs less ∙ ap (λ l. x ∷ l) (with_present c x xs up.2 (rw (ne_eqb c x (λ same. omega (arith, less))) at found))
      ]
    ]

-- a list with c inserted before the first number that isn't less than c
abbrev pub parts : ℕ → List ℕ → List ℕ
parts c xs = take (prefix_len (λ d. nat_lt d c) xs) xs ++ c ∷ drop (prefix_len (λ d. nat_lt d c) xs) xs

parts_more : (c x : ℕ) (xs : List ℕ) → c < x → parts c (x ∷ xs) ≡ c ∷ x ∷ xs
parts_more c x xs more = rw (le-ltb x c (omega (arith, more))) refl

parts_less : (c x : ℕ) (xs : List ℕ) → x < c → parts c (x ∷ xs) ≡ x ∷ parts c xs
parts_less c x xs less =
    let e : 1 + prefix_len (λ d. nat_lt d c) xs ≡ suc (prefix_len (λ d. nat_lt d c) xs) = omega arith in
    rw (lt-ltb x c less, e) refl

with_absent : (c low : ℕ) (xs : List ℕ) → Ascends low xs → list_any (nat_eq c) xs ≡ false → with_column xs c ≡ parts c xs
with_absent c low [] up absent = refl
with_absent c low (x ∷ xs) up absent =
    elim (cases_order c x) [
      | inl same ↦ let found = or_left _ (list_any (nat_eq c) xs) (eq-eqb c x same) in cc
      | inr other ↦ elim other [
        | inl more ↦ with_more c x xs more up.2 ∙ sym (parts_more c x xs more)
        | inr less ↦
            with_less c x xs less ∙ ap (λ l. x ∷ l) (with_absent c x xs up.2 (or_parts (nat_eq c x) (list_any (nat_eq c) xs) absent).1) ∙ sym (parts_less c x xs less)
      ]
    ]

last_above : (c low : ℕ) (xs : List ℕ) → Ascends low (xs ++ c ∷ []) → low < c
last_above c low [] up = up.0
last_above c low (x ∷ xs) up = omega (arith, up.0, last_above c x xs up.2)

with_last : (c low : ℕ) (xs : List ℕ) → Ascends low (xs ++ c ∷ []) → with_column xs c ≡ xs ++ c ∷ []
with_last c low [] up = refl
with_last c low (x ∷ xs) up = with_less c x xs (last_above c x xs up.2) ∙ ap (λ l. x ∷ l) (with_last c x xs up.2)

-- adding a number that a set already contains leaves the set unchanged
pub with_column-present : (xs : List ℕ) (c : ℕ) → IsCandidateSet xs → list_any (nat_eq c) xs ≡ true → with_column xs c ≡ xs
with_column-present xs c set found = with_present c 0 xs (ascends_from_columns xs set) found

pub with_column-absent : (xs : List ℕ) (c : ℕ) → IsCandidateSet xs → list_any (nat_eq c) xs ≡ false → with_column xs c ≡ parts c xs
with_column-absent xs c set absent = with_absent c 0 xs (ascends_from_columns xs set) absent

pub with_column-last : (xs : List ℕ) (c : ℕ) → IsCandidateSet (xs ++ c ∷ []) → with_column xs c ≡ xs ++ c ∷ []
with_column-last xs c set = with_last c 0 xs (ascends_from_columns (xs ++ c ∷ []) set)

-- there is room for a number that the set doesn't contain yet
pub with_column-room : (xs : List ℕ) (c : ℕ) → 1 ≤ c → c ≤ max_candidates → IsCandidateSet xs → list_any (nat_eq c) xs ≡ false → length xs < max_candidates
with_column-room xs c some few set absent =
    let n = prefix_len (λ d. nat_lt d c) xs in
    let most = length_columns (with_column xs c) (with_column-IsCandidateSet xs c some few set) in
    let parts = ap length (with_column-absent xs c set absent) ∙ length-append (take n xs) (c ∷ drop n xs) in
    let both = ap length (take-append-drop n xs) in
    omega (arith, most, parts, both, length-append (take n xs) (drop n xs))

-- the array built from the parts
pub parts-made : (xs slice below above numbers : List ℕ) (c at : ℕ) → IsCandidateSet xs → list_any (nat_eq c) xs ≡ false → slice ≡ xs → at ≡ prefix_len (λ d. nat_lt d c) xs →
    below ≡ take at slice → above ≡ drop at slice → numbers ≡ padded (below ++ c ∷ above) → numbers ≡ padded (with_column xs c)
parts-made xs slice below above numbers c at set absent whole place front back made =
    rw (front, back, whole, place) at made ∙ ap padded (sym (with_column-absent xs c set absent))

-- an array built from a set satisfies the invariant
pub stands : (numbers ys : List ℕ) → IsCandidateSet ys → numbers ≡ padded ys → (padded (listed numbers) ≡ numbers) × IsCandidateSet (listed numbers)
stands numbers ys set made =
    let same : listed numbers ≡ ys = ap listed made ∙ listed-padded_columns ys set in
    (ap padded same ∙ sym made, subst IsCandidateSet (sym same) set)
