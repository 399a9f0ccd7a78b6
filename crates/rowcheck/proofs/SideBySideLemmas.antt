-- Walking rows and their owners side by side: each run consists of all the rows of its owner, and any rows left over
-- have no owner.
use Rattle.std.proofs.Common.{◌≡◌, ℕ, ◌+◌, ◌<◌, ◌≤◌, ◌==◌, Bool, true, false, ◌&&◌, cond, nat_lt, List, [], ◌∷◌, map, length, get_or, filter, drop, take_while, is_some, suc, refl, sym, ap}
use Rattle.std.proofs.Common.{◌∙◌, arith, inl, inr}
use Rattle.std.specs.List.{AllByRecursion, list_all, prefix_len}
use Rattle.std.specs.List.Sorted.{IsStrictlySortedBy}
use Rattle.std.specs.declared.cmp.Ordering.{Ordering}
use Rattle.std.specs.declared.cmp.Ordering.TheVariants.{Less, Equal, Greater}
use Rattle.std.specs.Ordering.{nat_cmp, on, is_eq}
use Rattle.std.specs.Cmp.{unsigned_tied}
use Rattle.std.proofs.lemmas.Bool.{ltb-true, eqb-true}
use Rattle.std.proofs.lemmas.Bool.Decides.{eqb_tells, leb_tells}
use Rattle.std.proofs.lemmas.List.{at_drop_more, length-map}
use Rattle.std.proofs.lemmas.List.Sums.{take_while-cons}
use Rattle.register.specs.Offices.{entry_at}
use Rattle.register.proofs.MapLemmas.{each_weaker}
use Rattle.rowcheck.specs.Walks.KeyRanges.{skip_while, pass_by_run}

-- ---- prefixes

-- what remains of a list once a prefix is removed
pub drop_front : {X : Type 0} (p : X → Bool) (xs : List X) → drop (prefix_len p xs) xs ≡ skip_while p xs
drop_front p [] = refl
drop_front {X} p (x ∷ xs) = go (p x) (drop_front p xs)
  where
    go : (b : Bool) → drop (prefix_len p xs) xs ≡ skip_while p xs → drop (cond b (1 + prefix_len p xs) 0) (x ∷ xs) ≡ cond b (skip_while p xs) (x ∷ xs)
    go true later = let e : 1 + prefix_len p xs ≡ suc (prefix_len p xs) = omega arith in rw e later
    go false later = refl

front_map : {X Y : Type 0} (g : X → Y) (p : Y → Bool) (xs : List X) → take_while p (map g xs) ≡ map g (take_while (λ x. p (g x)) xs)
front_map g p [] = refl
front_map {X} g p (x ∷ xs) = take_while-cons p (g x) (map g xs) ∙ (go (p (g x)) (front_map g p xs) ∙ ap (map g) (sym (take_while-cons (λ y. p (g y)) x xs)))
  where
    go : (b : Bool) → take_while p (map g xs) ≡ map g (take_while (λ y. p (g y)) xs) → cond b (g x ∷ take_while p (map g xs)) [] ≡ map g (cond b (x ∷ take_while (λ y. p (g y)) xs) [])
    go true later = ap (λ ys. g x ∷ ys) later
    go false later = refl

rest_map : {X Y : Type 0} (g : X → Y) (p : Y → Bool) (xs : List X) → skip_while p (map g xs) ≡ map g (skip_while (λ x. p (g x)) xs)
rest_map g p [] = refl
rest_map {X} g p (x ∷ xs) = go (p (g x)) (rest_map g p xs)
  where
    go : (b : Bool) → skip_while p (map g xs) ≡ map g (skip_while (λ y. p (g y)) xs) → cond b (skip_while p (map g xs)) (map g (x ∷ xs)) ≡ map g (cond b (skip_while (λ y. p (g y)) xs) (x ∷ xs))
    go true later = later
    go false later = refl

rest_rises : {X : Type 0} (cmp : X → X → Ordering) (p : X → Bool) (xs : List X) → IsStrictlySortedBy cmp xs → IsStrictlySortedBy cmp (skip_while p xs)
unfolding IsStrictlySortedBy
rest_rises cmp p [] up = tt
rest_rises {X} cmp p (x ∷ xs) up = elim (p x) as (λ b. IsStrictlySortedBy cmp (cond b (skip_while p xs) (x ∷ xs))) [ true ↦ rest_rises cmp p xs up.1 | false ↦ up ]

-- ---- walking the rows is the same as walking the entries that they represent

pub by_run_map : {V W X Y : Type 0} (f : V → W) (g : X → Y) (own : W → ℕ) (key : Y → ℕ) (test : W → List Y → Bool) (vs : List V) (xs : List X)
    → pass_by_run (λ v. own (f v)) (λ x. key (g x)) (λ v ys. test (f v) (map g ys)) vs xs ≡ pass_by_run own key test (map f vs) (map g xs)
by_run_map f g own key test [] xs = rw length-map refl
by_run_map f g own key test (v ∷ vs) xs =
    rw (front_map g (λ y. key y == own (f v)) xs, rest_map g (λ y. key y == own (f v)) xs)
    (ap (λ b. test (f v) (map g (take_while (λ x. key (g x) == own (f v)) xs)) && b) (by_run_map f g own key test vs (skip_while (λ x. key (g x) == own (f v)) xs)))

-- skipping an owner without rows
pub by_run_more : {W X : Type 0} (own : W → ℕ) (key : X → ℕ) (test : W → List X → Bool) (ws : List W) (xs : List X) (i : ℕ) (w : W) → i < length ws → get_or ws i w ≡ w
    → pass_by_run own key test (drop i ws) xs ≡ (test w (take_while (λ x. key x == own w) xs) && pass_by_run own key test (drop (i + 1) ws) (skip_while (λ x. key x == own w) xs))
by_run_more {W} own key test ws xs i w within is =
    at_drop_more (λ (vs : List W). pass_by_run own key test vs xs) ws i w within ∙ ap (λ (v : W). pass_by_run own key test (v ∷ drop (i + 1) ws) xs) is

-- ---- what a walk proves

swapped : (a p q : Bool) → (a && (p && q)) ≡ (p && (a && q))
swapped true p q = refl
swapped false true q = refl
swapped false false q = refl

nothing : (a : Bool) → (a && false) ≡ false
nothing true = refl
nothing false = refl

pub less_differs : (m n : ℕ) → m < n → (m == n) ≡ false
less_differs m n less = elim (eqb_tells m n) [ inl same ↦ absurd (let e = same.1 in omega (arith, e, less)) | inr other ↦ other.0 ]

pub more_differs : (m n : ℕ) → n < m → (m == n) ≡ false
more_differs m n more = elim (eqb_tells m n) [ inl same ↦ absurd (let e = same.1 in omega (arith, e, more)) | inr other ↦ other.0 ]

-- two numbers that compare as equal are equal
pub equal_from : (m n : ℕ) → nat_cmp m n ≡ Equal → m ≡ n
equal_from m n same = eqb-true m n (sym (unsigned_tied m n) ∙ ap is_eq same)

-- if one number compares as less than another, it is less
pub below_from : (m n : ℕ) → nat_cmp m n ≡ Less → m < n
below_from m n less = go (nat_lt m n) refl (m == n) less
  where
    go : (b : Bool) → nat_lt m n ≡ b → (c : Bool) → cond b Less (cond c Equal Greater) ≡ Less → m < n
    go true is c told = ltb-true m n is
    go false is true told = absurd (cc)
    go false is false told = absurd (cc)

module _ {W X : Type 0} (own : W → ℕ) (key : X → ℕ) where
  -- whether a row has an owner
  abbrev is_owned : List W → X → Bool
  is_owned ws x = is_some (entry_at (λ w. nat_cmp (key x) (own w)) ws)

  -- the rows of an owner
  abbrev rows_of : W → List X → List X
  rows_of w xs = filter (λ x. key x == own w) xs

  -- every owner passes the test together with its rows
  abbrev are_tested : (W → List X → Bool) → List W → List X → Bool
  are_tested test ws xs = list_all (λ w. test w (rows_of w xs)) ws

  -- a row whose number is less than every owner's number has no owner
  unowned : (ws : List W) (x : X) → AllByRecursion (λ w. key x < own w) ws → is_owned ws x ≡ false
  unowned [] x above = refl
  unowned (w ∷ ws) x above = rw (unsigned_tied (key x) (own w) ∙ less_differs (key x) (own w) above.0) (unowned ws x above.1)

  module _ (w : W) where
    none_here : (xs : List X) → AllByRecursion (λ x. own w < key x) xs → rows_of w xs ≡ []
    none_here [] above = refl
    none_here (x ∷ xs) above = rw (more_differs (key x) (own w) above.0) (none_here xs above.1)

    none_owned : (ws : List W) (xs : List X) → AllByRecursion (λ x. own w < key x) xs → list_all (is_owned (w ∷ ws)) xs ≡ list_all (is_owned ws) xs
    none_owned ws [] above = refl
    none_owned ws (x ∷ xs) above = rw (unsigned_tied (key x) (own w) ∙ more_differs (key x) (own w) above.0) (ap (λ b. is_owned ws x && b) (none_owned ws xs above.1))

    -- the rows of a later owner all come after this run
    rows_behind : (other : W) → own w < own other → (xs : List X) → rows_of other (skip_while (λ x. key x == own w) xs) ≡ rows_of other xs
    rows_behind other above [] = refl
    rows_behind other above (x ∷ xs) = elim (eqb_tells (key x) (own w)) [
      | inl same ↦ let e = same.1 in let no : (key x == own other) ≡ false = less_differs (key x) (own other) (omega (arith, e, above)) in rw (same.0, no) (rows_behind other above xs)
      | inr away ↦ rw away.0 refl
    ]

    tested_behind : (test : W → List X → Bool) (ws : List W) → AllByRecursion (λ v. own w < own v) ws → (xs : List X) → are_tested test ws (skip_while (λ x. key x == own w) xs) ≡ are_tested test ws xs
    tested_behind test [] above xs = refl
    tested_behind test (v ∷ ws) above xs = rw (rows_behind v above.0 xs) (ap (λ b. test v (rows_of v xs) && b) (tested_behind test ws above.1 xs))

    module _ (cmp : X → X → Ordering) (below : (x y : X) → cmp x y ≡ Less → key x ≤ key y) where
      -- if a row is above an owner, so are all the rows after it
      all_above : (x : X) (xs : List X) → own w < key x → AllByRecursion (λ y. cmp x y ≡ Less) xs → AllByRecursion (λ y. own w < key y) (x ∷ xs)
      all_above x xs above up = (above, each_weaker (λ y. cmp x y ≡ Less) (λ y. own w < key y) xs (λ y less. let e = below x y less in omega (arith, e, above)) up)

      -- if no row is below the owner, the owner's rows are the run at the front
      rows_at_front : (xs : List X) → IsStrictlySortedBy cmp xs → AllByRecursion (λ x. own w ≤ key x) xs → rows_of w xs ≡ take_while (λ x. key x == own w) xs
      unfolding IsStrictlySortedBy
      rows_at_front [] up least = refl
      rows_at_front (x ∷ xs) up least = elim (eqb_tells (key x) (own w)) [
        | inl same ↦ rw (take_while-cons (λ y. key y == own w) x xs, same.0) (ap (λ ys. x ∷ ys) (rows_at_front xs up.1 least.1))
        | inr away ↦
            let e = least.0 in
            let differs = away.1 in
            let above : own w < key x = omega (arith, e, differs) in
            rw (take_while-cons (λ y. key y == own w) x xs, away.0) (none_here xs (all_above x xs above up.0).1)
      ]

      -- the rows in the run belong to this owner, and the remaining rows to the other owners
      owned_behind : (ws : List W) (xs : List X) → IsStrictlySortedBy cmp xs → AllByRecursion (λ x. own w ≤ key x) xs
          → list_all (is_owned (w ∷ ws)) xs ≡ list_all (is_owned ws) (skip_while (λ x. key x == own w) xs)
      unfolding IsStrictlySortedBy
      owned_behind ws [] up least = refl
      owned_behind ws (x ∷ xs) up least = elim (eqb_tells (key x) (own w)) [
        | inl same ↦ rw (unsigned_tied (key x) (own w) ∙ same.0, same.0) (owned_behind ws xs up.1 least.1)
        | inr away ↦
            let e = least.0 in
            let differs = away.1 in
            let above : own w < key x = omega (arith, e, differs) in
            none_owned ws (x ∷ xs) (all_above x xs above up.0) ∙ rw away.0 refl
      ]

  module _ (cmp : X → X → Ordering) (below : (x y : X) → cmp x y ≡ Less → key x ≤ key y) (test : W → List X → Bool) where
    -- what the walk is meant to prove: every row has an owner, and every owner passes the test together with its rows
    abbrev Tells : List W → List X → Type 0
    Tells ws xs = pass_by_run own key test ws xs ≡ (list_all (is_owned ws) xs && are_tested test ws xs)

    -- the walk proves it if no row is below the next owner
    tells_above : (w : W) (ws : List W) (xs : List X) → AllByRecursion (λ v. own w < own v) ws → IsStrictlySortedBy cmp xs → AllByRecursion (λ x. own w ≤ key x) xs
        → Tells ws (skip_while (λ x. key x == own w) xs)
        → Tells (w ∷ ws) xs
    tells_above w ws xs owners up least later =
        rw (rows_at_front w cmp below xs up least, owned_behind w cmp below ws xs up least, sym (tested_behind w test ws owners xs), later)
        (swapped (test w (take_while (λ x. key x == own w) xs)) (list_all (is_owned ws) (skip_while (λ x. key x == own w) xs)) (are_tested test ws (skip_while (λ x. key x == own w) xs)))

    -- the walk also proves it if a row is below the next owner, since such a row has no owner
    tells_below : (w : W) (ws : List W) (x : X) (xs : List X) → AllByRecursion (λ v. own w < own v) ws → key x < own w → Tells ws (x ∷ xs) → Tells (w ∷ ws) (x ∷ xs)
    tells_below w ws x xs owners low later =
        let differs = less_differs (key x) (own w) low in
        let further = unowned ws x (each_weaker (λ v. own w < own v) (λ v. key x < own v) ws (λ v above. omega (arith, low, above)) owners) in
        let none : pass_by_run own key test ws (x ∷ xs) ≡ false = later ∙ rw further refl in
        rw (take_while-cons (λ y. key y == own w) x xs, unsigned_tied (key x) (own w) ∙ differs, differs, none, further) (nothing (test w []))

    -- if owners and rows are in key order, the walk succeeds if and only if every row has an owner and every owner
    -- passes the test
    pub walk_tells : (ws : List W) (xs : List X) → IsStrictlySortedBy (on own nat_cmp) ws → IsStrictlySortedBy cmp xs → Tells ws xs
    unfolding IsStrictlySortedBy
    walk_tells [] [] owners up = refl
    walk_tells [] (x ∷ xs) owners up = more_differs (length (x ∷ xs)) 0 (omega arith)
    walk_tells (w ∷ ws) [] owners up = rw (walk_tells ws [] owners.1 up) refl
    walk_tells (w ∷ ws) (x ∷ xs) owners up =
        let others = each_weaker (λ v. nat_cmp (own w) (own v) ≡ Less) (λ v. own w < own v) ws (λ v less. below_from (own w) (own v) less) owners.0 in
        elim (leb_tells (own w) (key x)) [
          | inl least ↦
              let e = least.1 in
              tells_above w ws (x ∷ xs) others up (e, each_weaker (λ y. cmp x y ≡ Less) (λ y. own w ≤ key y) xs (λ y less. let k = below x y less in omega (arith, e, k)) up.0)
              (walk_tells ws (skip_while (λ y. key y == own w) (x ∷ xs)) owners.1 (rest_rises cmp (λ y. key y == own w) (x ∷ xs) up))
          | inr low ↦ tells_below w ws x xs others low.1 (walk_tells ws (x ∷ xs) owners.1 up)
        ]
