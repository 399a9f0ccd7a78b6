-- Rows in key order are also in order when compared with a key, or with a prefix of one; and a search of the rows finds what the state
-- contains.
use Rattle.std.proofs.Common.{◌≡◌, ℕ, ◌<◌, ◌≤◌, ◌==◌, Bool, true, false, ◌&&◌, cond, nat_lt, List, [], ◌∷◌, map, length, get_or, filter, find, slice_get, Option, Some, None, option_map}
use Rattle.std.proofs.Common.{option_copied, is_some, Bor, zero, suc, refl, sym, ap, ◌∙◌, arith, inl, inr, eq-eqb}
use Rattle.std.specs.List.{AllByRecursion}
use Rattle.std.specs.List.Sorted.{IsNonDecreasingBy, IsStrictlySortedBy}
use Rattle.std.specs.declared.cmp.Ordering.{Ordering}
use Rattle.std.specs.declared.cmp.Ordering.TheVariants.{Less, Equal, Greater}
use Rattle.std.specs.Ordering.{nat_cmp, ordering_index, ordering_then, is_eq, then_cmp, on}
use Rattle.std.specs.Cmp.{unsigned_tied}
use Rattle.std.proofs.lemmas.Bool.{ltb-false}
use Rattle.std.proofs.lemmas.Bool.Decides.{eqb_tells}
use Rattle.rowcheck.proofs.SideBySideLemmas.{below_from, equal_from}

-- ---- orders

above_from : (m n : ℕ) → nat_cmp m n ≡ Greater → n < m
above_from m n more = go (nat_lt m n) refl (m == n) refl more
  where
    go : (b : Bool) → nat_lt m n ≡ b → (c : Bool) → (m == n) ≡ c → cond b Less (cond c Equal Greater) ≡ Greater → n < m
    go true is c other told = absurd (cc)
    go false is true other told = absurd (cc)
    go false is false other told =
        let least = ltb-false m n is in
        elim (eqb_tells m n) [
          | inl same ↦ absurd (let e = same.0 in cc)
          | inr away ↦ let differs = away.1 in omega (arith, least, differs)
        ]

-- a comparison that is consistent with the order of the rows: no row compares less than a row that sorts before it
abbrev pub Follows : {Y : Type 0} → (Y → Y → Ordering) → (Y → Ordering) → Type 0
Follows {Y} cmp o = (y z : Y) → cmp y z ≡ Less → ordering_index (o y) ≤ ordering_index (o z)

at_most_two : (o : Ordering) → ordering_index o ≤ 2
at_most_two Less = omega arith
at_most_two Equal = omega arith
at_most_two Greater = omega arith

module _ {Y : Type 0} (n : Y → ℕ) (key : ℕ) where
  -- comparing first by a number, and then by a comparison that is consistent with the rest of the order
  pub follows_then : (rest : Y → Y → Ordering) (o : Y → Ordering) → Follows rest o → Follows (then_cmp (on n nat_cmp) rest) (λ y. ordering_then (nat_cmp (n y) key) (o y))
  follows_then rest o later y z less = go (nat_cmp (n y) (n z)) refl less
    where
      apart : (p q : Ordering) → nat_cmp (n y) key ≡ p → nat_cmp (n z) key ≡ q → n y < n z → ordering_index (ordering_then p (o y)) ≤ ordering_index (ordering_then q (o z))
      apart Less q is told below = omega arith
      apart Equal Greater is told below = at_most_two (o y)
      apart Greater Greater is told below = omega arith
      apart Equal Less is told below = absurd (let a = equal_from (n y) key is in let b = below_from (n z) key told in omega (arith, a, b))
      apart Equal Equal is told below = absurd (let a = equal_from (n y) key is in let b = equal_from (n z) key told in omega (arith, a, b))
      apart Greater Less is told below = absurd (let a = above_from (n y) key is in let b = below_from (n z) key told in omega (arith, a, b))
      apart Greater Equal is told below = absurd (let a = above_from (n y) key is in let b = equal_from (n z) key told in omega (arith, a, b))

      together : (p : Ordering) → rest y z ≡ Less → ordering_index (ordering_then p (o y)) ≤ ordering_index (ordering_then p (o z))
      together Less below = omega arith
      together Equal below = later y z below
      together Greater below = omega arith

      go : (p : Ordering) → nat_cmp (n y) (n z) ≡ p → ordering_then p (rest y z) ≡ Less
          → ordering_index (ordering_then (nat_cmp (n y) key) (o y)) ≤ ordering_index (ordering_then (nat_cmp (n z) key) (o z))
      go Less is told = apart (nat_cmp (n y) key) (nat_cmp (n z) key) refl refl (below_from (n y) (n z) is)
      go Equal is told = rw (equal_from (n y) (n z) is) (together (nat_cmp (n z) key) told)
      go Greater is told = absurd (cc)

  -- comparing by a number alone
  pub follows : (rest : Y → Y → Ordering) → Follows (then_cmp (on n nat_cmp) rest) (λ y. nat_cmp (n y) key)
  follows rest y z less = plain (nat_cmp (n y) key) (nat_cmp (n z) key) (follows_then rest (λ x. Equal) (λ a b below. omega arith) y z less)
    where
      plain : (p q : Ordering) → ordering_index (ordering_then p Equal) ≤ ordering_index (ordering_then q Equal) → ordering_index p ≤ ordering_index q
      plain Less q below = omega arith
      plain Equal Less below = below
      plain Equal Equal below = below
      plain Equal Greater below = below
      plain Greater Less below = below
      plain Greater Equal below = below
      plain Greater Greater below = below

  -- comparing by a number that is the entire key
  pub follows_key : Follows (on n nat_cmp) (λ y. nat_cmp (n y) key)
  follows_key y z less = follows (λ a b. Less) y z (rw less refl)

-- rows in key order are also ordered by such a comparison
pub stand_in_order : {X Y : Type 0} (f : X → Y) (cmp : Y → Y → Ordering) (o : Y → Ordering) → Follows cmp o → (xs : List X) → IsStrictlySortedBy cmp (map f xs)
    → IsNonDecreasingBy (λ x. ordering_index (o (f x))) xs
unfolding IsStrictlySortedBy
stand_in_order f cmp o along [] up i j d low high = absurd (omega arith)
stand_in_order f cmp o along (x ∷ xs) up zero zero d low high = omega arith
stand_in_order {X} {Y} f cmp o along (x ∷ xs) up zero (suc j) d low high = reach xs up.0 j (omega (arith, high))
  where
    reach : (ys : List X) → AllByRecursion (λ z. cmp (f x) z ≡ Less) (map f ys) → (k : ℕ) → k < length ys → ordering_index (o (f x)) ≤ ordering_index (o (f (get_or ys k d)))
    reach [] all k below = absurd (omega arith)
    reach (y ∷ ys) all zero below = along (f x) (f y) all.0
    reach (y ∷ ys) all (suc k) below = reach ys all.1 k (omega (arith, below))
stand_in_order f cmp o along (x ∷ xs) up (suc i) zero d low high = absurd (omega (arith, low))
stand_in_order f cmp o along (x ∷ xs) up (suc i) (suc j) d low high = stand_in_order f cmp o along xs up.1 i j d (omega (arith, low)) (omega (arith, high))

-- ---- what is found

-- whether two numbers compare as equal doesn't depend on which comes first
pub equal_either_way : (m n : ℕ) → is_eq (nat_cmp m n) ≡ is_eq (nat_cmp n m)
equal_either_way m n =
    unsigned_tied m n
    ∙ (elim (eqb_tells m n) [
      | inl same ↦ same.0 ∙ sym (eq-eqb n m (sym same.1))
      | inr away ↦ let differs = away.1 in away.0 ∙ elim (eqb_tells n m) [
        | inl same ↦ absurd (differs (sym same.1))
        | inr other ↦ sym other.0
      ]
    ] ∙ sym (unsigned_tied n m))

then_eq : (p q : Ordering) → is_eq (ordering_then p q) ≡ (is_eq p && is_eq q)
then_eq Less q = refl
then_eq Equal q = refl
then_eq Greater q = refl

number_and : (m a : ℕ) (o : Ordering) (b : Bool) → is_eq o ≡ b → is_eq (ordering_then (nat_cmp m a) o) ≡ ((m == a) && b)
number_and m a o b same = then_eq (nat_cmp m a) o ∙ rw (unsigned_tied m a, same) refl

-- keys of several numbers compare as equal if and only if each pair of numbers does
pub three_equal : (m a n b p c : ℕ) → is_eq (ordering_then (nat_cmp m a) (ordering_then (nat_cmp n b) (nat_cmp p c))) ≡ ((m == a) && ((n == b) && (p == c)))
three_equal m a n b p c = number_and m a _ _ (number_and n b _ _ (unsigned_tied p c))

module _ {X Y : Type 0} (f : X → Y) (p : Y → Bool) (q : X → Bool) (alike : (x : X) → q x ≡ p (f x)) where
  -- the entries of the rows found
  pub entries_found : (xs : List X) → map f (filter q xs) ≡ filter p (map f xs)
  entries_found [] = refl
  entries_found (x ∷ xs) = rw (alike x) (go (p (f x)) (entries_found xs))
    where
      go : (b : Bool) → map f (filter q xs) ≡ filter p (map f xs) → map f (cond b (x ∷ filter q xs) (filter q xs)) ≡ cond b (f x ∷ filter p (map f xs)) (filter p (map f xs))
      go true later = ap (λ ys. f x ∷ ys) later
      go false later = later

  -- the entry for the first row that is found
  pub first_found : (xs : List X) → option_map f (slice_get (filter q xs) 0) ≡ find p (map f xs)
  first_found [] = refl
  first_found (x ∷ xs) = rw (alike x) (go (p (f x)) (first_found xs))
    where
      go : (b : Bool) → option_map f (slice_get (filter q xs) 0) ≡ find p (map f xs) → option_map f (slice_get (cond b (x ∷ filter q xs) (filter q xs)) 0) ≡ cond b (Some (f x)) (find p (map f xs))
      go true later = refl
      go false later = later

-- an entry is found if and only if its row is
pub some_found : {X Y : Type 0} (f : X → Y) (o : Option (Bor X)) → is_some (option_map f (option_copied o)) ≡ is_some o
some_found f None = refl
some_found f (Some x) = refl
