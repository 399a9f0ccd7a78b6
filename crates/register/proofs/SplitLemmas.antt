-- Numbered entries, split at the entry with the given number; and lists derived from each entry, concatenated.
use Rattle.std.proofs.Common.{◌≡◌, ℕ, ◌==◌, Bool, true, false, cond, not, List, [], ◌∷◌, ◌++◌, Some, refl, ap, ◌∙◌}
use Rattle.std.specs.List.{AllByRecursion, flat_map, list_all}
use Rattle.std.specs.List.Sorted.{IsStrictlySortedBy}
use Rattle.std.specs.Ordering.{nat_cmp, on, is_eq, is_lt}
use Rattle.std.specs.Cmp.{unsigned_tied}
use Rattle.std.specs.declared.cmp.Ordering.{Ordering}
use Rattle.std.specs.declared.cmp.Ordering.TheVariants.{Less}
use Rattle.std.proofs.lemmas.Bool.{and_parts, and_from, eq-eqb, not-true}
use Rattle.std.proofs.lemmas.Grind.{flat_map-append}
use Rattle.register.specs.Offices.{put, entry_at, changed}
use Rattle.register.proofs.MapLemmas.{same_number, other_number}

-- ---- a list derived from each entry

-- if the lists derived from each entry are equal, so are the concatenated lists
pub flat_alike : {X Y : Type 0} (h k : X → List Y) (xs : List X) → ((x : X) → h x ≡ k x) → flat_map h xs ≡ flat_map k xs
flat_alike h k [] same = refl
flat_alike {X} {Y} h k (x ∷ xs) same = ap (λ (ys : List Y). ys ++ flat_map h xs) (same x) ∙ ap (λ (ys : List Y). k x ++ ys) (flat_alike h k xs same)

-- inserting an entry whose derived list is empty adds nothing
pub flat_put : {X Y : Type 0} (cmp : X → X → Ordering) (h : X → List Y) (x : X) (xs : List X) → h x ≡ [] → flat_map h (put cmp x xs) ≡ flat_map h xs
flat_put cmp h x [] none = ap (λ (ys : List _). ys ++ []) none
flat_put {X} {Y} cmp h x (y ∷ ys) none = elim (is_lt (cmp x y)) as (λ b. flat_map h (cond b (x ∷ y ∷ ys) (y ∷ put cmp x ys)) ≡ flat_map h (y ∷ ys)) [
  | true ↦ ap (λ (zs : List Y). zs ++ flat_map h (y ∷ ys)) none
  | false ↦ ap (λ (zs : List Y). h y ++ zs) (flat_put cmp h x ys none)
]

-- a change that preserves the list derived from each entry preserves the concatenated list
pub flat_changed : {X Y : Type 0} (compared : X → Ordering) (change : X → X) (h : X → List Y) (xs : List X) → ((x : X) → h (change x) ≡ h x) → flat_map h (changed compared change xs) ≡ flat_map h xs
flat_changed compared change h [] same = refl
flat_changed {X} {Y} compared change h (x ∷ xs) same =
    ap (λ (ys : List Y). ys ++ flat_map h (changed compared change xs)) (go (is_eq (compared x))) ∙ ap (λ (ys : List Y). h x ++ ys) (flat_changed compared change h xs same)
  where
    go : (b : Bool) → h (cond b (change x) x) ≡ h x
    go true = same x
    go false = refl

-- ---- the entry with the given number

-- no entry has the given number
abbrev pub are_others : {X : Type 0} → (X → ℕ) → ℕ → List X → Bool
are_others number n xs = list_all (λ x. not (n == number x)) xs

-- entries, split at the one with the given number
pub record IsSplit {X : Type 0} (number : X → ℕ) (n : ℕ) (e : X) (xs : List X) : Type 0 where
  pub front : List X
  pub back : List X
  pub is : xs ≡ front ++ (e ∷ back)
  pub number_is : n ≡ number e
  pub before : are_others number n front ≡ true
  pub behind : are_others number n back ≡ true

module _ {X : Type 0} (number : X → ℕ) (n : ℕ) where
  above : (m : ℕ) (xs : List X) → n ≡ m → AllByRecursion (λ x. nat_cmp m (number x) ≡ Less) xs → are_others number n xs ≡ true
  above m [] same less = refl
  above m (x ∷ xs) same less = and_from _ _ (ap not (ap (λ k. k == number x) same ∙ other_number m (number x) (ap is_eq less.0))) (above m xs same less.1)

  -- entries ordered by number are split at the one that is found
  pub split_at : (e : X) (xs : List X) → IsStrictlySortedBy (on number nat_cmp) xs → entry_at (λ x. nat_cmp n (number x)) xs ≡ Some e → IsSplit number n e xs
  unfolding IsStrictlySortedBy
  split_at e [] up found = absurd (cc)
  split_at e (y ∷ ys) up found = go (is_eq (nat_cmp n (number y))) refl (λ later. split_at e ys up.1 later)
    where
      go : (b : Bool) → is_eq (nat_cmp n (number y)) ≡ b → (entry_at (λ x. nat_cmp n (number x)) ys ≡ Some e → IsSplit number n e ys) → IsSplit number n e (y ∷ ys)
      go true is later =
          let first : Some y ≡ Some e = rw is at found in
          let same : y ≡ e = cc in
          let numbered : n ≡ number y = same_number n (number y) is in
          record { front = []; back = ys; is = ap (λ (x : X). x ∷ ys) same; number_is = numbered ∙ ap number same; before = refl; behind = above (number y) ys numbered up.0 }
      go false is later =
          let rest = later (rw is at found) in
          record {
            front = y ∷ rest.front;
            back = rest.back;
            is = ap (λ (xs : List X). y ∷ xs) rest.is;
            number_is = rest.number_is;
            before = and_from _ _
                (ap not (other_number n (number y) is)) rest.before;
            behind = rest.behind;
          }

  -- if no entry has the given number, changing the entry with that number leaves all entries unchanged
  changed_none : (change : X → X) (xs : List X) → are_others number n xs ≡ true → changed (λ x. nat_cmp n (number x)) change xs ≡ xs
  changed_none change [] others = refl
  changed_none change (x ∷ xs) others =
      let parts = and_parts (not (n == number x)) (are_others number n xs) others in
      rw (unsigned_tied n (number x) ∙ not-true (n == number x) parts.0) (ap (λ (ys : List X). x ∷ ys) (changed_none change xs parts.1))

  changed_front : (change : X → X) (e : X) (xs ys : List X) → is_eq (nat_cmp n (number e)) ≡ true → are_others number n xs ≡ true → are_others number n ys ≡ true
      → changed (λ x. nat_cmp n (number x)) change (xs ++ (e ∷ ys)) ≡ xs ++ (change e ∷ ys)
  changed_front change e [] ys own before behind = rw own (ap (λ (zs : List X). change e ∷ zs) (changed_none change ys behind))
  changed_front change e (x ∷ xs) ys own before behind =
      let parts = and_parts (not (n == number x)) (are_others number n xs) before in
      rw (unsigned_tied n (number x) ∙ not-true (n == number x) parts.0) (ap (λ (zs : List X). x ∷ zs) (changed_front change e xs ys own parts.1 behind))

  -- changing the entry with the given number leaves the others unchanged
  pub changed_split : (change : X → X) (e : X) (xs : List X) → (split : IsSplit number n e xs) → changed (λ x. nat_cmp n (number x)) change xs ≡ split.front ++ (change e ∷ split.back)
  changed_split change e xs split =
      ap (changed (λ x. nat_cmp n (number x)) change) split.is
      ∙ changed_front change e split.front split.back (unsigned_tied n (number e) ∙ eq-eqb n (number e) split.number_is) split.before split.behind

  -- the concatenated list of all entries is split at the same entry
  pub flat_split : {Y : Type 0} (h : X → List Y) (e : X) (xs : List X) → (split : IsSplit number n e xs) → flat_map h xs ≡ flat_map h split.front ++ (h e ++ flat_map h split.back)
  flat_split h e xs split = ap (flat_map h) split.is ∙ flat_map-append h split.front (e ∷ split.back)
