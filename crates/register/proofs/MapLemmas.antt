-- Maps: inserting an entry, for any type of entries and any key order.
use Rattle.std.proofs.Common.{◌≡◌, ℕ, ◌==◌, Bool, true, false, not, List, [], ◌∷◌, ◌++◌, map, filter, Option, Some, None, is_some, option_map, cond, refl, sym, ap, ◌∙◌}
use Rattle.std.specs.List.{AllByRecursion, list_all}
use Rattle.std.specs.List.Sorted.{IsPermutation, IsStrictlySortedBy}
use Rattle.std.specs.declared.cmp.Ordering.{Ordering}
use Rattle.std.specs.declared.cmp.Ordering.TheVariants.{Less, Equal, Greater}
use Rattle.std.specs.Ordering.{nat_cmp, on, is_lt, is_eq, ordering_reverse, ordering_then}
use Rattle.std.specs.Cmp.{IsTotalOrder, unsigned_tied}
use Rattle.std.proofs.lemmas.Bool.{and_parts, and_from, eqb-true, not-true, both_ways}
use Rattle.std.proofs.lemmas.List.Kept.{IsStrictlySortedBy-filter}
use Rattle.std.proofs.lemmas.List.Folds.{list_all-map}
use Rattle.std.proofs.lemmas.List.Sorted.{IsPermutation-refl, IsPermutation-sym, IsPermutation-trans, IsPermutation-cons, IsPermutation-middle}
use Rattle.register.specs.Offices.{put, put_each, entry_at, without, changed}

-- inserting an entry into a map adds exactly that entry
pub put_same : {X : Type 0} (cmp : X → X → Ordering) (x : X) (ys : List X) → IsPermutation (x ∷ ys) (put cmp x ys)
put_same cmp x [] = IsPermutation-refl _
put_same {X} cmp x (y ∷ ys) = elim (is_lt (cmp x y)) as (λ b. IsPermutation (x ∷ y ∷ ys) (cond b (x ∷ y ∷ ys) (y ∷ put cmp x ys))) [
  | true ↦ IsPermutation-refl _
  | false ↦ IsPermutation-trans _ _ _ (IsPermutation-sym _ _ (IsPermutation-middle (y ∷ []) x ys)) (IsPermutation-cons y _ _ (put_same cmp x ys))
]

-- if every entry passes a test, and the inserted entry does too, every entry still passes
pub put_all : {X : Type 0} (cmp : X → X → Ordering) (p : X → Bool) (x : X) (ys : List X) → p x ≡ true → list_all p ys ≡ true → list_all p (put cmp x ys) ≡ true
put_all cmp p x [] good all = and_from _ _ good refl
put_all cmp p x (y ∷ ys) good all = elim (is_lt (cmp x y)) as (λ b. list_all p (cond b (x ∷ y ∷ ys) (y ∷ put cmp x ys)) ≡ true) [
  | true ↦ and_from _ _ good all
  | false ↦ and_from _ _ (and_parts _ _ all).0 (put_all cmp p x ys good (and_parts _ _ all).1)
]

each_put : {X : Type 0} (cmp : X → X → Ordering) (P : X → Type 0) (x : X) (ys : List X) → P x → AllByRecursion P ys → AllByRecursion P (put cmp x ys)
each_put cmp P x [] good all = (good, tt)
each_put cmp P x (y ∷ ys) good all = elim (is_lt (cmp x y)) as (λ b. AllByRecursion P (cond b (x ∷ y ∷ ys) (y ∷ put cmp x ys))) [
  | true ↦ (good, all)
  | false ↦ (all.0, each_put cmp P x ys good all.1)
]

-- if every entry passes a test, every entry passes a weaker test
pub list_all_weaker : {X : Type 0} (p q : X → Bool) (xs : List X) → ((x : X) → p x ≡ true → q x ≡ true) → list_all p xs ≡ true → list_all q xs ≡ true
list_all_weaker p q [] weaker all = refl
list_all_weaker p q (x ∷ xs) weaker all = and_from _ _ (weaker x (and_parts _ _ all).0) (list_all_weaker p q xs weaker (and_parts _ _ all).1)

-- if every entry passes two tests, every entry passes any test that follows from both
pub list_all_both : {X : Type 0} (p q r : X → Bool) (xs : List X) → ((x : X) → p x ≡ true → q x ≡ true → r x ≡ true) → list_all p xs ≡ true → list_all q xs ≡ true → list_all r xs ≡ true
list_all_both p q r [] both first second = refl
list_all_both p q r (x ∷ xs) both first second =
    and_from _ _ (both x (and_parts _ _ first).0 (and_parts _ _ second).0) (list_all_both p q r xs both (and_parts _ _ first).1 (and_parts _ _ second).1)

pub each_weaker : {X : Type 0} (P Q : X → Type 0) (ys : List X) → ((y : X) → P y → Q y) → AllByRecursion P ys → AllByRecursion Q ys
each_weaker P Q [] f all = tt
each_weaker P Q (y ∷ ys) f all = (f y all.0, each_weaker P Q ys f all.1)

-- if an entry with a new key is inserted, the keys remain in ascending order
pub put_rises : {X : Type 0} {cmp : X → X → Ordering} → IsTotalOrder cmp → (x : X) (ys : List X) → entry_at (cmp x) ys ≡ None → IsStrictlySortedBy cmp ys → IsStrictlySortedBy cmp (put cmp x ys)
unfolding IsStrictlySortedBy
put_rises total x [] new up = (tt, tt)
put_rises {X} {cmp} total x (y ∷ ys) new up = go (cmp x y) refl (λ others. put_rises total x ys others up.1)
  where
    go : (o : Ordering) → cmp x y ≡ o → (entry_at (cmp x) ys ≡ None → IsStrictlySortedBy cmp (put cmp x ys)) → IsStrictlySortedBy cmp (put cmp x (y ∷ ys))
    go Less is later = rw is ((is, each_weaker (λ z. cmp y z ≡ Less) (λ z. cmp x z ≡ Less) ys (λ z h. total.trans x y z is h) up.0), up)
    go Equal is later = absurd (let e = rw is at new in cc)
    go Greater is later =
        let below : cmp y x ≡ Less = total.antisymm y x ∙ ap ordering_reverse is in
        let others : entry_at (cmp x) ys ≡ None = rw is at new in
        rw is (each_put cmp (λ z. cmp y z ≡ Less) x ys below up.0, later others)

-- each entry compares as equal to itself
own_key : {X : Type 0} {cmp : X → X → Ordering} → IsTotalOrder cmp → (x : X) → is_eq (cmp x x) ≡ true
own_key {X} {cmp} total x = go (cmp x x) (total.antisymm x x)
  where
    go : (o : Ordering) → o ≡ ordering_reverse o → is_eq o ≡ true
    go Less is = absurd (cc)
    go Equal is = refl
    go Greater is = absurd (cc)

-- if no entry had the key, looking it up finds the inserted entry
pub found_put : {X : Type 0} {cmp : X → X → Ordering} → IsTotalOrder cmp → (x : X) (ys : List X) → entry_at (cmp x) ys ≡ None → entry_at (cmp x) (put cmp x ys) ≡ Some x
found_put total x [] none = rw (own_key total x) refl
found_put {X} {cmp} total x (y ∷ ys) none = go (is_eq (cmp x y)) refl (is_lt (cmp x y)) (λ later. found_put total x ys later)
  where
    go : (b : Bool) → is_eq (cmp x y) ≡ b → (first : Bool) → (entry_at (cmp x) ys ≡ None → entry_at (cmp x) (put cmp x ys) ≡ Some x)
        → entry_at (cmp x) (cond first (x ∷ y ∷ ys) (y ∷ put cmp x ys)) ≡ Some x
    go true found first later = absurd (let e = rw found at none in cc)
    go false other true later = rw (own_key total x) refl
    go false other false later = rw other (later (rw other at none))

-- a map whose entries pass a test and are in key order
pub record IsMap {X : Type 0} (test : X → Bool) (cmp : X → X → Ordering) (xs : List X) : Type 0 where
  pub in_range : list_all test xs ≡ true
  pub rises : IsStrictlySortedBy cmp xs

-- inserting an entry with a new key that passes the test results in such a map
pub put_is_map : {X : Type 0} {test : X → Bool} {cmp : X → X → Ordering} → IsTotalOrder cmp → (x : X) (ys : List X) → test x ≡ true → entry_at (cmp x) ys ≡ None → IsMap test cmp ys
    → IsMap test cmp (put cmp x ys)
put_is_map {X} {test} {cmp} total x ys good new is = record { in_range = put_all cmp test x ys good is.in_range; rises = put_rises total x ys new is.rises }

-- ---- inserting an entry

-- if no entry passes a test, filtering leaves none
pub filter_none : {X : Type 0} (p : X → Bool) (xs : List X) → list_all (λ x. not (p x)) xs ≡ true → filter p xs ≡ []
filter_none p [] none = refl
filter_none p (x ∷ xs) none = rw (not-true (p x) (and_parts _ _ none).0) (filter_none p xs (and_parts _ _ none).1)

-- an inserted entry with a different key doesn't change which entry is found
pub found_put_other : {X : Type 0} (cmp : X → X → Ordering) (compared : X → Ordering) (x : X) (ys : List X) → is_eq (compared x) ≡ false → entry_at compared (put cmp x ys) ≡ entry_at compared ys
found_put_other cmp compared x [] other = rw other refl
found_put_other {X} cmp compared x (y ∷ ys) other = elim (is_lt (cmp x y)) as (λ b. entry_at compared (cond b (x ∷ y ∷ ys) (y ∷ put cmp x ys)) ≡ entry_at compared (y ∷ ys)) [
  | true ↦ rw other refl
  | false ↦ ap (λ (o : Option X). cond (is_eq (compared y)) (Some y) o) (found_put_other cmp compared x ys other)
]

-- an inserted entry that fails a test doesn't change which entries pass it
pub filter_put : {X : Type 0} (cmp : X → X → Ordering) (p : X → Bool) (x : X) (ys : List X) → p x ≡ false → filter p (put cmp x ys) ≡ filter p ys
filter_put cmp p x [] fails = rw fails refl
filter_put {X} cmp p x (y ∷ ys) fails = elim (is_lt (cmp x y)) as (λ b. filter p (cond b (x ∷ y ∷ ys) (y ∷ put cmp x ys)) ≡ filter p (y ∷ ys)) [
  | true ↦ rw fails refl
  | false ↦ ap (λ (zs : List X). cond (p y) (y ∷ zs) zs) (filter_put cmp p x ys fails)
]

-- an entry that was found is still found after an entry with a new key is inserted
pub found_put_new : {X : Type 0} {cmp : X → X → Ordering} → IsTotalOrder cmp → (k x y : X) (ys : List X) → entry_at (cmp x) ys ≡ None → entry_at (cmp k) ys ≡ Some y
    → entry_at (cmp k) (put cmp x ys) ≡ Some y
found_put_new {X} {cmp} total k x y ys new found = go (cmp k x) refl
  where
    alike : ((z : X) → cmp k z ≡ cmp x z) → (zs : List X) → entry_at (cmp k) zs ≡ entry_at (cmp x) zs
    alike same [] = refl
    alike same (z ∷ zs) = rw (same z) (ap (λ (o : Option X). cond (is_eq (cmp x z)) (Some z) o) (alike same zs))

    go : (o : Ordering) → cmp k x ≡ o → entry_at (cmp k) (put cmp x ys) ≡ Some y
    go Less is = found_put_other cmp (cmp k) x ys (ap is_eq is) ∙ found
    go Equal is = absurd (let bad : Some y ≡ None = sym found ∙ alike (λ z. total.congr k x z is) ys ∙ new in cc bad)
    go Greater is = found_put_other cmp (cmp k) x ys (ap is_eq is) ∙ found

-- an entry that existed still exists
pub found_put_too : {X : Type 0} (cmp : X → X → Ordering) (compared : X → Ordering) (x : X) (ys : List X) → is_some (entry_at compared ys) ≡ true → is_some (entry_at compared (put cmp x ys)) ≡ true
found_put_too cmp compared x [] found = absurd (cc)
found_put_too {X} cmp compared x (y ∷ ys) found = elim (is_lt (cmp x y)) as (λ b. is_some (entry_at compared (cond b (x ∷ y ∷ ys) (y ∷ put cmp x ys))) ≡ true) [
  | true ↦ first (is_eq (compared x))
  | false ↦ here (is_eq (compared y)) refl (λ later. found_put_too cmp compared x ys later)
]
  where
    first : (b : Bool) → is_some (cond b (Some x) (entry_at compared (y ∷ ys))) ≡ true
    first true = refl
    first false = found

    here : (b : Bool) → is_eq (compared y) ≡ b → (is_some (entry_at compared ys) ≡ true → is_some (entry_at compared (put cmp x ys)) ≡ true)
        → is_some (cond b (Some y) (entry_at compared (put cmp x ys))) ≡ true
    here true is later = refl
    here false is later = later (rw is at found)

-- ---- removing an entry

pub kept_all : {X : Type 0} (p q : X → Bool) (xs : List X) → list_all p xs ≡ true → list_all p (filter q xs) ≡ true
kept_all p q [] all = refl
kept_all p q (x ∷ xs) all = elim (q x) as (λ b. list_all p (cond b (x ∷ filter q xs) (filter q xs)) ≡ true) [
  | true ↦ and_from _ _ (and_parts _ _ all).0 (kept_all p q xs (and_parts _ _ all).1)
  | false ↦ kept_all p q xs (and_parts _ _ all).1
]

-- if every entry passes a test, every remaining entry still does after one is removed
pub without_all : {X : Type 0} (compared : X → Ordering) (p : X → Bool) (xs : List X) → list_all p xs ≡ true → list_all p (without compared xs) ≡ true
without_all compared p xs all = kept_all p (λ x. not (is_eq (compared x))) xs all

-- removing an entry from a map results in a map
pub without_is_map : {X : Type 0} {test : X → Bool} {cmp : X → X → Ordering} (compared : X → Ordering) (xs : List X) → IsMap test cmp xs → IsMap test cmp (without compared xs)
without_is_map {X} {test} {cmp} compared xs is = record { in_range = without_all compared test xs is.in_range; rises = IsStrictlySortedBy-filter cmp (λ x. not (is_eq (compared x))) xs is.rises }

-- if the removed entry fails a test, the entries that pass it are unchanged
pub filter_without : {X : Type 0} (compared : X → Ordering) (p : X → Bool) (xs : List X) → ((x : X) → is_eq (compared x) ≡ true → p x ≡ false) → filter p (without compared xs) ≡ filter p xs
filter_without compared p [] fails = refl
filter_without {X} compared p (x ∷ xs) fails = go (is_eq (compared x)) refl (filter_without compared p xs fails)
  where
    go : (b : Bool) → is_eq (compared x) ≡ b → filter p (without compared xs) ≡ filter p xs → filter p (cond (not b) (x ∷ without compared xs) (without compared xs)) ≡ filter p (x ∷ xs)
    go true is later = rw (fails x is) later
    go false is later = ap (λ (ys : List X). cond (p x) (x ∷ ys) ys) later

-- ---- changing an entry

each_map : {X : Type 0} (P Q : X → Type 0) (f : X → X) (xs : List X) → ((x : X) → P x → Q (f x)) → AllByRecursion P xs → AllByRecursion Q (map f xs)
each_map P Q f [] h all = tt
each_map P Q f (x ∷ xs) h all = (h x all.0, each_map P Q f xs h all.1)

map_rises : {X : Type 0} {cmp : X → X → Ordering} (f : X → X) → ((x y : X) → cmp (f x) (f y) ≡ cmp x y) → (xs : List X) → IsStrictlySortedBy cmp xs → IsStrictlySortedBy cmp (map f xs)
unfolding IsStrictlySortedBy
map_rises f same [] up = tt
map_rises {X} {cmp} f same (x ∷ xs) up = (each_map (λ y. cmp x y ≡ Less) (λ y. cmp (f x) y ≡ Less) f xs (λ y below. same x y ∙ below) up.0, map_rises f same xs up.1)

-- a change that preserves every key and never makes a passing entry fail the test
pub record Keeps {X : Type 0} (test : X → Bool) (cmp : X → X → Ordering) (change : X → X) : Type 0 where
  pub passes : (x : X) → test x ≡ true → test (change x) ≡ true
  pub before : (x y : X) → cmp (change x) y ≡ cmp x y
  pub behind : (x y : X) → cmp x (change y) ≡ cmp x y

-- applying such a change to an entry of a map results in a map
pub changed_is_map : {X : Type 0} {test : X → Bool} {cmp : X → X → Ordering} (compared : X → Ordering) (change : X → X) → Keeps test cmp change → (xs : List X) → IsMap test cmp xs
    → IsMap test cmp (changed compared change xs)
changed_is_map {X} {test} {cmp} compared change keeps xs is = record { in_range = list_all-map test next xs ∙ passing xs is.in_range; rises = map_rises next same xs is.rises }
  where
    next : X → X
    next x = cond (is_eq (compared x)) (change x) x

    passing : (ys : List X) → list_all test ys ≡ true → list_all (λ y. test (next y)) ys ≡ true
    passing [] all = refl
    passing (y ∷ ys) all = and_from _ _ (go (is_eq (compared y))) (passing ys (and_parts _ _ all).1)
      where
        go : (b : Bool) → test (cond b (change y) y) ≡ true
        go true = keeps.passes y (and_parts _ _ all).0
        go false = (and_parts _ _ all).0

    same : (x y : X) → cmp (next x) (next y) ≡ cmp x y
    same x y = go (is_eq (compared x)) (is_eq (compared y))
      where
        go : (b c : Bool) → cmp (cond b (change x) x) (cond c (change y) y) ≡ cmp x y
        go true true = keeps.before x (change y) ∙ keeps.behind x y
        go true false = keeps.before x y
        go false true = keeps.behind x y
        go false false = refl

-- the entry found is the one found before, with the change applied if it is the changed entry
pub changed_at : {X : Type 0} (compared other : X → Ordering) (change : X → X) → ((x : X) → other (change x) ≡ other x) → (xs : List X)
    → entry_at other (changed compared change xs) ≡ option_map (λ x. cond (is_eq (compared x)) (change x) x) (entry_at other xs)
changed_at compared other change same [] = refl
changed_at {X} compared other change same (x ∷ xs) = go (is_eq (compared x)) refl (changed_at compared other change same xs)
  where
    next : X → X
    next y = cond (is_eq (compared y)) (change y) y

    found : (c : Bool) (y : X) → y ≡ next x → entry_at other (changed compared change xs) ≡ option_map next (entry_at other xs)
        → cond c (Some y) (entry_at other (changed compared change xs)) ≡ option_map next (cond c (Some x) (entry_at other xs))
    found true y is later = ap Some is
    found false y is later = later

    go : (b : Bool) → is_eq (compared x) ≡ b → entry_at other (changed compared change xs) ≡ option_map next (entry_at other xs)
        → entry_at other (cond b (change x) x ∷ changed compared change xs) ≡ option_map next (entry_at other (x ∷ xs))
    go true is later = rw (same x) (found (is_eq (other x)) (change x) (rw is refl) later)
    go false is later = found (is_eq (other x)) x (rw is refl) later

-- an entry is found if and only if one was found before
pub found_changed : {X : Type 0} (compared other : X → Ordering) (change : X → X) → ((x : X) → other (change x) ≡ other x) → (xs : List X)
    → is_some (entry_at other (changed compared change xs)) ≡ is_some (entry_at other xs)
found_changed {X} compared other change same xs = ap is_some (changed_at compared other change same xs) ∙ mapped (entry_at other xs)
  where
    mapped : (o : Option X) → is_some (option_map (λ x. cond (is_eq (compared x)) (change x) x) o) ≡ is_some o
    mapped None = refl
    mapped (Some x) = refl

-- ---- the entry that is found

-- the entry that is found has the key that was looked up
pub found_key : {X : Type 0} (compared : X → Ordering) (x : X) (ys : List X) → entry_at compared ys ≡ Some x → is_eq (compared x) ≡ true
found_key compared x [] found = absurd (cc)
found_key {X} compared x (y ∷ ys) found = go (is_eq (compared y)) refl (λ later. found_key compared x ys later)
  where
    go : (b : Bool) → is_eq (compared y) ≡ b → (entry_at compared ys ≡ Some x → is_eq (compared x) ≡ true) → is_eq (compared x) ≡ true
    go true is later = let first : Some y ≡ Some x = rw is at found in let same : y ≡ x = cc in ap (λ (z : X). is_eq (compared z)) (sym same) ∙ is
    go false is later = later (rw is at found)

-- if all entries have a property, so does the entry that is found
pub found_passes : {X : Type 0} (compared : X → Ordering) (p : X → Bool) (x : X) (ys : List X) → list_all p ys ≡ true → entry_at compared ys ≡ Some x → p x ≡ true
found_passes compared p x [] all found = absurd (cc)
found_passes {X} compared p x (y ∷ ys) all found = go (is_eq (compared y)) refl (λ later. found_passes compared p x ys (and_parts _ _ all).1 later)
  where
    go : (b : Bool) → is_eq (compared y) ≡ b → (entry_at compared ys ≡ Some x → p x ≡ true) → p x ≡ true
    go true is later = let first : Some y ≡ Some x = rw is at found in let same : y ≡ x = cc in ap p (sym same) ∙ (and_parts _ _ all).0
    go false is later = later (rw is at found)

-- All entries have a property if the entry that is found has it and every other entry does, since no two
-- entries have the same key.
pub all_but_one : {X : Type 0} (cmp : X → X → Ordering) (p q : X → Bool) (e : X) (xs : List X) → IsStrictlySortedBy cmp xs → entry_at (cmp e) xs ≡ Some e → q e ≡ true
    → ((x : X) → is_eq (cmp e x) ≡ false → p x ≡ true → q x ≡ true) → list_all p xs ≡ true → list_all q xs ≡ true
unfolding IsStrictlySortedBy
all_but_one cmp p q e [] up found good others all = refl
all_but_one {X} cmp p q e (y ∷ ys) up found good others all = go (is_eq (cmp e y)) refl (λ later. all_but_one cmp p q e ys up.1 later good others (and_parts _ _ all).1)
  where
    above : (zs : List X) → AllByRecursion (λ z. cmp e z ≡ Less) zs → list_all p zs ≡ true → list_all q zs ≡ true
    above [] less each = refl
    above (z ∷ zs) less each = and_from _ _ (others z (ap is_eq less.0) (and_parts _ _ each).0) (above zs less.1 (and_parts _ _ each).1)

    go : (b : Bool) → is_eq (cmp e y) ≡ b → (entry_at (cmp e) ys ≡ Some e → list_all q ys ≡ true) → list_all q (y ∷ ys) ≡ true
    go true is later =
        let first : Some y ≡ Some e = rw is at found in
        let same : y ≡ e = cc in
        and_from _ _ (ap q same ∙ good) (above ys (each_weaker (λ z. cmp y z ≡ Less) (λ z. cmp e z ≡ Less) ys (λ z less. ap (λ (x : X). cmp x z) (sym same) ∙ less) up.0) (and_parts _ _ all).1)
    go false is later = and_from _ _ (others y is (and_parts _ _ all).0) (later (rw is at found))

-- ---- entries with numbers

-- two numbers are equal if they compare as equal
pub same_number : (m n : ℕ) → is_eq (nat_cmp m n) ≡ true → m ≡ n
same_number m n is = eqb-true m n (sym (unsigned_tied m n) ∙ is)

pub other_number : (m n : ℕ) → is_eq (nat_cmp m n) ≡ false → (m == n) ≡ false
other_number m n is = sym (unsigned_tied m n) ∙ is

-- two orders in sequence compare as equal only if both do
pub both_equal : (a b : Ordering) → is_eq (ordering_then a b) ≡ true → (is_eq a ≡ true) × (is_eq b ≡ true)
both_equal Less b is = absurd (cc)
both_equal Equal b is = (refl, is)
both_equal Greater b is = absurd (cc)

module _ {X : Type 0} (number : X → ℕ) (xs : List X) where
  -- the entry that is found for a number has that number
  pub found_number : (n : ℕ) (e : X) → entry_at (λ x. nat_cmp n (number x)) xs ≡ Some e → n ≡ number e
  found_number n e found = same_number n (number e) (found_key (λ x. nat_cmp n (number x)) e xs found)

  -- every entry has a property if the entry with the given number has it and every entry with another number
  -- does
  pub all_but_number : (n : ℕ) (e : X) (p q : X → Bool) → IsStrictlySortedBy (on number nat_cmp) xs → entry_at (λ x. nat_cmp n (number x)) xs ≡ Some e → (n ≡ number e → q e ≡ true)
      → ((x : X) → (n == number x) ≡ false → p x ≡ true → q x ≡ true) → list_all p xs ≡ true → list_all q xs ≡ true
  all_but_number n e p q up found good others all =
      let same = found_number n e found in
      let own : entry_at (on number nat_cmp e) xs ≡ Some e = ap (λ (m : ℕ). entry_at (λ x. nat_cmp m (number x)) xs) (sym same) ∙ found in
      all_but_one (on number nat_cmp) p q e xs up own (good same) (λ x other. others x (ap (λ m. m == number x) same ∙ other_number (number e) (number x) other)) all

  -- what was found is still found after an entry with a new number is inserted
  pub found_put_still : (new : X) (n : ℕ) (e : X) → entry_at (λ x. nat_cmp (number new) (number x)) xs ≡ None → entry_at (λ x. nat_cmp n (number x)) xs ≡ Some e
      → entry_at (λ x. nat_cmp n (number x)) (put (on number nat_cmp) new xs) ≡ Some e
  found_put_still new n e none found = go (is_eq (nat_cmp n (number new))) refl
    where
      go : (b : Bool) → is_eq (nat_cmp n (number new)) ≡ b → entry_at (λ x. nat_cmp n (number x)) (put (on number nat_cmp) new xs) ≡ Some e
      go true is =
          let both : Some e ≡ None = sym found ∙ ap (λ (m : ℕ). entry_at (λ x. nat_cmp m (number x)) xs) (same_number n (number new) is) ∙ none in
          absurd (cc)
      go false other = found_put_other (on number nat_cmp) (λ x. nat_cmp n (number x)) new xs other ∙ found

-- ---- several entries

-- if every entry passes a test, and the inserted entries do too, every entry still passes
pub put_each_all : {X : Type 0} (cmp : X → X → Ordering) (p : X → Bool) (xs ys : List X) → list_all p xs ≡ true → list_all p ys ≡ true → list_all p (put_each cmp xs ys) ≡ true
put_each_all cmp p [] ys good all = all
put_each_all cmp p (x ∷ xs) ys good all = put_each_all cmp p xs (put cmp x ys) (and_parts _ _ good).1 (put_all cmp p x ys (and_parts _ _ good).0 all)

-- inserted entries that fail a test don't change which entries pass it
pub filter_put_each : {X : Type 0} (cmp : X → X → Ordering) (p : X → Bool) (xs ys : List X) → list_all (λ x. not (p x)) xs ≡ true → filter p (put_each cmp xs ys) ≡ filter p ys
filter_put_each cmp p [] ys fail = refl
filter_put_each cmp p (x ∷ xs) ys fail = filter_put_each cmp p xs (put cmp x ys) (and_parts _ _ fail).1 ∙ filter_put cmp p x ys (not-true (p x) (and_parts _ _ fail).0)

-- ---- inserting an entry after all others that pass a test

each_kept : {X : Type 0} (P : X → Type 0) (p : X → Bool) (xs : List X) → AllByRecursion P xs → AllByRecursion P (filter p xs)
each_kept P p [] all = tt
each_kept {X} P p (x ∷ xs) all = elim (p x) as (λ b. AllByRecursion P (cond b (x ∷ filter p xs) (filter p xs))) [ true ↦ (all.0, each_kept P p xs all.1) | false ↦ each_kept P p xs all.1 ]

put_first : {X : Type 0} (cmp : X → X → Ordering) (x : X) (ys : List X) → AllByRecursion (λ y. cmp x y ≡ Less) ys → put cmp x ys ≡ x ∷ ys
put_first cmp x [] above = refl
put_first cmp x (y ∷ ys) above = rw above.0 refl

is_less : (o : Ordering) → is_lt o ≡ true → o ≡ Less
is_less Less is = refl
is_less Equal is = absurd (cc)
is_less Greater is = absurd (cc)

-- inserting an entry that passes a test before filtering by that test is the same as inserting it after
-- filtering
pub filter_put_in : {X : Type 0} {cmp : X → X → Ordering} → IsTotalOrder cmp → (p : X → Bool) (x : X) (ys : List X) → p x ≡ true → IsStrictlySortedBy cmp ys
    → filter p (put cmp x ys) ≡ put cmp x (filter p ys)
unfolding IsStrictlySortedBy
filter_put_in total p x [] passes up = rw passes refl
filter_put_in {X} {cmp} total p x (y ∷ ys) passes up = go (is_lt (cmp x y)) refl (filter_put_in total p x ys passes up.1)
  where
    behind : (c : Bool) → is_lt (cmp x y) ≡ false → filter p (put cmp x ys) ≡ put cmp x (filter p ys)
        → cond c (y ∷ filter p (put cmp x ys)) (filter p (put cmp x ys)) ≡ put cmp x (cond c (y ∷ filter p ys) (filter p ys))
    behind true is later = rw is (ap (λ (zs : List X). y ∷ zs) later)
    behind false is later = later

    go : (b : Bool) → is_lt (cmp x y) ≡ b → filter p (put cmp x ys) ≡ put cmp x (filter p ys) → filter p (cond b (x ∷ y ∷ ys) (y ∷ put cmp x ys)) ≡ put cmp x (filter p (y ∷ ys))
    go true is later =
        let less = is_less (cmp x y) is in
        let above : AllByRecursion (λ z. cmp x z ≡ Less) (y ∷ ys) = (less, each_weaker (λ z. cmp y z ≡ Less) (λ z. cmp x z ≡ Less) ys (λ z h. total.trans x y z less h) up.0) in
        rw passes (sym (put_first cmp x (filter p (y ∷ ys)) (each_kept (λ z. cmp x z ≡ Less) p (y ∷ ys) above)))
    go false is later = behind (p y) is later

-- an entry that sorts after all others is inserted at the end
pub put_last : {X : Type 0} (cmp : X → X → Ordering) (x : X) (ys : List X) → AllByRecursion (λ y. is_lt (cmp x y) ≡ false) ys → put cmp x ys ≡ ys ++ (x ∷ [])
put_last cmp x [] behind = refl
put_last {X} cmp x (y ∷ ys) behind = rw behind.0 (ap (λ (zs : List X). y ∷ zs) (put_last cmp x ys behind.1))

-- an entry that passes the test is still found after filtering by it
pub found_filter : {X : Type 0} (compared : X → Ordering) (p : X → Bool) (ys : List X) → ((y : X) → is_eq (compared y) ≡ true → p y ≡ true) → entry_at compared (filter p ys) ≡ entry_at compared ys
found_filter compared p [] passes = refl
found_filter {X} compared p (y ∷ ys) passes = go (p y) refl (is_eq (compared y)) refl (found_filter compared p ys passes)
  where
    go : (b : Bool) → p y ≡ b → (c : Bool) → is_eq (compared y) ≡ c → entry_at compared (filter p ys) ≡ entry_at compared ys
        → entry_at compared (cond b (y ∷ filter p ys) (filter p ys)) ≡ cond c (Some y) (entry_at compared ys)
    go true is c eq later = rw eq (ap (λ (o : Option X). cond c (Some y) o) later)
    go false is true eq later = absurd (both_ways (p y) is (passes y eq))
    go false is false eq later = later

-- if no entry has the key, no entry is found
pub found_none : {X : Type 0} (compared : X → Ordering) (ys : List X) → AllByRecursion (λ y. is_eq (compared y) ≡ false) ys → entry_at compared ys ≡ None
found_none compared [] others = refl
found_none compared (y ∷ ys) others = rw others.0 (found_none compared ys others.1)
