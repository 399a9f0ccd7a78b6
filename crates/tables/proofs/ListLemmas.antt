-- Elements of mapped, permuted and filtered lists.
use Rattle.std.proofs.Common.{◌≡◌, inl, inr, ℕ, zero, suc, ◌+◌, ◌<◌, List, [], ◌∷◌, ◌++◌, map, filter, length, get_or, slice_get, Some, Bool, true, false, cond, refl, sym, ap, ◌∙◌, arith, Ordering}
use Rattle.std.specs.List.{AllByRecursion, list_all}
use Rattle.std.proofs.lemmas.Bool.{and_from}
use Rattle.std.specs.Ordering.{is_lt}
use Rattle.std.specs.List.Sorted.{IsPermutation, IsSorted}
use Rattle.std.proofs.lemmas.List.Sorted.{IsPermutation-sym}
use Rattle.sqlite_trees.proofs.ListLemmas.{along_permutation}
use Rattle.sqlite_rules.specs.Lists.{Has}
use Rattle.sqlite_rules.proofs.ListLemmas.{test_has, test_from}

pub mapped_has : {X Y : Type 0} (f : X → Y) (xs : List X) (x : X) → Has xs x → Has (map f xs) (f x)
mapped_has f [] x h = absurd h
mapped_has f (z ∷ xs) x (inl same) = inl (ap f same)
mapped_has f (z ∷ xs) x (inr later) = inr (mapped_has f xs x later)

pub has_mapped : {X Y : Type 0} (f : X → Y) (xs : List X) (y : Y) → Has (map f xs) y → (x : X) × Has xs x × (y ≡ f x)
has_mapped f [] y h = absurd h
has_mapped f (z ∷ xs) y (inl same) = (z, inl refl, same)
has_mapped f (z ∷ xs) y (inr later) = let it = has_mapped f xs y later in (it.0, inr it.1, it.2)

pub mapped_same : {A X : Type 0} (f g : A → X) (xs : List A) → ((x : A) → Has xs x → f x ≡ g x) → map f xs ≡ map g xs
mapped_same f g [] each = refl
mapped_same f g (x ∷ xs) each = ap (λ y. y ∷ map f xs) (each x (inl refl)) ∙ ap (λ l. g x ∷ l) (mapped_same f g xs (λ y h. each y (inr h)))

pub mapped_twice : {A B X : Type 0} (f : A → B) (g : B → X) (xs : List A) → map g (map f xs) ≡ map (λ x. g (f x)) xs
mapped_twice f g [] = refl
mapped_twice f g (x ∷ xs) = ap (λ l. g (f x) ∷ l) (mapped_twice f g xs)

pub mapped_itself : {A : Type 0} (xs : List A) → map (λ x. x) xs ≡ xs
mapped_itself [] = refl
mapped_itself (x ∷ xs) = ap (λ l. x ∷ l) (mapped_itself xs)

pub mapped_length : {A X : Type 0} (f : A → X) (xs : List A) → length (map f xs) ≡ length xs
mapped_length f [] = refl
mapped_length f (x ∷ xs) = ap suc (mapped_length f xs)

pub all_pass : {X : Type 0} (xs : List X) → filter (λ _. true) xs ≡ xs
all_pass [] = refl
all_pass (x ∷ xs) = ap (λ l. x ∷ l) (all_pass xs)

pub filtered_has : {X : Type 0} (p : X → Bool) (xs : List X) (x : X) → Has xs x → p x ≡ true → Has (filter p xs) x
filtered_has p [] x h is = absurd h
filtered_has p (z ∷ xs) x (inl same) is = rw (ap p (sym same) ∙ is) (inl same)
filtered_has p (z ∷ xs) x (inr later) is = go (p z) (filtered_has p xs x later is)
  where
    go : (b : Bool) → Has (filter p xs) x → Has (cond b (z ∷ filter p xs) (filter p xs)) x
    go true h = inr h
    go false h = h

pub filtered_same : {X : Type 0} (p q : X → Bool) (xs : List X) → ((x : X) → Has xs x → p x ≡ q x) → filter p xs ≡ filter q xs
filtered_same p q [] each = refl
filtered_same p q (x ∷ xs) each = ap (λ b. cond b (x ∷ filter p xs) (filter p xs)) (each x (inl refl)) ∙ ap (λ l. cond (q x) (x ∷ l) l) (filtered_same p q xs (λ y h. each y (inr h)))

pub all_mapped : {A X : Type 0} (p : X → Bool) (f : A → X) → ((a : A) → p (f a) ≡ true) → (xs : List A) → list_all p (map f xs) ≡ true
all_mapped p f each [] = refl
all_mapped p f each (x ∷ xs) = and_from _ _ (each x) (all_mapped p f each xs)

pub all_from : {X : Type 0} (P : X → Type 0) (xs : List X) → ((x : X) → Has xs x → P x) → AllByRecursion P xs
all_from P [] each = tt
all_from P (x ∷ xs) each = (each x (inl refl), all_from P xs (λ y h. each y (inr h)))

pub has_at : {X : Type 0} (xs : List X) (k : ℕ) (d : X) → k < length xs → Has xs (get_or xs k d)
has_at [] k d h = absurd (omega (arith, h))
has_at (x ∷ xs) zero d h = inl refl
has_at (x ∷ xs) (suc k) d h = inr (has_at xs k d (omega (arith, h)))

pub front_has : {X : Type 0} (xs ys : List X) (x : X) → Has xs x → Has (xs ++ ys) x
front_has [] ys x h = absurd h
front_has (z ∷ xs) ys x (inl same) = inl same
front_has (z ∷ xs) ys x (inr later) = inr (front_has xs ys x later)

pub last_has : {X : Type 0} (xs : List X) (x : X) → Has (xs ++ x ∷ []) x
last_has [] x = inl refl
last_has (z ∷ xs) x = inr (last_has xs x)

pub get_any : {X : Type 0} (xs : List X) (k : ℕ) (d e : X) → k < length xs → get_or xs k d ≡ get_or xs k e
get_any [] k d e h = absurd (omega (arith, h))
get_any (x ∷ xs) zero d e h = refl
get_any (x ∷ xs) (suc k) d e h = get_any xs k d e (omega (arith, h))

pub has_place : {X : Type 0} (xs : List X) (k : ℕ) (x : X) → slice_get xs k ≡ Some x → Has xs x
has_place [] k x at = absurd cc
has_place (y ∷ ys) zero x at = inl cc
has_place (y ∷ ys) (suc k) x at = inr (has_place ys k x at)

pub get_mapped : {A X : Type 0} (f : A → X) (xs : List A) (k : ℕ) (d : X) (a : A) → k < length xs → get_or (map f xs) k d ≡ f (get_or xs k a)
get_mapped f [] k d a h = absurd (omega (arith, h))
get_mapped f (x ∷ xs) zero d a h = refl
get_mapped f (x ∷ xs) (suc k) d a h = get_mapped f xs k d a (omega (arith, h))

-- elements sorted by one image are also sorted by any other whose comparisons have the same results
pub sorted_mapped : {A B X : Type 0} (f : A → B) (g : A → X) (first : B → B → Ordering) (second : X → X → Ordering) → ((a b : A) → first (f a) (f b) ≡ second (g a) (g b))
    → (xs : List A) → IsSorted first (map f xs) → IsSorted second (map g xs)
sorted_mapped f g first second alike [] sorted k d low below = absurd (omega (arith, below))
sorted_mapped f g first second alike (x ∷ xs) sorted k d low below =
    let all = x ∷ xs in
    let near : k + 1 < length all = omega (arith, below, mapped_length g all) in
    let here : k < length all = omega (arith, near) in
    rw (get_mapped g all (k + 1) d x near, get_mapped g all k d x here)
    (ap is_lt (sym (alike (get_or all (k + 1) x) (get_or all k x)))
    ∙ rw (get_mapped f all (k + 1) (f x) x near, get_mapped f all k (f x) x here) at (sorted k (f x) low (omega (arith, near, mapped_length f all))))

pub permuted_has : {X : Type 0} (x : X) (xs ys : List X) → IsPermutation xs ys → Has xs x → Has ys x
permuted_has x = along_permutation (λ xs ys. Has xs x → Has ys x) (λ xs h. h)
    (λ y xs ys f h. elim h [ inl same ↦ inl same | inr later ↦ inr (f later) ])
    (λ y z xs h. elim h [ inl first ↦ inr (inl first) | inr more ↦ elim more [ inl second ↦ inl second | inr later ↦ inr (inr later) ] ])
    (λ xs ys zs f g h. g (f h))

-- if all elements of a list pass a test, so do all elements of a permutation of it
pub permuted_all : {X : Type 0} (p : X → Bool) (xs ys : List X) → IsPermutation xs ys → list_all p xs ≡ true → list_all p ys ≡ true
permuted_all p xs ys same all = test_from p ys (λ y h. test_has p xs y all (permuted_has y ys xs (IsPermutation-sym xs ys same) h))
