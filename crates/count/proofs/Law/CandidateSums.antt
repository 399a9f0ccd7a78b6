-- Sums over distinct candidates.
use Rattle.std.proofs.Common.{◌≡◌, ℕ, ◌+◌, ◌*◌, ◌≤◌, ◌||◌, Bool, true, false, cond, eqb, nat_eq, List, [], ◌∷◌, length, refl, sym, ap, ◌∙◌, arith, subst}
use Rattle.std.specs.List.{sum_by, list_any, filter, IsDistinct, AllByRecursion}
use Rattle.std.proofs.lemmas.List.Sums.{sum_by-cons, sum_by-le-sum_by}
use Rattle.std.proofs.lemmas.List.Kept.{AllPairs-from_increasing}
use Rattle.std.proofs.lemmas.Map.Keys.{IsDistinct-from_apart, IsDistinct-head, IsDistinct-tail}
use Rattle.std.proofs.lemmas.Bool.{eqb-true, ne_eqb, eq-eqb}
use Rattle.paper.specs.Columns.{IsCandidateSet}
use Rattle.count.specs.Law.Contest.{Contest, History}
use Rattle.count.specs.Law.Places.{place}
use Rattle.count.specs.Law.Figures.{value_with}
use Rattle.count.proofs.SumLemmas.{sum_by-same, sum_by-add, sum_by-none}
use Rattle.count.proofs.Law.ValueLemmas.{all_values, held}
use Rattle.count.proofs.ChoiceLemmas.{within_value}

-- the members of a set of columns are distinct
pub columns-distinct : (cs : List ℕ) → IsCandidateSet cs → IsDistinct eqb cs
columns-distinct cs set = IsDistinct-from_apart eqb cs (λ i j d up within.
    ne_eqb _ _ (λ same. let less = AllPairs-from_increasing cs set.ascending i j d up within in omega (arith, less, same)))

at_none : (d v : ℕ) (cs : List ℕ) → AllByRecursion (λ c. eqb d c ≡ false) cs → sum_by (λ c. cond (eqb d c) v 0) cs ≡ 0
at_none d v [] h = refl
at_none d v (c ∷ cs) h = omega (arith, sum_by-cons (λ x. cond (eqb d x) v 0) c cs, ap (λ b. cond b v 0) h.0, at_none d v cs h.1)

at_choice : (d c v n : ℕ) (cs : List ℕ) (b t : Bool) → eqb d c ≡ b → (d ≡ c → n ≡ 0) → n ≡ cond t v 0 → cond b v 0 + n ≡ cond (b || t) v 0
at_choice d c v n cs true t same none rest = omega (arith, none (eqb-true d c same))
at_choice d c v n cs false t same none rest = omega (arith, rest)

-- among distinct numbers, a given one is counted once, or not at all
pub sum-one : (d v : ℕ) (cs : List ℕ) → IsDistinct eqb cs → sum_by (λ c. cond (eqb d c) v 0) cs ≡ cond (list_any (nat_eq d) cs) v 0
sum-one d v [] h = refl
sum-one d v (c ∷ cs) h =
    sum_by-cons (λ x. cond (eqb d x) v 0) c cs
    ∙ at_choice d c v _ cs (eqb d c) (list_any (nat_eq d) cs) refl
    (λ same. at_none d v cs (subst (λ k. AllByRecursion (λ y. eqb k y ≡ false) cs) (sym same) (IsDistinct-head eqb c cs h)))
    (sum-one d v cs (IsDistinct-tail eqb c cs h))

-- a double sum in the other order
pub sum-swap : {X : Type 0} (f : ℕ → X → ℕ) (cs : List ℕ) (xs : List X) → sum_by (λ c. sum_by (f c) xs) cs ≡ sum_by (λ x. sum_by (λ c. f c x) cs) xs
sum-swap f [] xs = sym (sum_by-none (λ x. 0) xs (λ x. refl))
sum-swap f (c ∷ cs) xs =
    sum_by-cons (λ d. sum_by (f d) xs) c cs
    ∙ ap (λ n. sum_by (f c) xs + n) (sum-swap f cs xs)
    ∙ sym (sum_by-add (f c) (λ x. sum_by (λ d. f d x) cs) xs)
    ∙ sum_by-same _ _ xs (λ x. sym (sum_by-cons (λ d. f d x) c cs))

-- what distinct numbers hold is at most the total value of all papers
pub held-within : (contest : Contest) (stages : History) (cs : List ℕ) → IsDistinct eqb cs → sum_by (held contest stages) cs ≤ all_values contest stages
held-within contest stages cs differ =
    let swapped = sum-swap (λ c p. value_with c (place contest stages p)) cs contest.papers in
    let each = sum_by-le-sum_by (λ p. sum_by (λ c. value_with c (place contest stages p)) cs) (λ p. (place contest stages p).value) contest.papers
    (λ p. let at = place contest stages p in let one = sum-one at.holder at.value cs differ in omega (arith, one, within_value (list_any (nat_eq at.holder) cs) at.value)) in
    omega (arith, swapped, each)

-- what one number holds is at most the total value of all papers
pub one-within : (contest : Contest) (stages : History) (c : ℕ) → held contest stages c ≤ all_values contest stages
one-within contest stages c =
    sum_by-le-sum_by (λ p. value_with c (place contest stages p)) (λ p. (place contest stages p).value) contest.papers
    (λ p. let at = place contest stages p in within_value (eqb at.holder c) at.value)

-- if a function is at most another on each member, so is its sum
pub sum-le : (f g : ℕ → ℕ) (xs : List ℕ) → ((c : ℕ) → list_any (nat_eq c) xs ≡ true → f c ≤ g c) → sum_by f xs ≤ sum_by g xs
sum-le f g [] h = omega arith
sum-le f g (x ∷ xs) h =
    omega (arith, sum_by-cons f x xs, sum_by-cons g x xs, h x (ap (λ b. b || list_any (nat_eq x) xs) (eq-eqb x x refl)), sum-le f g xs (λ c k. h c (later (nat_eq c x) (list_any (nat_eq c) xs) k)))
  where
    later : (a b : Bool) → b ≡ true → (a || b) ≡ true
    later true b k = refl
    later false b k = k

filter_choice : (b : Bool) (x n : ℕ) (l : List ℕ) → length (cond b (x ∷ l) l) * n ≡ cond b n 0 + length l * n
filter_choice true x n l = omega (arith, mul_more (length l) n)
  where
    mul_more : (k m : ℕ) → length (x ∷ l) * m ≡ m + length l * m
    mul_more k m = grind arith
filter_choice false x n l = omega arith

-- a number times the number of members that pass a test
pub sum-filter : (p : ℕ → Bool) (n : ℕ) (xs : List ℕ) → length (filter p xs) * n ≡ sum_by (λ c. cond (p c) n 0) xs
sum-filter p n [] = omega arith
sum-filter p n (x ∷ xs) =
    filter_choice (p x) x n (filter p xs) ∙ ap (λ k. cond (p x) n 0 + k) (sum-filter p n xs) ∙ sym (sum_by-cons (λ c. cond (p c) n 0) x xs)
