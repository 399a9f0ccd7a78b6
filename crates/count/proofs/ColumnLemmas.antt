-- Sets of numbers, and lists read from either end.
use Rattle.std.proofs.Common.{◌≡◌, ℕ, ◌+◌, ◌<◌, Bool, true, false, cond, nat_eq, List, [], ◌∷◌, ◌++◌, length, take, reverse, refl, sym, ap, ◌∙◌, arith, subst, slice_index}
use Rattle.std.proofs.lemmas.List.{append-nil, reverse-append}
use Rattle.std.specs.List.{list_any, filter}
use Rattle.std.proofs.lemmas.Bool.{eq-eqb}
use Rattle.std.proofs.lemmas.List.Sorted.{list_any-IsPermutation, IsPermutation-reverse}
use Rattle.std.proofs.lemmas.List.Folds.{list_any_at}
use Rattle.std.proofs.lemmas.List.Kept.{IsStrictlyIncreasing-filter}
use Rattle.paper.specs.Columns.{IsCandidateSet, IsColumn}
use Rattle.std.proofs.lemmas.List.{get_or-take, length-take}
use Rattle.std.proofs.lemmas.List.Elements.{filter_more}
use Rattle.count.specs.Inside.Holdings.{OnlyColumns}
use Rattle.count.proofs.Law.ActionLemmas.{in-filter, column-in}

-- whether any element passes a test doesn't depend on the direction of iteration
pub any-reverse : {X : Type 0} (p : X → Bool) (xs : List X) → list_any p (reverse xs) ≡ list_any p xs
any-reverse p xs = sym (list_any-IsPermutation p xs (reverse xs) (IsPermutation-reverse xs))

-- the members of a set of columns that pass a test are a set of columns
pub columns-filter : (p : ℕ → Bool) (xs : List ℕ) → IsCandidateSet xs → IsCandidateSet (filter p xs)
columns-filter p xs set = record {
  ascending = IsStrictlyIncreasing-filter p xs set.ascending;
  within = λ k at. column-in (slice_index (filter p xs) k) xs set
      (in-filter (slice_index (filter p xs) k) p xs (list_any_at (nat_eq (slice_index (filter p xs) k)) (filter p xs) k 0 at (eq-eqb _ _ refl))).1;
}

-- and so are its first members
pub columns-take : (n : ℕ) (xs : List ℕ) → IsCandidateSet xs → IsCandidateSet (take n xs)
columns-take n xs set = record {
  ascending = λ k at.
      let size = length-take n xs in
      let here : slice_index (take n xs) k ≡ slice_index xs k = get_or-take n xs k 0 (omega (arith, size, at)) in
      let next : slice_index (take n xs) (k + 1) ≡ slice_index xs (k + 1) = get_or-take n xs (k + 1) 0 (omega (arith, size, at)) in
      omega (arith, here, next, set.ascending k (omega (arith, size, at)));
  within = λ k at.
      let size = length-take n xs in
      let here : slice_index (take n xs) k ≡ slice_index xs k = get_or-take n xs k 0 (omega (arith, size, at)) in
      subst IsColumn (sym here) (set.within k (omega (arith, size, at)));
}

-- another member that passes the test
pub columns-more : (p : ℕ → Bool) (xs chosen : List ℕ) (i : ℕ) → IsCandidateSet xs → chosen ≡ filter p (take i xs) → i < length xs → p (slice_index xs i) ≡ true →
    IsCandidateSet (chosen ++ slice_index xs i ∷ [])
columns-more p xs chosen i set is within passes =
    let more : filter p (take (i + 1) xs) ≡ filter p (take i xs) ++ slice_index xs i ∷ [] =
    filter_more p xs i 0 within ∙ ap (λ b. filter p (take i xs) ++ cond b (slice_index xs i ∷ []) []) passes in
    subst IsCandidateSet (more ∙ ap (λ l. l ++ slice_index xs i ∷ []) (sym is)) (columns-filter p (take (i + 1) xs) (columns-take (i + 1) xs set))

-- the first members of a set that pass a test, and another that does, or doesn't
pub chosen-yes : (p : ℕ → Bool) (xs chosen more : List ℕ) (i : ℕ) → IsCandidateSet xs → i < length xs → p (slice_index xs i) ≡ true → chosen ≡ filter p (take i xs) →
    (IsCandidateSet (chosen ++ slice_index xs i ∷ []) → more ≡ chosen ++ slice_index xs i ∷ []) → more ≡ filter p (take (i + 1) xs)
chosen-yes p xs chosen more i set within passes so_far last =
    last (columns-more p xs chosen i set so_far within passes) ∙ ap (λ (l : List ℕ). l ++ slice_index xs i ∷ []) so_far
    ∙ sym (filter_more p xs i 0 within ∙ ap (λ b. filter p (take i xs) ++ cond b (slice_index xs i ∷ []) []) passes)

pub chosen-no : (p : ℕ → Bool) (xs chosen : List ℕ) (i : ℕ) → i < length xs → p (slice_index xs i) ≡ false → chosen ≡ filter p (take i xs) → chosen ≡ filter p (take (i + 1) xs)
chosen-no p xs chosen i within fails so_far =
    so_far ∙ sym (filter_more p xs i 0 within ∙ ap (λ b. filter p (take i xs) ++ cond b (slice_index xs i ∷ []) []) fails ∙ append-nil (filter p (take i xs)))

-- a list with another element at the end, reversed
pub reverse-newest : {X : Type 0} (xs before : List X) (newest : X) → xs ≡ before ++ newest ∷ [] → reverse xs ≡ newest ∷ reverse before
reverse-newest xs before newest is = ap reverse is ∙ reverse-append before (newest ∷ [])

-- a member of a set of columns is a column
pub only-columns : (columns : List ℕ) (continues : ℕ → Bool) → IsCandidateSet columns → ((c : ℕ) → continues c ≡ list_any (nat_eq c) columns) → OnlyColumns continues
only-columns columns continues set is c h = column-in c columns set (sym (is c) ∙ h)

pub ruleset only_columns = only-columns
