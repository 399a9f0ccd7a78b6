-- Rows grouped by owner. If every row has an owner, a condition on every row and its owner can be checked owner by
-- owner, on each owner's rows.
use Rattle.std.proofs.Common.{◌≡◌, ℕ, ◌-◌, ◌<◌, ◌==◌, Bool, true, false, not, ◌&&◌, ◌||◌, cond, List, [], ◌∷◌, filter, Option, Some, None, is_some, zero, suc, refl, sym, arith, inl, inr}
use Rattle.std.specs.List.{AllByRecursion, list_all}
use Rattle.std.specs.List.Sorted.{IsStrictlySortedBy}
use Rattle.std.specs.declared.cmp.Ordering.TheVariants.{Less}
use Rattle.std.specs.Ordering.{nat_cmp, on}
use Rattle.std.specs.Cmp.{unsigned_tied}
use Rattle.std.proofs.lemmas.Bool.Decides.{eqb_tells}
use Rattle.register.specs.Offices.{BatchEntry, KeyedEntry, OfficeState, batch_cmp, entry_at, batch_at}
use Rattle.register.specs.BatchConditions.{is_keyed_for, is_round_of, are_rounds_to}
use Rattle.register.specs.StateConditions.{all_keyed}
use Rattle.register.proofs.KeyedLemmas.{rounds_more, no_rounds}
use Rattle.rowcheck.specs.Walks.Keyings.{are_keyed_for, is_rightly_keyed}
use Rattle.rowcheck.proofs.SideBySideLemmas.{below_from, less_differs}

-- ---- rows and owners

all_true : {X : Type 0} (xs : List X) → list_all (λ x. true) xs ≡ true
all_true [] = refl
all_true (x ∷ xs) = all_true xs

-- applying two tests to every element
pub all_both : {X : Type 0} (p q : X → Bool) (xs : List X) → list_all (λ x. p x && q x) xs ≡ (list_all p xs && list_all q xs)
all_both p q [] = refl
all_both {X} p q (x ∷ xs) = rw (all_both p q xs) (go (p x) (q x))
  where
    go : (a b : Bool) → ((a && b) && (list_all p xs && list_all q xs)) ≡ ((a && list_all p xs) && (b && list_all q xs))
    go true true = refl
    go true false = none (list_all p xs)
      where
        none : (c : Bool) → false ≡ (c && false)
        none true = refl
        none false = refl
    go false b = refl

module _ {W X : Type 0} (own : W → ℕ) (key : X → ℕ) (test : X → Option W → Bool) (unowned : (x : X) → test x None ≡ false) where
  -- an owner and a row pass the test together, or the row belongs to another owner
  abbrev passes_with : X → W → Bool
  passes_with x w = not (key x == own w) || test x (Some w)

  others_pass : (x : X) (w : W) → key x ≡ own w → (ws : List W) → AllByRecursion (λ v. nat_cmp (own w) (own v) ≡ Less) ws → list_all (passes_with x) ws ≡ true
  others_pass x w same [] above = refl
  others_pass x w same (v ∷ ws) above =
      let higher = below_from (own w) (own v) above.0 in
      rw (less_differs (key x) (own v) (omega (arith, same, higher))) (others_pass x w same ws above.1)

  -- a row and its owner pass the test together if and only if the owner exists and every owner passes together with the
  -- row
  row_passes : (x : X) (ws : List W) → IsStrictlySortedBy (on own nat_cmp) ws
      → test x (entry_at (λ w. nat_cmp (key x) (own w)) ws) ≡ (is_some (entry_at (λ w. nat_cmp (key x) (own w)) ws) && list_all (passes_with x) ws)
  unfolding IsStrictlySortedBy
  row_passes x [] up = unowned x
  row_passes x (w ∷ ws) up = elim (eqb_tells (key x) (own w)) [
    | inl same ↦ rw (unsigned_tied (key x) (own w), same.0, others_pass x w same.1 ws up.0) (whole (test x (Some w)))
    | inr away ↦ rw (unsigned_tied (key x) (own w), away.0) (row_passes x ws up.1)
  ]
    where
      whole : (b : Bool) → b ≡ (b && true)
      whole true = refl
      whole false = refl

  -- the rows with another row added, grouped by owner
  rows_more : (x : X) (xs : List X) (ws : List W)
      → list_all (λ w. list_all (λ y. test y (Some w)) (filter (λ y. key y == own w) (x ∷ xs))) ws
      ≡ (list_all (passes_with x) ws && list_all (λ w. list_all (λ y. test y (Some w)) (filter (λ y. key y == own w) xs)) ws)
  rows_more x xs [] = refl
  rows_more x xs (w ∷ ws) =
      rw (rows_more x xs ws)
      (go (key x == own w) (list_all (λ y. test y (Some w)) (filter (λ y. key y == own w) xs)) (list_all (passes_with x) ws)
      (list_all (λ v. list_all (λ y. test y (Some v)) (filter (λ y. key y == own v) xs)) ws) refl)
    where
      four : (t r p q : Bool) → ((t && r) && (p && q)) ≡ ((t && p) && (r && q))
      four true true p q = refl
      four true false true q = refl
      four true false false q = refl
      four false r p q = refl

      three : (r p q : Bool) → (r && (p && q)) ≡ (p && (r && q))
      three true p q = refl
      three false true q = refl
      three false false q = refl

      go : (b r p q : Bool) → list_all (λ y. test y (Some w)) (filter (λ y. key y == own w) xs) ≡ r
          → (list_all (λ y. test y (Some w)) (cond b (x ∷ filter (λ y. key y == own w) xs) (filter (λ y. key y == own w) xs)) && (p && q)) ≡ (((not b || test x (Some w)) && p) && (r && q))
      go true r p q is = rw is (four (test x (Some w)) r p q)
      go false r p q is = rw is (three r p q)

  -- checking every row with its owner is the same as checking every owner with its rows
  pub by_owner : (ws : List W) (xs : List X) → IsStrictlySortedBy (on own nat_cmp) ws
      → list_all (λ x. test x (entry_at (λ w. nat_cmp (key x) (own w)) ws)) xs
      ≡ (list_all (λ x. is_some (entry_at (λ w. nat_cmp (key x) (own w)) ws)) xs && list_all (λ w. list_all (λ x. test x (Some w)) (filter (λ x. key x == own w) xs)) ws)
  by_owner ws [] up = sym (all_true ws)
  by_owner ws (x ∷ xs) up =
      rw (row_passes x ws up, by_owner ws xs up, rows_more x xs ws)
      (shuffle (is_some (entry_at (λ w. nat_cmp (key x) (own w)) ws)) (list_all (passes_with x) ws) (list_all (λ y. is_some (entry_at (λ w. nat_cmp (key y) (own w)) ws)) xs) _)
    where
      shuffle : (a b p q : Bool) → ((a && b) && (p && q)) ≡ ((a && p) && (b && q))
      shuffle true true true q = refl
      shuffle true true false q = refl
      shuffle true false true q = refl
      shuffle true false false q = refl
      shuffle false b p q = refl

-- ---- keyings

module _ (s : OfficeState) (rise : IsStrictlySortedBy batch_cmp s.batches) where
  -- every keyed paper belongs to an existing batch, and every batch has valid papers and rounds.
  pub keyed_by_batch : (list_all (λ k. is_some (batch_at s k.batch)) s.keyings && list_all (is_rightly_keyed s) s.batches) ≡ all_keyed s
  keyed_by_batch =
      rw (
        all_both (are_keyed_for s) (λ b. are_rounds_to s b b.round) s.batches,
        by_owner (λ (b : BatchEntry). b.number) (λ (k : KeyedEntry). k.batch) (is_keyed_for s)
            (λ k. refl) s.batches s.keyings rise,
      )
      (assoc (list_all (λ k. is_some (batch_at s k.batch)) s.keyings) _ _)
    where
      assoc : (a b c : Bool) → (a && (b && c)) ≡ ((a && b) && c)
      assoc true b c = refl
      assoc false b c = refl

-- ---- rounds

module _ (s : OfficeState) (b : BatchEntry) where
  -- a round and the rounds before it
  pub round_first : (left : ℕ) → 0 < left → are_rounds_to s b left ≡ (is_round_of s b left && are_rounds_to s b (left - 1))
  round_first zero some = absurd (omega arith)
  round_first (suc left) some = let e : suc left - 1 ≡ left = omega arith in rw e (rounds_more s b left)

  pub no_round : are_rounds_to s b 0 ≡ true
  no_round = no_rounds s b
