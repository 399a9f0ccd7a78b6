-- The numbers of the candidates in cast-vote records: 1, 2, 3, ..
use Rattle.std.proofs.Common.{◌≡◌, ◌∙◌, ℕ, zero, suc, ◌+◌, ◌≤◌, List, [], ◌∷◌, ◌++◌, sym, ap, subst, add-zero, add-one, arith}
use Rattle.std.specs.List.{range_with_len}
use Rattle.paper.specs.Columns.{IsCandidateSet, max_candidates}
use Rattle.paper.proofs.ColumnSets.{Ascends, columns_from_ascends}

-- another number
range_suc : (a n : ℕ) → range_with_len a (suc n) ≡ range_with_len a n ++ (a + n) ∷ []
range_suc a zero = ap (λ (k : ℕ). k ∷ []) (sym (add-zero a))
range_suc a (suc n) =
    let last : (a + 1) + n ≡ a + suc n = omega arith in
    ap (λ (xs : List ℕ). a ∷ xs) (range_suc (a + 1) n ∙ ap (λ (k : ℕ). range_with_len (a + 1) n ++ k ∷ []) last)

range_ascends : (k n : ℕ) → k + n ≤ max_candidates → Ascends k (range_with_len (k + 1) n)
range_ascends k zero few = tt
range_ascends k (suc n) few = (omega arith, omega arith, range_ascends (k + 1) n (omega arith))

-- the set of the first numbers, extended by the next one
pub columns_more : (n : ℕ) (columns more : List ℕ) → n + 1 ≤ max_candidates → columns ≡ range_with_len 1 n → (IsCandidateSet (columns ++ (n + 1) ∷ []) → more ≡ columns ++ (n + 1) ∷ []) →
    more ≡ range_with_len 1 (n + 1)
columns_more n columns more few are last =
    let next : columns ++ (n + 1) ∷ [] ≡ range_with_len 1 (n + 1) =
    (let place : n + 1 ≡ 1 + n = omega arith in rw (are, add-one) (sym (range_suc 1 n ∙ ap (λ (k : ℕ). range_with_len 1 n ++ k ∷ []) (omega arith)))) in
    last (subst IsCandidateSet (sym next) (columns_from_ascends 0 _ (range_ascends 0 (n + 1) (omega arith)))) ∙ next
