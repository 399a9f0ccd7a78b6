-- The candidates in a file.
use Rattle.std.proofs.Common.{◌≡◌, ◌∙◌, ℕ, ◌+◌, ◌<◌, ◌≤◌, Bool, true, false, nat_eq, String, Global, List, [], ◌∷◌, ◌++◌, length, get_or, map, take, refl, sym, ap, subst, arith}
use Rattle.std.specs.Prelude.{if◌then◌else◌, string_bytes}
use Rattle.std.specs.List.{list_any}
use Rattle.std.proofs.lemmas.List.{get_or-map, length-map, take_all, take_more}
use Rattle.paper.specs.Columns.{IsColumn, IsCandidateSet, max_candidates}
use Rattle.paper.proofs.ColumnSets.{Ascends, columns_from_ascends}
use Rattle.count.proofs.ColumnLemmas.{columns-take}
use Rattle.checker.specs.Wards.{candidates_from, candidates_of}

-- numbers that ascend above a bound also ascend above a lower one
pub lower : (k : ℕ) (xs : List ℕ) → Ascends (k + 1) xs → Ascends k xs
lower k [] up = tt
lower k (x ∷ xs) up = (omega (arith, up.0), up.1, up.2)

one_more : (b : Bool) (k : ℕ) (name : List ℕ) (others : List (ℕ × List ℕ)) → k + 1 ≤ max_candidates → Ascends (k + 1) (map (λ candidate. candidate.0) others)
    → Ascends k (map (λ candidate. candidate.0) (if b then others else (k + 1, name) ∷ others))
one_more true k name others few up = lower k _ up
one_more false k name others few up = (omega arith, few, up)

candidates_ascend : (withdrawn : List ℕ) (k : ℕ) (names : List (List ℕ)) → k + length names ≤ max_candidates → Ascends k (map (λ candidate. candidate.0) (candidates_from withdrawn (k + 1) names))
candidates_ascend withdrawn k [] few = tt
candidates_ascend withdrawn k (name ∷ names) few =
    one_more (list_any (nat_eq (k + 1)) withdrawn) k name (candidates_from withdrawn (k + 1 + 1) names) (omega arith) (candidates_ascend withdrawn (k + 1) names (omega arith))

-- the candidates on the sheet have the same numbers
pub shown_numbers : (candidates : List (ℕ × String Global)) →
    map (λ (candidate : ℕ × List ℕ). candidate.0) (map (λ candidate. (candidate.0, string_bytes candidate.1)) candidates) ≡ map (λ candidate. candidate.0) candidates
shown_numbers [] = refl
shown_numbers (candidate ∷ candidates) = ap (λ numbers. candidate.0 ∷ numbers) (shown_numbers candidates)

-- the candidates' numbers are a set
pub candidates_set : (withdrawn : List ℕ) (names : List (List ℕ)) (candidates : List (ℕ × String Global)) → length names ≤ max_candidates
    → map (λ candidate. (candidate.0, string_bytes candidate.1)) candidates ≡ candidates_of withdrawn names → IsCandidateSet (map (λ candidate. candidate.0) candidates)
candidates_set withdrawn names candidates few is =
    let numbers = sym (ap (map (λ (candidate : ℕ × List ℕ). candidate.0)) is) ∙ shown_numbers candidates in
    subst IsCandidateSet numbers (columns_from_ascends 0 _ (candidates_ascend withdrawn 0 names (omega arith)))

-- ---- the set of the candidates' numbers, one by one

abbrev numbers_in : List (ℕ × String Global) → List ℕ
numbers_in candidates = map (λ candidate. candidate.0) candidates

-- the number of each candidate is a possible candidate number
IsColumn-candidate : {X : Type 0} (number : X → ℕ) (xs : List X) (i : ℕ) (d : X) → i < length xs → IsCandidateSet (map number xs) → IsColumn (number (get_or xs i d))
IsColumn-candidate number xs i d within set =
    subst IsColumn (get_or-map number xs i d 0 within) (set.within i (omega (arith, length-map xs number)))

pub number_is : (candidates : List (ℕ × String Global)) (i : ℕ) (candidate : ℕ × String Global) → IsCandidateSet (numbers_in candidates) → i < length candidates →
    candidate ≡ get_or candidates i candidate → IsColumn candidate.0
number_is candidates i candidate set here is =
    subst IsColumn (sym (ap (λ (c : ℕ × String Global). c.0) is)) (IsColumn-candidate (λ (c : ℕ × String Global). c.0) candidates i candidate here set)

-- another one of the numbers
pub number_more : (candidates : List (ℕ × String Global)) (i : ℕ) (candidate : ℕ × String Global) (columns more : List ℕ) → IsCandidateSet (numbers_in candidates) → i < length candidates →
    candidate ≡ get_or candidates i candidate
    → columns ≡ take i (numbers_in candidates) → (IsCandidateSet (columns ++ candidate.0 ∷ []) → more ≡ columns ++ candidate.0 ∷ []) → more ≡ take (i + 1) (numbers_in candidates)
number_more candidates i candidate columns more set here is so last =
    let within : i < length (numbers_in candidates) = omega (arith, length-map candidates (λ (c : ℕ × String Global). c.0)) in
    let number : get_or (numbers_in candidates) i 0 ≡ candidate.0 = get_or-map (λ (c : ℕ × String Global). c.0) candidates i candidate 0 here ∙ sym (ap (λ (c : ℕ × String Global). c.0) is) in
    let next : take (i + 1) (numbers_in candidates) ≡ columns ++ candidate.0 ∷ [] =
    take_more (numbers_in candidates) i 0 within ∙ (ap (λ n. take i (numbers_in candidates) ++ n ∷ []) number ∙ ap (λ ns. ns ++ candidate.0 ∷ []) (sym so)) in
    last (subst IsCandidateSet next (columns-take (i + 1) (numbers_in candidates) set)) ∙ sym next

-- all of the numbers
pub numbers_done : (candidates : List (ℕ × String Global)) (i : ℕ) (columns : List ℕ) → columns ≡ take i (numbers_in candidates) → length candidates ≤ i
    → columns ≡ map (λ (candidate : ℕ × List ℕ). candidate.0) (map (λ candidate. (candidate.0, string_bytes candidate.1)) candidates)
numbers_done candidates i columns so all =
    so ∙ (take_all i (numbers_in candidates) (omega (arith, length-map candidates (λ (c : ℕ × String Global). c.0))) ∙ sym (shown_numbers candidates))
