-- The first stage, paper by paper.
use Rattle.std.proofs.Common.{◌≡◌, ℕ, suc, zero, ◌+◌, ◌<◌, ◌≤◌, List, [], ◌∷◌, length, take, get_or, arith, subst}
use Rattle.paper.specs.Ranking.{IsRanking}
use Rattle.paper.specs.Columns.{max_candidates}
use Rattle.count.specs.Law.Places.{first_of}
use Rattle.count.specs.Books.{AreRankings}

-- the first element of a ranking is a candidate number, or 0
pub first-known : (paper : List ℕ) → IsRanking paper → first_of paper ≤ max_candidates
first-known [] h = omega arith
first-known (x ∷ xs) h = h.1

-- another ranking
pub rankings-more : (papers : List (List ℕ)) (i : ℕ) (p : List ℕ) → i < length papers → p ≡ get_or papers i p → IsRanking p → AreRankings (take i papers) → AreRankings (take (i + 1) papers)
rankings-more [] i p within is ranking sofar = absurd (omega arith)
rankings-more (q ∷ qs) zero p within is ranking sofar = (subst IsRanking is ranking, tt)
rankings-more (q ∷ qs) (suc i) p within is ranking sofar =
    let e : suc (i + 1) ≡ suc i + 1 = omega arith in
    subst (λ (k : ℕ). AreRankings (take k (q ∷ qs))) e (sofar.0, rankings-more qs i p (omega arith) is ranking sofar.1)

pub ruleset first_facts = (first-known, rankings-more)
