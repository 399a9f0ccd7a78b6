-- After each stage, the figures, the non-transferable votes and the loss add up to one vote per paper.
use Rattle.std.proofs.Common.{◌≡◌, ℕ, ◌+◌, ◌*◌, ◌<◌, ◌≤◌, ◌&&◌, ◌⊎◌, inl, inr, Bool, true, false, not, cond, eqb, nat_eq, List, [], ◌∷◌, length, Option, refl, ap, ◌∙◌, arith}
use Rattle.std.specs.List.{list_any, sum_by, AllByRecursion}
use Rattle.std.proofs.lemmas.Bool.{cases_order}
use Rattle.std.proofs.lemmas.List.Sums.{sum_by-cons}
use Rattle.votes.specs.Units.{one_vote}
use Rattle.count.specs.Law.Contest.{Contest, History, IsContest, AreForCandidates, votes_at, In}
use Rattle.count.specs.Law.Laws.{IsConserved}
use Rattle.count.specs.Inside.Holdings.{passes_on}
use Rattle.count.specs.Law.Places.{Place, place, moved, first_of, after, next_available}
use Rattle.count.specs.Law.Right.{IsRightBy}
use Rattle.count.specs.Law.Elected.{is_continuing, is_excluded, is_elected, is_transferred, transfers}
use Rattle.count.specs.Law.Figures.{value_with, votes_after, non_transferable_after, lost_after}
use Rattle.count.specs.Books.{AreRankings}
use Rattle.count.specs.declared.stages.Stage.{Stage}
use Rattle.count.specs.declared.stages.Action.{Action}
use Rattle.count.specs.declared.stages.Action.TheVariants.{First, Surplus, Exclude, ExcludeLast}
use Rattle.count.proofs.Law.ActionLemmas.{in-filter, column-in}
use Rattle.count.proofs.SumLemmas.{sum_by-add, at_other, at_equal}
use Rattle.count.proofs.Law.ValueLemmas.{all_values, held}
use Rattle.count.proofs.Law.CandidateSums.{columns-distinct, sum-one, sum-swap, sum-le}
use Rattle.count.proofs.Law.StepLemmas.{told-votes}
use Rattle.count.proofs.Law.QuotaLemmas.{values-conserved}
use Rattle.count.proofs.Law.PassedLemmas.{has_passed, first-passes, passed-held}
use Rattle.count.proofs.ChoiceLemmas.{either_or}

-- a holder is one of the candidates, or no one
abbrev pub IsHolder : List ℕ → ℕ → Type 0
IsHolder candidates h = (h ≡ 0) ⊎ In h candidates

first_holder : (candidates p : List ℕ) → AllByRecursion (λ c. In c candidates) p → IsHolder candidates (first_of p)
first_holder candidates [] of = inl refl
first_holder candidates (x ∷ xs) of = inr of.0

zero_or : (n : ℕ) → (n ≡ 0) ⊎ (1 ≤ n)
zero_or n = by_order (cases_order n 0)
  where
    by_order : (n ≡ 0) ⊎ ((n < 0) ⊎ (0 < n)) → (n ≡ 0) ⊎ (1 ≤ n)
    by_order (inl h) = inl h
    by_order (inr (inl h)) = absurd (omega (arith, h))
    by_order (inr (inr h)) = inr (omega (arith, h))

next_holder_at : (contest : Contest) (before : History) (d : ℕ) (p : List ℕ) → (next_available contest before d p ≡ 0) ⊎ (1 ≤ next_available contest before d p) →
    IsHolder contest.candidates (next_available contest before d p)
next_holder_at contest before d p (inl none) = inl none
next_holder_at contest before d p (inr some) =
    let first = first-passes (is_continuing contest before) (after d p) (next_available contest before d p) some refl in
    inr (in-filter (next_available contest before d p) (λ c. not (is_elected contest before c) && not (is_excluded before c)) contest.candidates first.0).1

passed_holder : (contest : Contest) (before : History) (d : ℕ) (p : List ℕ) (at : Place) (v : ℕ) (b : Bool) → IsHolder contest.candidates at.holder →
    IsHolder contest.candidates (let m : Place = record { holder = next_available contest before d p; value = v } in cond b m at).holder
passed_holder contest before d p at v true h = next_holder_at contest before d p (zero_or (next_available contest before d p))
passed_holder contest before d p at v false h = h

moved_holder : (contest : Contest) (before : History) (action : Action) (p : List ℕ) (at : Place) → AllByRecursion (λ c. In c contest.candidates) p → IsHolder contest.candidates at.holder →
    IsHolder contest.candidates (moved contest before action p at).holder
moved_holder contest before First p at of h = first_holder contest.candidates p of
moved_holder contest before (Surplus d) p at of h = passed_holder contest before d p at _ (eqb at.holder d) h
moved_holder contest before (Exclude d) p at of h = passed_holder contest before d p at _ (eqb at.holder d) h
moved_holder contest before (ExcludeLast d) p at of h = h

-- the holder of a paper is a candidate
pub holder-known : (contest : Contest) (stages : History) (p : List ℕ) → AllByRecursion (λ c. In c contest.candidates) p → IsHolder contest.candidates (place contest stages p).holder
holder-known contest [] p of = inl refl
holder-known contest (s ∷ before) p of = moved_holder contest before s.action p (place contest before p) of (holder-known contest before p of)

one_holder : (candidates : List ℕ) (at : Place) (b : Bool) → list_any (nat_eq at.holder) candidates ≡ b → ((c : ℕ) → In c candidates → 1 ≤ c) → IsHolder candidates at.holder →
    cond b at.value 0 + value_with 0 at ≡ at.value
one_holder candidates at true e some h =
    let positive = some at.holder e in
    let none : value_with 0 at ≡ 0 = at_other at.holder 0 at.value 0 (λ z. let bad : ⊥ = omega (arith, z, positive) in bad) in omega (arith, none)
one_holder candidates at false e some (inl is_zero) = omega (arith, at_equal at.holder 0 at.value 0 is_zero)
one_holder candidates at false e some (inr found) = cc

-- functions that are equal on papers for candidates have equal sums
pub sum-of : (candidates : List ℕ) (papers : List (List ℕ)) → AreForCandidates candidates papers → (f g : List ℕ → ℕ) → ((p : List ℕ) → AllByRecursion (λ c. In c candidates) p → f p ≡ g p) →
    sum_by f papers ≡ sum_by g papers
sum-of candidates [] of f g h = refl
sum-of candidates (p ∷ ps) of f g h = omega (arith, sum_by-cons f p ps, sum_by-cons g p ps, h p of.0, sum-of candidates ps of.1 f g h)

-- what the candidates hold and what no one holds make up the total value
pub held-all : (contest : Contest) (stages : History) → IsContest contest →
    sum_by (held contest stages) contest.candidates + non_transferable_after contest stages ≡ all_values contest stages
held-all contest stages fair =
    let swapped = sum-swap (λ c p. value_with c (place contest stages p)) contest.candidates contest.papers in
    let split = sum_by-add (λ p. sum_by (λ c. value_with c (place contest stages p)) contest.candidates) (λ p. value_with 0 (place contest stages p)) contest.papers in
    let each = sum-of contest.candidates contest.papers fair.for_candidates (λ p. sum_by (λ c. value_with c (place contest stages p)) contest.candidates
    + value_with 0 (place contest stages p)) (λ p. (place contest stages p).value)
    (λ p k. let at = place contest stages p in
    ap (λ n. n + value_with 0 at) (sum-one at.holder at.value contest.candidates (columns-distinct contest.candidates fair.candidate_set))
    ∙ one_holder contest.candidates at _ refl (λ c j. (column-in c contest.candidates fair.candidate_set j).0) (holder-known contest stages p k)) in
    omega (arith, swapped, split, each)

action_passed : (a : Action) (c : ℕ) → transfers a c ≡ true → passes_on a c ≡ true
action_passed First c h = cc
action_passed (Surplus d) c h = h
action_passed (Exclude d) c h = cc
action_passed (ExcludeLast d) c h = cc

-- a candidate whose surplus is transferred has passed on all papers
pub transferred-passed : (stages : History) (c : ℕ) → is_transferred stages c ≡ true → has_passed stages c ≡ true
transferred-passed [] c h = cc
transferred-passed (s ∷ before) c h =
    either_or (transfers s.action c) (is_transferred before c) (passes_on s.action c) (has_passed before c) (action_passed s.action c) (transferred-passed before c) h

votes_split : (contest : Contest) (stages : History) (c : ℕ) (b : Bool) → (b ≡ true → held contest stages c ≡ 0) →
    cond b contest.quota (held contest stages c) ≡ cond b contest.quota 0 + held contest stages c
votes_split contest stages c true h = omega (arith, h refl)
votes_split contest stages c false h = omega arith

-- The votes of the candidates, what no one holds and the loss add up to one vote per paper.
pub votes-conserved : (contest : Contest) (handed : History → Stage → Option ℕ) (s : Stage) (before : History) → IsContest contest → IsRightBy contest handed (s ∷ before) →
    AreRankings contest.papers →
    sum_by (votes_after contest (s ∷ before)) contest.candidates + non_transferable_after contest (s ∷ before) + lost_after contest (s ∷ before) ≡ one_vote * length contest.papers
votes-conserved contest handed s before fair right rankings =
    let stages = s ∷ before in
    let parts : ℕ → ℕ = λ c. cond (is_transferred stages c) contest.quota 0 + held contest stages c in
    let each : (c : ℕ) → In c contest.candidates → votes_after contest stages c ≡ parts c = λ c k.
    votes_split contest stages c (is_transferred stages c)
    (λ gone. passed-held contest handed stages right rankings c (column-in c contest.candidates fair.candidate_set k).0 (transferred-passed stages c gone)) in
    let below = sum-le (votes_after contest stages) parts contest.candidates (λ c k. omega (arith, each c k)) in
    let above = sum-le parts (votes_after contest stages) contest.candidates (λ c k. omega (arith, each c k)) in
    let split = sum_by-add (λ c. cond (is_transferred stages c) contest.quota 0) (held contest stages) contest.candidates in
    omega (arith, below, above, split, held-all contest stages fair, values-conserved contest handed s before fair right)

-- After each stage, the figures of the candidates, the non-transferable votes and the loss add up to one vote per paper.
pub figures-conserved : (contest : Contest) (handed : History → Stage → Option ℕ) (s : Stage) (before : History) → IsContest contest → IsRightBy contest handed (s ∷ before) →
    AreRankings contest.papers →
    sum_by (votes_at s) contest.candidates + s.non_transferable + s.lost ≡ one_vote * length contest.papers
figures-conserved contest handed s before fair right rankings =
    let told : (c : ℕ) → In c contest.candidates → votes_at s c ≡ votes_after contest (s ∷ before) c =
    λ c k. told-votes contest s before c right.1.tells (column-in c contest.candidates fair.candidate_set k) in
    let below = sum-le (votes_at s) (votes_after contest (s ∷ before)) contest.candidates (λ c k. omega (arith, told c k)) in
    let above = sum-le (votes_after contest (s ∷ before)) (votes_at s) contest.candidates (λ c k. omega (arith, told c k)) in
    omega (arith, below, above, right.1.tells.non_transferable_told, right.1.tells.lost_told, votes-conserved contest handed s before fair right rankings)

-- The same holds for every stage.
pub all-conserved : (contest : Contest) (handed : History → Stage → Option ℕ) (stages : History) → IsContest contest → IsRightBy contest handed stages → AreRankings contest.papers →
    IsConserved contest stages
all-conserved contest handed [] fair right rankings = tt
all-conserved contest handed (s ∷ before) fair right rankings = (figures-conserved contest handed s before fair right rankings, all-conserved contest handed before fair right.0 rankings)
