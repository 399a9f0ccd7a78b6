-- Each action moves the papers to their places after it.
use Rattle.std.proofs.Common.{◌≡◌, ℕ, ◌+◌, ◌==◌, Bool, true, false, not, cond, eqb, List, [], ◌∷◌, ◌++◌, refl, sym, ap, ◌∙◌, arith, Bor}
use Rattle.std.specs.List.{sum_by, filter}
use Rattle.std.proofs.lemmas.List.Sums.{sum_by-cons, sum_by-append}
use Rattle.std.proofs.lemmas.Bool.{eqb-true}
use Rattle.paper.specs.Ranking.{IsRanking}
use Rattle.votes.specs.Units.{one_vote}
use Rattle.count.specs.Law.Contest.{Contest, History, newest_votes}
use Rattle.count.specs.Law.Elected.{is_continuing}
use Rattle.paper.specs.Standing.{from_first}
use Rattle.count.specs.Law.Places.{Place, place, moved, passed_on, first_of, next_available, surplus_of}
use Rattle.count.specs.Inside.Holdings.{total, total_of, total_passed, at_passed, new_value, passed_to, passes_on, kept_by}
use Rattle.count.specs.Books.{AreRankings}
use Rattle.count.specs.Inside.BookInvariants.{rest_at, at_place, HoldPapers, IsMovedBy}
use Rattle.count.specs.declared.parcel.Parcel.{Parcel}
use Rattle.count.specs.declared.parcel.Holding.{Holding}
use Rattle.count.specs.declared.parcel.TransferRule.{TransferRule}
use Rattle.count.specs.declared.parcel.TransferRule.TheVariants.{AsReceived, Share}
use Rattle.count.specs.declared.stages.Action.{Action}
use Rattle.count.specs.declared.stages.Action.TheVariants.{First, Surplus, Exclude, ExcludeLast}
use Rattle.count.proofs.SumLemmas.{sum_by-same, sum_by-add, sum_by-none, sum-rankings}
use Rattle.count.proofs.RestLemmas.{rest_passed, rest_again, suffix-self}
use Rattle.count.proofs.ChoiceLemmas.{eqb_swap}

-- a function applied after the papers of c are passed on, while the others stay
abbrev after_passing : (ℕ → List ℕ → ℕ → ℕ) → ℕ → (ℕ → Bool) → TransferRule → ℕ → List ℕ → ℕ → ℕ
after_passing f c cont rule h rest v = cond (eqb h c) (at_passed f cont rule rest v) (f h rest v)

passed_choice : (f : ℕ → List ℕ → ℕ → ℕ) (contest : Contest) (before : History) (c : ℕ) (rule : TransferRule) (paper : List ℕ) (at : Place) (b : Bool) →
    IsRanking paper → eqb at.holder c ≡ b →
    at_place f paper (cond b (record { holder = next_available contest before c paper; value = new_value rule at.value }) at)
    ≡ cond b (at_passed f (is_continuing contest before) rule (rest_at paper at) at.value) (at_place f paper at)
passed_choice f contest before c rule paper at false r e = refl
passed_choice f contest before c rule paper at true r e =
    let same : at.holder ≡ c = eqb-true at.holder c e in
    let left = passed_to (is_continuing contest before) (from_first (λ d. d == c) paper) in
    ap (λ (rest : List ℕ). f (first_of left) rest (new_value rule at.value)) (rest_passed (is_continuing contest before) paper (λ d. d == c) r)
    ∙ ap (λ (h : ℕ). at_passed f (is_continuing contest before) rule (from_first (λ d. d == h) paper) at.value) (sym same)

-- a paper that is passed on moves as a whole to its remaining preferences
passed_at : (f : ℕ → List ℕ → ℕ → ℕ) (contest : Contest) (before : History) (c : ℕ) (rule : TransferRule) (paper : List ℕ) (at : Place) → IsRanking paper →
    at_place f paper (passed_on contest before c paper at (new_value rule at.value)) ≡ at_place (after_passing f c (is_continuing contest before) rule) paper at
passed_at f contest before c rule paper at r = passed_choice f contest before c rule paper at (eqb at.holder c) r refl

split_choice : (a b : Bool) (x y : ℕ) → b ≡ a → cond a x y ≡ cond a x 0 + cond b 0 y
split_choice true true x y e = omega arith
split_choice true false x y e = cc
split_choice false true x y e = cc
split_choice false false x y e = omega arith

-- what is passed on and what stays make up the total
total-split : (f : ℕ → List ℕ → ℕ → ℕ) (c : ℕ) (cont : ℕ → Bool) (rule : TransferRule) (holdings : List Holding) →
    total (after_passing f c cont rule) holdings ≡ total_passed f c cont rule holdings + total (kept_by f (Exclude c)) holdings
total-split f c cont rule holdings =
    sum_by-same _ _ holdings (λ (q : Holding).
    sum_by-same _ _ q.parcels.items (λ (p : Parcel).
    sum_by-same _ _ p.papers.items (λ (r : Bor (List ℕ)). split_choice (eqb q.holder c) (eqb c q.holder) _ _ (eqb_swap c q.holder))
    ∙ sum_by-add (λ (r : Bor (List ℕ)). cond (eqb q.holder c) (at_passed f cont rule r.now p.value) 0) (λ (r : Bor (List ℕ)). cond (eqb c q.holder) 0 (f q.holder r.now p.value)) p.papers.items)
    ∙ sum_by-add (λ (p : Parcel). sum_by (λ (r : Bor (List ℕ)). cond (eqb q.holder c) (at_passed f cont rule r.now p.value) 0) p.papers.items)
    (λ (p : Parcel). sum_by (λ (r : Bor (List ℕ)). cond (eqb c q.holder) 0 (f q.holder r.now p.value)) p.papers.items) q.parcels.items)
    ∙ sum_by-add (λ (q : Holding). total_of (λ rest v. cond (eqb q.holder c) (at_passed f cont rule rest v) 0) q.parcels.items)
    (λ (q : Holding). total_of (λ rest v. cond (eqb c q.holder) 0 (f q.holder rest v)) q.parcels.items) holdings

-- Each action moves the papers to their places after it. On an exclusion or a surplus, all of a candidate's papers are transferred;
pub moved-exclude : (contest : Contest) (before : History) (c : ℕ) (holdings new : List Holding) → AreRankings contest.papers → HoldPapers contest before holdings →
    ((f : ℕ → List ℕ → ℕ → ℕ) → total f new ≡ total_passed f c (is_continuing contest before) AsReceived holdings) → IsMovedBy contest before (Exclude c) holdings new
moved-exclude contest before c holdings new rankings hold passed f s is =
    sum-rankings contest.papers rankings _ _ (λ p r.
    ap (λ action. at_place f p (moved contest before action p (place contest before p))) is
    ∙ passed_at f contest before c AsReceived p (place contest before p) r)
    ∙ hold (after_passing f c (is_continuing contest before) AsReceived)
    ∙ total-split f c (is_continuing contest before) AsReceived holdings
    ∙ ap (λ n. n + total (kept_by f (Exclude c)) holdings) (sym (passed f))

pub moved-surplus : (contest : Contest) (before : History) (c : ℕ) (holdings new : List Holding) → AreRankings contest.papers → HoldPapers contest before holdings →
    ((f : ℕ → List ℕ → ℕ → ℕ) → total f new ≡ total_passed f c (is_continuing contest before) (Share (surplus_of contest before c) (newest_votes before c)) holdings) →
    IsMovedBy contest before (Surplus c) holdings new
moved-surplus contest before c holdings new rankings hold passed f s is =
    let rule : TransferRule = Share (surplus_of contest before c) (newest_votes before c) in
    sum-rankings contest.papers rankings _ _ (λ p r.
    ap (λ action. at_place f p (moved contest before action p (place contest before p))) is
    ∙ passed_at f contest before c rule p (place contest before p) r)
    ∙ hold (after_passing f c (is_continuing contest before) rule)
    ∙ total-split f c (is_continuing contest before) rule holdings
    ∙ ap (λ n. n + total (kept_by f (Surplus c)) holdings) (sym (passed f))

-- at the first stage, each paper is credited as a whole to its first preference, and nothing was there before;
pub moved-first : (contest : Contest) (before : History) (holdings new : List Holding) → AreRankings contest.papers → holdings ≡ [] →
    ((f : ℕ → List ℕ → ℕ → ℕ) → total f new ≡ sum_by (λ p. f (first_of p) p one_vote) contest.papers) → IsMovedBy contest before First holdings new
moved-first contest before holdings new rankings none dealt f s is =
    let nothing : total (kept_by f First) holdings ≡ 0 = ap (total (kept_by f First)) none in
    let first = sum-rankings contest.papers rankings (λ p. at_place f p (place contest (s ∷ before) p)) (λ p. f (first_of p) p one_vote)
    (λ p r. ap (λ a. at_place f p (moved contest before a p (place contest before p))) is ∙ ap (λ l. f (first_of p) l one_vote) (rest_again p p r (suffix-self p))) in
    omega (arith, first, dealt f, nothing)

-- and an exclusion that fills the last vacancies moves nothing.
pub moved-last : (contest : Contest) (before : History) (c : ℕ) (holdings new : List Holding) → HoldPapers contest before holdings → new ≡ [] → IsMovedBy contest before (ExcludeLast c) holdings new
moved-last contest before c holdings new hold none f s is =
    let nothing : total f new ≡ 0 = ap (total f) none in
    let same : sum_by (λ p. at_place f p (place contest (s ∷ before) p)) contest.papers ≡ total f holdings =
    ap (λ a. sum_by (λ p. at_place f p (moved contest before a p (place contest before p))) contest.papers) is ∙ hold f in
    omega (arith, same, nothing)

kept_choice : (f : ℕ → List ℕ → ℕ → ℕ) (b : Bool) (q : Holding) (n m : ℕ) → n ≡ m →
    total f (cond (not b) (q ∷ []) []) + n ≡ total_of (λ rest v. cond b 0 (f q.holder rest v)) q.parcels.items + m
kept_choice f true q n m h = omega (arith, h, sum_by-none _ q.parcels.items (λ (p : Parcel). sum_by-none (λ (r : Bor (List ℕ)). 0) p.papers.items (λ r. refl)))
kept_choice f false q n m h = omega (arith, h)

filter_step : (b : Bool) (q : Holding) (rest : List Holding) → cond (not b) (q ∷ rest) rest ≡ cond (not b) (q ∷ []) [] ++ rest
filter_step true q rest = refl
filter_step false q rest = refl

total-kept : (f : ℕ → List ℕ → ℕ → ℕ) (action : Action) (holdings : List Holding) → total f (filter (λ q. not (passes_on action q.holder)) holdings) ≡ total (kept_by f action) holdings
total-kept f action [] = refl
total-kept f action (q ∷ qs) =
    ap (total f) (filter_step (passes_on action q.holder) q (filter (λ p. not (passes_on action p.holder)) qs))
    ∙ sum_by-append (λ (p : Holding). total_of (f p.holder) p.parcels.items) (cond (not (passes_on action q.holder)) (q ∷ []) []) (filter (λ p. not (passes_on action p.holder)) qs)
    ∙ kept_choice f (passes_on action q.holder) q _ _ (total-kept f action qs)
    ∙ sym (sum_by-cons (λ (p : Holding). total_of (λ rest v. kept_by f action p.holder rest v) p.parcels.items) q qs)

-- the holdings that stay, followed by the new ones
pub kept-append : (f : ℕ → List ℕ → ℕ → ℕ) (action : Action) (holdings left made new : List Holding) →
    left ≡ filter (λ q. not (passes_on action q.holder)) holdings → new ≡ left ++ made → total f new ≡ total f made + total (kept_by f action) holdings
kept-append f action holdings left made new is all =
    let joined : total f new ≡ total f left + total f made = ap (total f) all ∙ sum_by-append (λ (p : Holding). total_of (f p.holder) p.parcels.items) left made in
    let stay : total f left ≡ total (kept_by f action) holdings = ap (total f) is ∙ total-kept f action holdings in
    omega (arith, joined, stay)

pub ruleset kept_parts = kept-append
