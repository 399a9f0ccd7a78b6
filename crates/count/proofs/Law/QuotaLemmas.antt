-- No more candidates than there are seats reach the quota, and those who have reached it keep it.
use Rattle.std.proofs.Common.{◌≡◌, ℕ, ◌+◌, ◌*◌, ◌/◌, ◌<◌, ◌≤◌, ◌||◌, ◌⊎◌, inl, inr, Bool, true, false, cond, eqb, nat_le, List, [], ◌∷◌, length, Option, refl, sym, ap, ◌∙◌, arith}
use Rattle.std.specs.List.{filter, sum_by}
use Rattle.std.proofs.lemmas.Bool.{leb-true, eqb-true, cases_order}
use Rattle.std.proofs.lemmas.List.Sums.{sum_by-le-sum_by}
use Rattle.std.proofs.Math.Nat.{lt-div-mul-add, mul-le-mul_right}
use Rattle.votes.specs.Units.{one_vote}
use Rattle.count.specs.Law.Contest.{Contest, History, IsContest, newest_votes, votes_at, In}
use Rattle.count.specs.Law.Right.{IsRightBy, Tells}
use Rattle.count.specs.Law.Figures.{votes_after, lost_after, lost_by}
use Rattle.count.specs.Law.Elected.{is_transferred, is_elected, has_reached, transfers, with_quota}
use Rattle.count.specs.Law.Places.{place, moved}
use Rattle.count.specs.Advance.{IsDue}
use Rattle.count.specs.declared.stages.Stage.{Stage}
use Rattle.count.specs.declared.stages.Action.{Action}
use Rattle.count.specs.declared.stages.Action.TheVariants.{First, Surplus, Exclude, ExcludeLast}
use Rattle.count.proofs.Law.ActionLemmas.{column-in}
use Rattle.count.proofs.SumLemmas.{sum_by-same, sum_by-add, sum_by-none}
use Rattle.count.proofs.Law.ValueLemmas.{all_values, held, takes, held-kept, surplus-conserves, exclude-values, first-values}
use Rattle.count.proofs.Law.CandidateSums.{columns-distinct, sum-one, held-within, sum-le, sum-filter}
use Rattle.count.proofs.Law.StepLemmas.{IsSurplus, IsExclusion, step-is, step-first, told-votes, reached-elected, votes-transferred, votes-held, surplus-fresh, surplus-held}
use Rattle.count.proofs.ChoiceLemmas.{or_false}

takes_exclusion : (b : Bool) (d c : ℕ) → eqb d c ≡ false → takes (cond b (ExcludeLast d) (Exclude d)) c ≡ false
takes_exclusion true d c h = refl
takes_exclusion false d c h = h

differs : (contest : Contest) (stages : History) (d c : ℕ) (b : Bool) → eqb d c ≡ b → is_elected contest stages d ≡ false → is_elected contest stages c ≡ true → b ≡ false
differs contest stages d c true same out in_ = let e = ap (is_elected contest stages) (eqb-true d c same) in cc
differs contest stages d c false same out in_ = refl

-- nothing but a surplus is taken from a candidate who has reached the quota
pub takes-not : (contest : Contest) (s : Stage) (before : History) (action : Action) (c : ℕ) → IsSurplus contest (s ∷ before) action ⊎ IsExclusion contest (s ∷ before) action →
    has_reached contest (s ∷ before) c ≡ true → transfers action c ≡ false → takes action c ≡ false
takes-not contest s before action c (inl on) reached stays = ap (λ a. takes a c) on.is ∙ (ap (λ a. transfers a c) (sym on.is) ∙ stays)
takes-not contest s before action c (inr on) reached stays =
    ap (λ a. takes a c) on.is ∙ takes_exclusion _ on.c c (differs contest (s ∷ before) on.c c _ refl on.not_elected (reached-elected contest (s ∷ before) c reached))

kept_votes : (contest : Contest) (s s' : Stage) (before : History) (c : ℕ) (b : Bool) → is_transferred (s ∷ s' ∷ before) c ≡ b → Tells contest before s' →
    IsSurplus contest (s' ∷ before) s.action ⊎ IsExclusion contest (s' ∷ before) s.action →
    has_reached contest (s' ∷ before) c ≡ true → newest_votes (s' ∷ before) c ≡ votes_after contest (s' ∷ before) c → contest.quota ≤ newest_votes (s' ∷ before) c
    → contest.quota ≤ votes_after contest (s ∷ s' ∷ before) c
kept_votes contest s s' before c true gone tells step reached told enough = omega (arith, votes-transferred contest (s ∷ s' ∷ before) c gone)
kept_votes contest s s' before c false gone tells step reached told enough =
    let parts = or_false (transfers s.action c) (is_transferred (s' ∷ before) c) gone in
    let more = held-kept contest s (s' ∷ before) c (takes-not contest s' before s.action c step reached parts.0) in
    omega (arith, more, enough, told, votes-held contest (s' ∷ before) c parts.1, votes-held contest (s ∷ s' ∷ before) c gone)

kept_later : (contest : Contest) (handed : History → Stage → Option ℕ) (s : Stage) (before : History) → IsContest contest → IsRightBy contest handed (s ∷ before) →
    (c : ℕ) → In c contest.candidates → (has_reached contest before c ≡ true → contest.quota ≤ newest_votes before c) → has_reached contest before c ≡ true →
    contest.quota ≤ newest_votes (s ∷ before) c
kept_later contest handed s [] fair right c is_candidate enough reached = cc
kept_later contest handed s (s' ∷ before) fair right c is_candidate enough reached =
    let column = column-in c contest.candidates fair.candidate_set is_candidate in
    let step = step-is contest s' before (handed (s' ∷ before) s) s.action right.1.was_due in
    let kept = kept_votes contest s s' before c _ refl right.0.1.tells step reached (told-votes contest s' before c right.0.1.tells column) (enough reached) in
    omega (arith, kept, told-votes contest s (s' ∷ before) c right.1.tells column)

kept_choice : (contest : Contest) (s : Stage) (before : History) (c : ℕ) (b : Bool) → nat_le contest.quota (votes_at s c) ≡ b →
    (has_reached contest before c ≡ true → contest.quota ≤ newest_votes (s ∷ before) c) → (b || has_reached contest before c) ≡ true → contest.quota ≤ newest_votes (s ∷ before) c
kept_choice contest s before c true e later h = leb-true contest.quota (votes_at s c) e
kept_choice contest s before c false e later h = later h

-- The votes of a candidate who has reached the quota never fall below it.
pub reached-kept : (contest : Contest) (handed : History → Stage → Option ℕ) (stages : History) → IsContest contest → IsRightBy contest handed stages →
    (c : ℕ) → In c contest.candidates → has_reached contest stages c ≡ true → contest.quota ≤ newest_votes stages c
reached-kept contest handed [] fair right c is_candidate reached = cc
reached-kept contest handed (s ∷ before) fair right c is_candidate reached =
    kept_choice contest s before c (nat_le contest.quota (votes_at s c)) refl
    (kept_later contest handed s before fair right c is_candidate (reached-kept contest handed before fair right.0 c is_candidate)) reached

-- the quotas that remain with those whose surplus is transferred
abbrev pub quotas_left : Contest → History → ℕ
quotas_left contest stages = sum_by (λ c. cond (is_transferred stages c) contest.quota 0) contest.candidates

left_choice : (a t : Bool) (q : ℕ) → (a ≡ true → t ≡ false) → cond (a || t) q 0 ≡ cond a q 0 + cond t q 0
left_choice true t q h = let e = ap (λ b. cond b q 0) (h refl) in omega (arith, e)
left_choice false t q h = omega arith

-- the transfer of a surplus leaves another quota
pub quotas_more : (contest : Contest) (s : Stage) (before : History) (d : ℕ) → IsContest contest → s.action ≡ Surplus d → In d contest.candidates → is_transferred before d ≡ false →
    quotas_left contest (s ∷ before) ≡ contest.quota + quotas_left contest before
quotas_more contest s before d fair is is_candidate fresh =
    sum_by-same _ (λ c. cond (eqb d c) contest.quota 0 + cond (is_transferred before c) contest.quota 0) contest.candidates
    (λ c. ap (λ a. cond (transfers a c || is_transferred before c) contest.quota 0) is
    ∙ left_choice (eqb d c) (is_transferred before c) contest.quota (λ e. ap (is_transferred before) (sym (eqb-true d c e)) ∙ fresh))
    ∙ sum_by-add (λ c. cond (eqb d c) contest.quota 0) (λ c. cond (is_transferred before c) contest.quota 0) contest.candidates
    ∙ ap (λ n. n + quotas_left contest before) (sum-one d contest.quota contest.candidates (columns-distinct contest.candidates fair.candidate_set) ∙ ap (λ b. cond b contest.quota 0) is_candidate)

quotas_same : (contest : Contest) (s : Stage) (before : History) → ((c : ℕ) → transfers s.action c ≡ false) → quotas_left contest (s ∷ before) ≡ quotas_left contest before
quotas_same contest s before none = sum_by-same _ _ contest.candidates (λ c. ap (λ b. cond (b || is_transferred before c) contest.quota 0) (none c))

excluded_same : (contest : Contest) (s : Stage) (before : History) (d : ℕ) (b : Bool) → s.action ≡ cond b (ExcludeLast d) (Exclude d) →
    all_values contest (s ∷ before) + quotas_left contest (s ∷ before) + lost_after contest (s ∷ before) ≡ all_values contest before + quotas_left contest before + lost_after contest before
excluded_same contest s before d true is =
    let values : all_values contest (s ∷ before) ≡ all_values contest before = ap (λ a. sum_by (λ p. (moved contest before a p (place contest before p)).value) contest.papers) is in
    let none : lost_by contest s before s.action ≡ 0 = ap (lost_by contest s before) is in
    omega (arith, values, none, quotas_same contest s before (λ c. ap (λ a. transfers a c) is))
excluded_same contest s before d false is =
    let none : lost_by contest s before s.action ≡ 0 = ap (lost_by contest s before) is in
    omega (arith, exclude-values contest s before d is, none, quotas_same contest s before (λ c. ap (λ a. transfers a c) is))

first_values : (contest : Contest) (s : Stage) → s.action ≡ First → all_values contest (s ∷ []) + quotas_left contest (s ∷ []) + lost_after contest (s ∷ []) ≡ one_vote * length contest.papers
first_values contest s is =
    let none : lost_by contest s [] s.action ≡ 0 = ap (lost_by contest s []) is in
    let left : quotas_left contest (s ∷ []) ≡ 0 = sum_by-none _ contest.candidates (λ c. ap (λ a. cond (transfers a c || false) contest.quota 0) is) in
    omega (arith, first-values contest s is, none, left)

step_values : (contest : Contest) (s s' : Stage) (before : History) → IsContest contest → Tells contest before s' →
    IsSurplus contest (s' ∷ before) s.action ⊎ IsExclusion contest (s' ∷ before) s.action →
    all_values contest (s ∷ s' ∷ before) + quotas_left contest (s ∷ s' ∷ before) + lost_after contest (s ∷ s' ∷ before) ≡ all_values contest (s' ∷ before)
    + quotas_left contest (s' ∷ before) + lost_after contest (s' ∷ before)
step_values contest s s' before fair tells (inl on) =
    let column = column-in on.c contest.candidates fair.candidate_set on.is_candidate in
    let conserved = surplus-conserves contest s (s' ∷ before) on.c on.is (omega (arith, on.above)) (omega (arith, on.above)) (surplus-held contest s' before on.c tells column on.above) in
    let more = quotas_more contest s (s' ∷ before) on.c fair on.is on.is_candidate (surplus-fresh contest s' before on.c tells column on.above) in
    omega (arith, conserved, more)
step_values contest s s' before fair tells (inr on) = excluded_same contest s (s' ∷ before) on.c _ on.is

-- The values of all papers, the quotas that remain and the loss add up to one vote per paper.
pub values-conserved : (contest : Contest) (handed : History → Stage → Option ℕ) (s : Stage) (before : History) → IsContest contest → IsRightBy contest handed (s ∷ before) →
    all_values contest (s ∷ before) + quotas_left contest (s ∷ before) + lost_after contest (s ∷ before) ≡ one_vote * length contest.papers
values-conserved contest handed s [] fair right = first_values contest s (step-first contest (handed [] s) s.action right.1.was_due)
values-conserved contest handed s (s' ∷ before) fair right =
    omega (
      arith,
      values-conserved contest handed s' before fair right.0,
      step_values contest s s' before fair right.0.1.tells
          (step-is contest s' before (handed (s' ∷ before) s) s.action right.1.was_due),
    )

-- the same holds if the newest stage has only its action
pub values-conserved-next : (contest : Contest) (handed : History → Stage → Option ℕ) (s : Stage) (before : History) → IsContest contest → IsRightBy contest handed before →
    IsDue contest before s.action →
    all_values contest (s ∷ before) + quotas_left contest (s ∷ before) + lost_after contest (s ∷ before) ≡ one_vote * length contest.papers
values-conserved-next contest handed s [] fair right due = first_values contest s (step-first contest due.lot s.action due.is)
values-conserved-next contest handed s (s' ∷ before) fair right due =
    omega (arith, values-conserved contest handed s' before fair right, step_values contest s s' before fair right.1.tells (step-is contest s' before due.lot s.action due.is))

votes_parts : (contest : Contest) (stages : History) (c : ℕ) (b : Bool) → cond b contest.quota (held contest stages c) ≤ cond b contest.quota 0 + held contest stages c
votes_parts contest stages c true = omega arith
votes_parts contest stages c false = omega arith

-- the votes of all candidates are at most one vote per paper
pub votes-within : (contest : Contest) (handed : History → Stage → Option ℕ) (s : Stage) (before : History) → IsContest contest → IsRightBy contest handed (s ∷ before) →
    sum_by (votes_after contest (s ∷ before)) contest.candidates ≤ one_vote * length contest.papers
votes-within contest handed s before fair right =
    let stages = s ∷ before in
    let parts = sum_by-le-sum_by (votes_after contest stages) (λ c. cond (is_transferred stages c) contest.quota 0 + held contest stages c) contest.candidates (λ c. votes_parts contest stages c _) in
    let split = sum_by-add (λ c. cond (is_transferred stages c) contest.quota 0) (held contest stages) contest.candidates in
    let holders = held-within contest stages contest.candidates (columns-distinct contest.candidates fair.candidate_set) in
    omega (arith, parts, split, holders, values-conserved contest handed s before fair right)

reached_choice : (b : Bool) (q v : ℕ) → (b ≡ true → q ≤ v) → cond b q 0 ≤ v
reached_choice true q v h = h refl
reached_choice false q v h = omega arith

same_product : (d k : ℕ) → k * (one_vote * (d + 1)) ≡ one_vote * (d * k + k)
same_product d k = grind arith

few_order : (w n seats q : ℕ) → (w ≡ seats) ⊎ ((w < seats) ⊎ (seats < w)) → w * q ≤ one_vote * n → q ≡ one_vote * (n / (seats + 1) + 1) → w ≤ seats
few_order w n seats q (inl h) all is = omega (arith, h)
few_order w n seats q (inr (inl h)) all is = omega (arith, h)
few_order w n seats q (inr (inr h)) all is =
    let some : seats + 1 ≤ w = omega (arith, h) in
    let more : (seats + 1) * q ≤ w * q = mul-le-mul_right q some in
    let enough : n < n / (seats + 1) * (seats + 1) + (seats + 1) = lt-div-mul-add (omega arith) in
    let whole : (seats + 1) * q ≡ one_vote * (n / (seats + 1) * (seats + 1) + (seats + 1)) = ap (λ k. (seats + 1) * k) is ∙ same_product (n / (seats + 1)) (seats + 1) in
    absurd (omega (arith, more, enough, whole, all))

few_enough : (w n seats q : ℕ) → w * q ≤ one_vote * n → q ≡ one_vote * (n / (seats + 1) + 1) → w ≤ seats
few_enough w n seats q all is = few_order w n seats q (cases_order w seats) all is

-- No more candidates than there are seats reach the quota.
pub few-reach : (contest : Contest) (handed : History → Stage → Option ℕ) (stages : History) → IsContest contest → IsRightBy contest handed stages →
    length (with_quota contest stages) ≤ contest.seats
few-reach contest handed [] fair right = omega (arith, none contest.candidates)
  where
    none : (cs : List ℕ) → length (filter (has_reached contest []) cs) ≡ 0
    none [] = refl
    none (c ∷ cs) = none cs
few-reach contest handed (s ∷ before) fair right =
    let stages = s ∷ before in
    let counted = sum-filter (has_reached contest stages) contest.quota contest.candidates in
    let each = sum-le (λ c. cond (has_reached contest stages c) contest.quota 0) (votes_after contest stages) contest.candidates
    (λ c k. let column = column-in c contest.candidates fair.candidate_set k in
    reached_choice (has_reached contest stages c) contest.quota (votes_after contest stages c)
    (λ r. omega (arith, reached-kept contest handed stages fair right c k r, told-votes contest s before c right.1.tells column))) in
    few_enough (length (with_quota contest stages)) (length contest.papers) contest.seats contest.quota (omega (arith, counted, each, votes-within contest handed s before fair right)) fair.quota_is
