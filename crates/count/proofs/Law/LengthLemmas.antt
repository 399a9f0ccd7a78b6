-- A count has at most one stage per candidate, plus one.
use Rattle.std.proofs.Common.{◌≡◌, ℕ, ◌+◌, ◌-◌, ◌≤◌, ◌==◌, ◌||◌, ◌⊎◌, inl, inr, Bool, true, false, not, cond, eqb, nat_eq, nat_le, List, [], ◌∷◌, length, Option, refl, sym, ap, ◌∙◌, arith}
use Rattle.std.specs.List.{list_any, filter, sum_by}
use Rattle.std.proofs.lemmas.Bool.{eqb-true, eqb-false, eq-eqb}
use Rattle.count.specs.Law.Contest.{Contest, History, IsContest, votes_at, In}
use Rattle.count.specs.Inside.Holdings.{passes_on}
use Rattle.count.specs.Law.Right.{IsRightBy, Tells}
use Rattle.count.specs.Law.Places.{place, moved}
use Rattle.count.specs.Law.Figures.{votes_after, value_with}
use Rattle.count.specs.Law.Elected.{is_excluded, is_elected, is_transferred, has_reached, undecided_fill, continuing_after, vacancies_after, transfers, excludes}
use Rattle.count.specs.Law.Due.{exclusion}
use Rattle.count.specs.Books.{AreRankings}
use Rattle.count.specs.declared.stages.Stage.{Stage}
use Rattle.count.specs.declared.stages.Action.{Action}
use Rattle.count.specs.declared.stages.Action.TheVariants.{First, Surplus, Exclude, ExcludeLast}
use Rattle.count.proofs.Law.ActionLemmas.{column-in, filter-more, acted, length-acted}
use Rattle.count.proofs.FilterLemmas.{filter-cong}
use Rattle.count.proofs.Law.StepLemmas.{IsSurplus, IsExclusion, step-is, step-first, step-vacant, told-votes, reached-elected, surplus-held}
use Rattle.count.proofs.Law.QuotaLemmas.{few-reach}
use Rattle.count.proofs.Law.FinishLemmas.{in_race, race-parts, race-enough, vacant-unfilled, elected_filled, elected_unfilled, continuing_unfilled}
use Rattle.count.proofs.Law.PassedLemmas.{has_passed, passed-held, above-reached}
use Rattle.count.proofs.ChoiceLemmas.{either_or, or_later}

head_is_in : (a b : Bool) → (a ≡ true → b ≡ true) → (a || b) ≡ b
head_is_in true b h = sym (h refl)
head_is_in false b h = refl

last_votes : (contest : Contest) (s : Stage) (before : History) (d c : ℕ) → s.action ≡ ExcludeLast d → votes_after contest (s ∷ before) c ≡ votes_after contest before c
last_votes contest s before d c is =
    ap (λ a. cond (transfers a c || is_transferred before c) contest.quota (sum_by (λ p. value_with c (moved contest before a p (place contest before p))) contest.papers)) is

-- an exclusion that moves nothing lets no candidate reach the quota
last_reached : (contest : Contest) (s s' : Stage) (before : History) (d c : ℕ) → IsContest contest → In c contest.candidates → Tells contest before s' → Tells contest (s' ∷ before) s →
    s.action ≡ ExcludeLast d →
    has_reached contest (s ∷ s' ∷ before) c ≡ has_reached contest (s' ∷ before) c
last_reached contest s s' before d c fair is_candidate tells' tells is =
    let column = column-in c contest.candidates fair.candidate_set is_candidate in
    let same : votes_at s c ≡ votes_at s' c = told-votes contest s (s' ∷ before) c tells column ∙ last_votes contest s (s' ∷ before) d c is ∙ sym (told-votes contest s' before c tells' column) in
    ap (λ n. nat_le contest.quota n || has_reached contest (s' ∷ before) c) same
    ∙ head_is_in (nat_le contest.quota (votes_at s' c)) (has_reached contest (s' ∷ before) c) (λ e. ap (λ b. b || has_reached contest before c) e)

still_choice : (r d e : Bool) → (r || not (d || e)) ≡ true → (r || not e) ≡ true
still_choice true d e h = refl
still_choice false true e h = cc
still_choice false false e h = h

out_of_race : (r e : Bool) → r ≡ false → (r || not (true || e)) ≡ false
out_of_race r e h = ap (λ b. b || false) h

in_the_race : (r e : Bool) → e ≡ false → (r || not e) ≡ true
in_the_race true e h = refl
in_the_race false e h = ap not h

-- a candidate who isn't elected hasn't reached the quota
pub not_reached : (contest : Contest) (stages : History) (c : ℕ) (b : Bool) → has_reached contest stages c ≡ b → is_elected contest stages c ≡ false → b ≡ false
not_reached contest stages c true e h = let k = reached-elected contest stages c e in cc
not_reached contest stages c false e h = refl

-- an exclusion that moves nothing removes one candidate from the race
last_race : (contest : Contest) (s s' : Stage) (before : History) (d : ℕ) → IsContest contest → In d contest.candidates → is_elected contest (s' ∷ before) d ≡ false →
    is_excluded (s' ∷ before) d ≡ false →
    Tells contest before s' → Tells contest (s' ∷ before) s → s.action ≡ ExcludeLast d → length (in_race contest (s ∷ s' ∷ before)) + 1 ≤ length (in_race contest (s' ∷ before))
unfolding in_race
last_race contest s s' before d fair is_candidate not_elected not_excluded tells' tells is =
    let stages = s' ∷ before in
    let p : ℕ → Bool = λ c. has_reached contest stages c || not (excludes s.action c || is_excluded stages c) in
    let q : ℕ → Bool = λ c. has_reached contest stages c || not (is_excluded stages c) in
    let same : filter (λ c. has_reached contest (s ∷ stages) c || not (is_excluded (s ∷ stages) c)) contest.candidates ≡ filter p contest.candidates =
    filter-cong _ p contest.candidates (λ c k. ap (λ b. b || not (excludes s.action c || is_excluded stages c)) (last_reached contest s s' before d c fair k tells' tells is)) in
    let excluded_now : excludes s.action d ≡ true = ap (λ a. excludes a d) is ∙ eq-eqb d d refl in
    let fails : p d ≡ false = ap (λ b. has_reached contest stages d || not (b || is_excluded stages d)) excluded_now ∙ out_of_race _ (is_excluded stages d)
    (not_reached contest stages d _ refl not_elected) in
    let passes : q d ≡ true = in_the_race (has_reached contest stages d) _ not_excluded in
    let fewer = filter-more p q d contest.candidates (λ c. still_choice (has_reached contest stages c) (excludes s.action c) (is_excluded stages c)) fails passes is_candidate in
    omega (arith, ap length same, fewer)

-- the last exclusion is the one after which there are as many others as vacancies
last_choice : (b : Bool) (c d : ℕ) → cond b (ExcludeLast c) (Exclude c) ≡ ExcludeLast d → (b ≡ true) × (c ≡ d)
last_choice true c d h = (refl, cc)
last_choice false c d h = cc

last_after : (contest : Contest) (handed : History → Stage → Option ℕ) (s s' : Stage) (before : History) (d : ℕ) → IsContest contest → IsRightBy contest handed (s ∷ s' ∷ before) →
    IsSurplus contest (s' ∷ before) s.action ⊎ IsExclusion contest (s' ∷ before) s.action → s.action ≡ ExcludeLast d → undecided_fill contest (s ∷ s' ∷ before) ≡ true
last_after contest handed s s' before d fair right (inl on) is = let e = sym on.is ∙ is in cc
last_after contest handed s s' before d fair right (inr on) is =
    let stages = s' ∷ before in
    let left = step-vacant contest s' before (handed stages s) s.action right.1.was_due in
    let open_ = vacant-unfilled contest stages left in
    let e : exclusion contest stages on.c ≡ ExcludeLast d = sym on.is ∙ is in
    let last = last_choice (length (continuing_after contest stages) - 1 == vacancies_after contest stages) on.c d e in
    let is_here : s.action ≡ ExcludeLast on.c = is ∙ ap ExcludeLast (sym last.1) in
    let fewer = last_race contest s s' before on.c fair on.is_candidate on.not_elected on.not_excluded right.0.1.tells right.1.tells is_here in
    let others = eqb-true _ _ last.0 in
    let chosen = ap length (elected_unfilled contest stages open_) in
    let standing = ap length (continuing_unfilled contest stages open_) in
    let enough = race-enough contest handed (s ∷ stages) fair right in
    let some = eqb-false _ _ left in
    eq-eqb _ _ (omega (arith, fewer, others, chosen, standing, enough, some, race-parts contest stages, race-parts contest (s ∷ stages), few-reach contest handed stages fair right.0))

-- after the last exclusion no vacancy remains
pub last-fills : (contest : Contest) (handed : History → Stage → Option ℕ) (s : Stage) (before : History) (d : ℕ) → IsContest contest → IsRightBy contest handed (s ∷ before) →
    s.action ≡ ExcludeLast d → vacancies_after contest (s ∷ before) ≡ 0
last-fills contest handed s [] d fair right is = let e = sym (step-first contest (handed [] s) s.action right.1.was_due) ∙ is in cc
last-fills contest handed s (s' ∷ before) d fair right is =
    let full = last_after contest handed s s' before d fair right (step-is contest s' before (handed (s' ∷ before) s) s.action right.1.was_due) is in
    omega (arith, elected_filled contest (s ∷ s' ∷ before) full)

action_excludes : (a : Action) (c : ℕ) → ((d : ℕ) → a ≡ ExcludeLast d → ⊥) → excludes a c ≡ true → passes_on a c ≡ true
action_excludes First c none h = cc
action_excludes (Surplus d) c none h = cc
action_excludes (Exclude d) c none h = h
action_excludes (ExcludeLast d) c none h = absurd (none d refl)

-- if another stage follows, an excluded candidate has passed on all papers
pub excluded-passed : (contest : Contest) (handed : History → Stage → Option ℕ) (s : Stage) (before : History) (c : ℕ) → IsContest contest → IsRightBy contest handed (s ∷ before) →
    is_excluded before c ≡ true → has_passed before c ≡ true
excluded-passed contest handed s [] c fair right h = cc
excluded-passed contest handed s (s' ∷ before) c fair right h =
    let left = eqb-false _ _ (step-vacant contest s' before (handed (s' ∷ before) s) s.action right.1.was_due) in
    either_or (excludes s'.action c) (is_excluded before c) (passes_on s'.action c) (has_passed before c)
    (action_excludes s'.action c (λ d is. left (last-fills contest handed s' before d fair right.0 is))) (excluded-passed contest handed s' before c fair right.0) h

-- a candidate whose surplus is transferred has reached the quota
reached_now : (contest : Contest) (s s' : Stage) (before : History) (c : ℕ) → IsSurplus contest (s' ∷ before) s.action ⊎ IsExclusion contest (s' ∷ before) s.action → transfers s.action c ≡ true →
    has_reached contest (s' ∷ before) c ≡ true
reached_now contest s s' before c (inl on) h = ap (has_reached contest (s' ∷ before)) (sym (eqb-true on.c c (ap (λ a. transfers a c) (sym on.is) ∙ h))) ∙ above-reached contest s' before on.c on.above
reached_now contest s s' before c (inr on) h = absurd (never _ (ap (λ a. transfers a c) (sym on.is) ∙ h))
  where
    never : (b : Bool) → transfers (cond b (ExcludeLast on.c) (Exclude on.c)) c ≡ true → ⊥
    never true k = cc
    never false k = cc

transferred_choice : (contest : Contest) (s s' : Stage) (before : History) (c : ℕ) (b : Bool) → transfers s.action c ≡ b →
    IsSurplus contest (s' ∷ before) s.action ⊎ IsExclusion contest (s' ∷ before) s.action →
    (is_transferred (s' ∷ before) c ≡ true → has_reached contest (s' ∷ before) c ≡ true) → (b || is_transferred (s' ∷ before) c) ≡ true → has_reached contest (s ∷ s' ∷ before) c ≡ true
transferred_choice contest s s' before c true e step old h = or_later (nat_le contest.quota (votes_at s c)) _ (reached_now contest s s' before c step e)
transferred_choice contest s s' before c false e step old h = or_later (nat_le contest.quota (votes_at s c)) _ (old h)

pub transferred-reached : (contest : Contest) (handed : History → Stage → Option ℕ) (stages : History) (c : ℕ) → IsRightBy contest handed stages → is_transferred stages c ≡ true →
    has_reached contest stages c ≡ true
transferred-reached contest handed [] c right h = cc
transferred-reached contest handed (s ∷ []) c right h =
    let none : false ≡ true = ap (λ a. transfers a c || false) (sym (step-first contest (handed [] s) s.action right.1.was_due)) ∙ h in cc
transferred-reached contest handed (s ∷ s' ∷ before) c right h =
    transferred_choice contest s s' before c _ refl (step-is contest s' before (handed (s' ∷ before) s) s.action right.1.was_due) (transferred-reached contest handed (s' ∷ before) c right.0) h

either_way : (a b : Bool) → (a || b) ≡ true → (a ≡ true) ⊎ (b ≡ true)
either_way true b h = inl refl
either_way false b h = inr h

-- a surplus belongs to a candidate who hasn't been excluded, and an exclusion to one whose surplus hasn't been transferred
apart_step : (contest : Contest) (handed : History → Stage → Option ℕ) (s s' : Stage) (before : History) (c : ℕ) → IsContest contest → AreRankings contest.papers →
    IsRightBy contest handed (s ∷ s' ∷ before) → In c contest.candidates →
    IsSurplus contest (s' ∷ before) s.action ⊎ IsExclusion contest (s' ∷ before) s.action → (is_transferred (s' ∷ before) c ≡ true → is_excluded (s' ∷ before) c ≡ true → ⊥) →
    (transfers s.action c ≡ true) ⊎ (is_transferred (s' ∷ before) c ≡ true) → (excludes s.action c ≡ true) ⊎ (is_excluded (s' ∷ before) c ≡ true) → ⊥
apart_step contest handed s s' before c fair rankings right is_candidate step old (inr t) (inr e) = old t e
apart_step contest handed s s' before c fair rankings right is_candidate (inl on) old (inl t) (inr e) =
    let same : on.c ≡ c = eqb-true on.c c (ap (λ a. transfers a c) (sym on.is) ∙ t) in
    let column = column-in on.c contest.candidates fair.candidate_set on.is_candidate in
    let passed : has_passed (s' ∷ before) on.c ≡ true = ap (has_passed (s' ∷ before)) same ∙ excluded-passed contest handed s (s' ∷ before) c fair right e in
    let none = passed-held contest handed (s' ∷ before) right.0 rankings on.c column.0 passed in
    omega (arith, on.above, none, surplus-held contest s' before on.c right.0.1.tells column on.above)
apart_step contest handed s s' before c fair rankings right is_candidate (inl on) old t (inl e) =
    let none : false ≡ true = ap (λ a. excludes a c) (sym on.is) ∙ e in cc
apart_step contest handed s s' before c fair rankings right is_candidate (inr on) old (inl t) e = never _ (ap (λ a. transfers a c) (sym on.is) ∙ t)
  where
    never : (b : Bool) → transfers (cond b (ExcludeLast on.c) (Exclude on.c)) c ≡ true → ⊥
    never true k = cc
    never false k = cc
apart_step contest handed s s' before c fair rankings right is_candidate (inr on) old (inr t) (inl e) =
    let same : on.c ≡ c = eqb-true on.c c (one _ (ap (λ a. excludes a c) (sym on.is) ∙ e)) in
    let chosen = reached-elected contest (s' ∷ before) c (transferred-reached contest handed (s' ∷ before) c right.0 t) in
    let other : is_elected contest (s' ∷ before) c ≡ false = ap (is_elected contest (s' ∷ before)) (sym same) ∙ on.not_elected in
    cc
  where
    one : (b : Bool) → excludes (cond b (ExcludeLast on.c) (Exclude on.c)) c ≡ true → eqb on.c c ≡ true
    one true k = k
    one false k = k

-- no candidate both has a surplus transferred and is excluded
pub transferred-apart : (contest : Contest) (handed : History → Stage → Option ℕ) (stages : History) (c : ℕ) → IsContest contest → AreRankings contest.papers → IsRightBy contest handed stages →
    In c contest.candidates →
    is_transferred stages c ≡ true → is_excluded stages c ≡ true → ⊥
transferred-apart contest handed [] c fair rankings right is_candidate t e = cc
transferred-apart contest handed (s ∷ []) c fair rankings right is_candidate t e =
    let none : false ≡ true = ap (λ a. transfers a c || false) (sym (step-first contest (handed [] s) s.action right.1.was_due)) ∙ t in cc
transferred-apart contest handed (s ∷ s' ∷ before) c fair rankings right is_candidate t e =
    apart_step contest handed s s' before c fair rankings right is_candidate (step-is contest s' before (handed (s' ∷ before) s) s.action right.1.was_due)
    (transferred-apart contest handed (s' ∷ before) c fair rankings right.0 is_candidate) (either_way _ _ t) (either_way _ _ e)

apart_choice : (a b : Bool) (x : ℕ) (l k : List ℕ) (n : ℕ) → (a ≡ true → b ≡ true → ⊥) → length l + length k ≤ n → length (cond a (x ∷ l) l) + length (cond b (x ∷ k) k) ≤ n + 1
apart_choice true true x l k n apart h = absurd (apart refl refl)
apart_choice true false x l k n apart h = omega (arith, h)
apart_choice false true x l k n apart h = omega (arith, h)
apart_choice false false x l k n apart h = omega (arith, h)

-- two tests such that no member passes both
pub filter-apart : (p q : ℕ → Bool) (xs : List ℕ) → ((c : ℕ) → In c xs → p c ≡ true → q c ≡ true → ⊥) → length (filter p xs) + length (filter q xs) ≤ length xs
filter-apart p q [] apart = omega arith
filter-apart p q (x ∷ xs) apart =
    let one = apart_choice (p x) (q x) x (filter p xs) (filter q xs) (length xs) (apart x (ap (λ b. b || list_any (nat_eq x) xs) (eq-eqb x x refl)))
    (filter-apart p q xs (λ c k. apart c (or_later (nat_eq c x) (list_any (nat_eq c) xs) k))) in
    omega (arith, one)

-- A count has at most one stage per candidate, plus one.
pub stages-few : (contest : Contest) (handed : History → Stage → Option ℕ) (stages : History) → IsContest contest → AreRankings contest.papers → IsRightBy contest handed stages →
    length stages ≤ length contest.candidates + 1
unfolding acted
stages-few contest handed stages fair rankings right =
    omega (
      arith,
      length-acted contest handed stages fair right,
      filter-apart (is_transferred stages) (is_excluded stages) contest.candidates
          (λ c k. transferred-apart contest handed stages c fair rankings right k),
    )
