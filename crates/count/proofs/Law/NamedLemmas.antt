-- A candidate named as elected is elected, and the marks of a stage show who is elected.
use Rattle.std.proofs.Common.{◌≡◌, ℕ, ◌-◌, ◌<◌, ◌≤◌, ◌==◌, ◌||◌, ◌&&◌, ◌⊎◌, inl, inr, Bool, true, false, not, cond, eqb, nat_eq, nat_le, List, [], ◌∷◌, length, refl, sym, ap, ◌∙◌, arith, Option}
use Rattle.std.specs.List.{list_any, filter, sum_by}
use Rattle.std.proofs.lemmas.Bool.{eqb-true, leb-false, lt-leb, ne_eqb}
use Rattle.std.proofs.lemmas.List.Sums.{sum_by-le-sum_by}
use Rattle.count.specs.Law.Contest.{Contest, History, IsContest, In, votes_at}
use Rattle.count.specs.Law.Elected.{is_elected, continuing_after, vacancies_after, has_reached, is_excluded, is_transferred, undecided_fill, transfers, excludes}
use Rattle.count.specs.Law.Figures.{value_with}
use Rattle.count.specs.Law.Places.{Place, place, moved, next_available}
use Rattle.count.specs.Law.Due.{exclusion}
use Rattle.count.specs.Law.Right.{IsRightBy}
use Rattle.count.specs.Marks.{is_named}
use Rattle.count.specs.declared.stages.Stage.{Stage}
use Rattle.count.specs.declared.stages.Action.TheVariants.{Exclude, ExcludeLast}
use Rattle.count.proofs.ChoiceLemmas.{or_later, or_false, within_value}
use Rattle.count.proofs.Law.ActionLemmas.{in-filter, column-in}
use Rattle.count.proofs.Law.FinishLemmas.{vacant-unfilled}
use Rattle.count.proofs.Law.NewlyLemmas.{member-filter}
use Rattle.count.proofs.Law.StepLemmas.{IsSurplus, IsExclusion, step-is, step-first, step-vacant, told-votes, reached-elected, votes-held}
use Rattle.count.proofs.Law.ValueLemmas.{held}
use Rattle.count.proofs.Law.LengthLemmas.{not_reached, transferred-reached}

-- ---- elected candidates stay elected

all-pass : (xs : List ℕ) → length (filter (λ c. true && true) xs) ≡ length xs
all-pass [] = refl
all-pass (x ∷ xs) = omega (arith, all-pass xs)

none-pass : (xs : List ℕ) → length (filter (λ c. false) xs) ≡ 0
none-pass [] = refl
none-pass (x ∷ xs) = none-pass xs

-- before the first stage no candidate is elected, because there are more candidates than seats
unfilled-first : (contest : Contest) → IsContest contest → undecided_fill contest [] ≡ false
unfilled-first contest fair =
    ne_eqb _ _ (λ same. omega (arith, same, all-pass contest.candidates, none-pass contest.candidates, fair.contested))

pub none-elected : (contest : Contest) (c : ℕ) → IsContest contest → is_elected contest [] c ≡ false
none-elected contest c fair = ap (λ b. false || (b && not (is_excluded [] c))) (unfilled-first contest fair)

-- if another stage follows, only those who have reached the quota are elected
open-elected : (contest : Contest) (stages : History) (c : ℕ) → undecided_fill contest stages ≡ false → is_elected contest stages c ≡ has_reached contest stages c
open-elected contest stages c open_ = ap (λ b. has_reached contest stages c || (b && not (is_excluded stages c))) open_ ∙ or_none (has_reached contest stages c)
  where
    or_none : (b : Bool) → (b || false) ≡ b
    or_none true = refl
    or_none false = refl

before-open : (contest : Contest) (handed : History → Stage → Option ℕ) (s : Stage) (before : History) → IsContest contest → IsRightBy contest handed (s ∷ before) →
    undecided_fill contest before ≡ false
before-open contest handed s [] fair right = unfilled-first contest fair
before-open contest handed s (s' ∷ before) fair right = vacant-unfilled contest (s' ∷ before) (step-vacant contest s' before (handed (s' ∷ before) s) s.action right.1.was_due)

pub elected-stays : (contest : Contest) (handed : History → Stage → Option ℕ) (s : Stage) (before : History) (c : ℕ) → IsContest contest → IsRightBy contest handed (s ∷ before) →
    is_elected contest before c ≡ true → is_elected contest (s ∷ before) c ≡ true
elected-stays contest handed s before c fair right h =
    let reached : has_reached contest before c ≡ true = sym (open-elected contest before c (before-open contest handed s before fair right)) ∙ h in
    reached-elected contest (s ∷ before) c (or_later (nat_le contest.quota (votes_at s c)) (has_reached contest before c) reached)

-- ---- candidates named as elected

-- a member of a list is in the twice filtered list if and only if it passes both tests
filtered_choice : (c : ℕ) (p q : ℕ → Bool) (xs : List ℕ) (b t : Bool) → q c ≡ b → list_any (nat_eq c) (filter p (filter q xs)) ≡ t → In c xs → t ≡ (b && p c)
filtered_choice c p q xs true t e f h = sym f ∙ member-filter c p (filter q xs) (member-filter c q xs h ∙ e)
filtered_choice c p q xs false true e f h = let k = (in-filter c q xs (in-filter c p (filter q xs) f).1).0 in cc
filtered_choice c p q xs false false e f h = refl

named_choice : (after before : Bool) → (before ≡ true → after ≡ true) → ((after && not before) || before) ≡ after
named_choice true true h = refl
named_choice true false h = refl
named_choice false true h = let k = h refl in cc
named_choice false false h = refl

pub named-elected : (contest : Contest) (handed : History → Stage → Option ℕ) (stages : History) (c : ℕ) → IsContest contest → IsRightBy contest handed stages → In c contest.candidates →
    is_named stages c ≡ is_elected contest stages c
named-elected contest handed [] c fair right known = sym (none-elected contest c fair)
named-elected contest handed (s ∷ before) c fair right known =
    ap (λ (e : List ℕ). list_any (nat_eq c) e || is_named before c) right.1.tells.elected_told
    ∙ ap (λ b. b || is_named before c) (filtered_choice c (λ d. not (is_elected contest before d)) (is_elected contest (s ∷ before)) contest.candidates _ _ refl refl known)
    ∙ ap (λ b. (is_elected contest (s ∷ before) c && not (is_elected contest before c)) || b) (named-elected contest handed before c fair right.0 known)
    ∙ named_choice (is_elected contest (s ∷ before) c) (is_elected contest before c) (elected-stays contest handed s before c fair right)

-- ---- candidates acted on

-- an exclusion transfers nothing to the excluded candidate
still_at : (d next : ℕ) (at : Place) (b : Bool) → eqb at.holder d ≡ b →
    value_with d (let new : Place = cond b (record { holder = next; value = at.value }) at in new) ≤ value_with d at
still_at d next at true e =
    let own : value_with d at ≡ at.value = ap (λ b. cond b at.value 0) e in
    omega (arith, own, within_value (eqb next d) at.value)
still_at d next at false e = omega arith

held-excluded : (contest : Contest) (s : Stage) (before : History) (d : ℕ) (b : Bool) → s.action ≡ cond b (ExcludeLast d) (Exclude d) → held contest (s ∷ before) d ≤ held contest before d
held-excluded contest s before d true is =
    let same : held contest (s ∷ before) d ≡ held contest before d = ap (λ a. sum_by (λ p. value_with d (moved contest before a p (place contest before p))) contest.papers) is in
    omega (arith, same)
held-excluded contest s before d false is =
    let same : held contest (s ∷ before) d ≡ sum_by (λ p. value_with d (moved contest before (Exclude d) p (place contest before p))) contest.papers =
    ap (λ a. sum_by (λ p. value_with d (moved contest before a p (place contest before p))) contest.papers) is in
    let less = sum_by-le-sum_by (λ p. value_with d (moved contest before (Exclude d) p (place contest before p))) (λ p. value_with d (place contest before p)) contest.papers
    (λ p. still_at d (next_available contest before d p) (place contest before p) _ refl) in
    omega (arith, same, less)

untransferred_by : (b : Bool) (d c : ℕ) → transfers (cond b (ExcludeLast d) (Exclude d)) c ≡ false
untransferred_by true d c = refl
untransferred_by false d c = refl

excludes_one : (b : Bool) (c d : ℕ) → excludes (cond b (ExcludeLast c) (Exclude c)) d ≡ eqb c d
excludes_one true c d = refl
excludes_one false c d = refl

not_gone : (contest : Contest) (handed : History → Stage → Option ℕ) (stages : History) (d : ℕ) (b : Bool) → is_transferred stages d ≡ b → IsRightBy contest handed stages →
    is_elected contest stages d ≡ false → b ≡ false
not_gone contest handed stages d true gone right out = let k = reached-elected contest stages d (transferred-reached contest handed stages d right gone) in cc
not_gone contest handed stages d false gone right out = refl

-- an excluded candidate isn't elected at that stage: the votes are no more than before, and those were below the quota
excluded_step : (contest : Contest) (handed : History → Stage → Option ℕ) (s s' : Stage) (before : History) (d : ℕ) → IsContest contest → IsRightBy contest handed (s ∷ s' ∷ before) →
    IsSurplus contest (s' ∷ before) s.action ⊎ IsExclusion contest (s' ∷ before) s.action → excludes s.action d ≡ true → is_elected contest (s ∷ s' ∷ before) d ≡ false
excluded_step contest handed s s' before d fair right (inl on) h = let none : false ≡ true = ap (λ a. excludes a d) (sym on.is) ∙ h in cc
excluded_step contest handed s s' before d fair right (inr on) h =
    let stages : History = s' ∷ before in
    let b : Bool = length (continuing_after contest stages) - 1 == vacancies_after contest stages in
    let same : on.c ≡ d = eqb-true on.c d (sym (excludes_one b on.c d) ∙ ap (λ a. excludes a d) (sym on.is) ∙ h) in
    let is : s.action ≡ cond b (ExcludeLast d) (Exclude d) = on.is ∙ ap (exclusion contest stages) same in
    let out : is_elected contest stages d ≡ false = ap (is_elected contest stages) (sym same) ∙ on.not_elected in
    let column = column-in d contest.candidates fair.candidate_set (ap (λ c. list_any (nat_eq c) contest.candidates) (sym same) ∙ on.is_candidate) in
    let stays : is_transferred stages d ≡ false = not_gone contest handed stages d _ refl right.0 out in
    let now_stays : is_transferred (s ∷ stages) d ≡ false = ap (λ a. transfers a d || is_transferred stages d) is ∙ ap (λ t. t || is_transferred stages d) (untransferred_by b d d) ∙ stays in
    let below = or_false (nat_le contest.quota (votes_at s' d)) (has_reached contest before d) (not_reached contest stages d _ refl out) in
    let less : votes_at s d < contest.quota =
    omega (
      arith,
      leb-false contest.quota (votes_at s' d) below.0,
      told-votes contest s' before d right.0.1.tells column,
      told-votes contest s stages d right.1.tells column,
      votes-held contest stages d stays,
      votes-held contest (s ∷ stages) d now_stays,
      held-excluded contest s stages d b is,
    ) in
    let reached : has_reached contest (s ∷ stages) d ≡ false = ap (λ t. t || has_reached contest stages d) (lt-leb contest.quota (votes_at s d) less) ∙ not_reached contest stages d _ refl out in
    ap (λ t. t || (undecided_fill contest (s ∷ stages) && not (excludes s.action d || is_excluded stages d))) reached
    ∙ ap (λ t. undecided_fill contest (s ∷ stages) && not (t || is_excluded stages d)) h
    ∙ and_false (undecided_fill contest (s ∷ stages))
  where
    and_false : (t : Bool) → (t && false) ≡ false
    and_false true = refl
    and_false false = refl

pub excluded-unelected : (contest : Contest) (handed : History → Stage → Option ℕ) (s : Stage) (before : History) (d : ℕ) → IsContest contest → IsRightBy contest handed (s ∷ before) →
    excludes s.action d ≡ true → is_elected contest (s ∷ before) d ≡ false
excluded-unelected contest handed s [] d fair right h = let none : false ≡ true = ap (λ a. excludes a d) (sym (step-first contest (handed [] s) s.action right.1.was_due)) ∙ h in cc
excluded-unelected contest handed s (s' ∷ before) d fair right h =
    excluded_step contest handed s s' before d fair right (step-is contest s' before (handed (s' ∷ before) s) s.action right.1.was_due) h

-- a candidate whose surplus is transferred is elected
surplus_step : (contest : Contest) (handed : History → Stage → Option ℕ) (s s' : Stage) (before : History) (d : ℕ) → IsContest contest → IsRightBy contest handed (s ∷ s' ∷ before) →
    IsSurplus contest (s' ∷ before) s.action ⊎ IsExclusion contest (s' ∷ before) s.action → transfers s.action d ≡ true → is_elected contest (s ∷ s' ∷ before) d ≡ true
surplus_step contest handed s s' before d fair right (inl on) h =
    let same : on.c ≡ d = eqb-true on.c d (ap (λ a. transfers a d) (sym on.is) ∙ h) in
    elected-stays contest handed s (s' ∷ before) d fair right (ap (is_elected contest (s' ∷ before)) (sym same) ∙ on.elected)
surplus_step contest handed s s' before d fair right (inr on) h =
    let b : Bool = length (continuing_after contest (s' ∷ before)) - 1 == vacancies_after contest (s' ∷ before) in
    let none : false ≡ true = sym (untransferred_by b on.c d) ∙ ap (λ a. transfers a d) (sym on.is) ∙ h in cc

pub surplus-elected : (contest : Contest) (handed : History → Stage → Option ℕ) (s : Stage) (before : History) (d : ℕ) → IsContest contest → IsRightBy contest handed (s ∷ before) →
    transfers s.action d ≡ true → is_elected contest (s ∷ before) d ≡ true
surplus-elected contest handed s [] d fair right h = let none : false ≡ true = ap (λ a. transfers a d) (sym (step-first contest (handed [] s) s.action right.1.was_due)) ∙ h in cc
surplus-elected contest handed s (s' ∷ before) d fair right h =
    surplus_step contest handed s s' before d fair right (step-is contest s' before (handed (s' ∷ before) s) s.action right.1.was_due) h
