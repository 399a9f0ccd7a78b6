-- A finished count has filled all seats, and until then some candidate continues.
use Rattle.std.proofs.Common.{◌≡◌, ℕ, ◌+◌, ◌<◌, ◌≤◌, ◌==◌, ◌||◌, ◌&&◌, ◌⊎◌, inl, inr, Bool, true, false, not, cond, eqb, nat_eq, nat_le, List, [], ◌∷◌, length, Option, Some, None, refl, sym}
use Rattle.std.proofs.Common.{ap, ◌∙◌, arith, subst}
use Rattle.std.specs.List.{list_any, filter}
use Rattle.std.proofs.lemmas.Bool.{eqb-true, eqb-false}
use Rattle.std.proofs.lemmas.List.Sums.{sum_by-le-sum_by}
use Rattle.count.specs.Law.Contest.{Contest, History, IsContest, votes_at}
use Rattle.count.specs.Advance.{end_of, end_after}
use Rattle.count.specs.Law.Laws.{FillsSeats, IsAmongSeveral}
use Rattle.count.specs.declared.count_to_end.CountEnd.TheVariants.{Finished as has_finished, LotNotAmong as misses_lot}
use Rattle.count.specs.Law.Right.{IsRightBy}
use Rattle.count.specs.Law.Due.{lot_for, due_after, due_for, among, with_surplus, highest, lowest}
use Rattle.count.specs.Law.Elected.{continuing_after, elected_after, vacancies_after, is_excluded, has_reached, undecided_fill, with_quota, undecided, excludes}
use Rattle.count.specs.declared.stages.Stage.{Stage}
use Rattle.count.specs.declared.stages.Action.TheVariants.{Exclude, ExcludeLast}
use Rattle.count.specs.declared.stages.TiedFor.{TiedFor}
use Rattle.count.specs.declared.stages.TiedFor.TheVariants.{Surplus as of_surplus, Exclusion as of_exclusion}
use Rattle.count.specs.declared.stages.Due.{Due}
use Rattle.count.specs.declared.stages.Due.TheVariants.{Act, Lot, Finished}
use Rattle.count.proofs.Law.ActionLemmas.{filter-le}
use Rattle.count.proofs.SumLemmas.{sum_by-add}
use Rattle.count.proofs.Law.CandidateSums.{columns-distinct, sum-one, sum-filter}
use Rattle.count.proofs.Law.StepLemmas.{IsSurplus, IsExclusion, step-is, step-first, step-vacant}
use Rattle.count.proofs.Law.QuotaLemmas.{few-reach}
use Rattle.count.proofs.Law.TieLemmas.{highest-some, lowest-some}

split_choice : (r e : Bool) (x n w u : ℕ) (l a b : List ℕ) → length l ≡ length a + length b →
    length (cond (r || not e) (x ∷ l) l) ≡ length (cond r (x ∷ a) a) + length (cond (not r && not e) (x ∷ b) b)
split_choice true e x n w u l a b h = omega (arith, h)
split_choice false true x n w u l a b h = h
split_choice false false x n w u l a b h = omega (arith, h)

-- the members that pass a test or fail another are those that pass the first, plus those that pass neither
split-length : (r e : ℕ → Bool) (xs : List ℕ) → length (filter (λ c. r c || not (e c)) xs) ≡ length (filter r xs) + length (filter (λ c. not (r c) && not (e c)) xs)
split-length r e [] = omega arith
split-length r e (x ∷ xs) = split_choice (r x) (e x) x 0 0 0 _ (filter r xs) (filter (λ c. not (r c) && not (e c)) xs) (split-length r e xs)

or_none : (a : Bool) → (a || false) ≡ a
or_none true = refl
or_none false = refl

filter-same : (p q : ℕ → Bool) (xs : List ℕ) → ((c : ℕ) → p c ≡ q c) → filter p xs ≡ filter q xs
filter-same p q [] h = refl
filter-same p q (x ∷ xs) h = ap (λ b. cond b (x ∷ filter p xs) (filter p xs)) (h x) ∙ ap (λ l. cond (q x) (x ∷ l) l) (filter-same p q xs h)

-- the number elected, depending on whether the undecided candidates fill the seats
pub elected_filled : (contest : Contest) (stages : History) → undecided_fill contest stages ≡ true → length (elected_after contest stages) ≡ contest.seats
elected_filled contest stages full =
    ap (λ f. length (filter (λ c. has_reached contest stages c || (f && not (is_excluded stages c))) contest.candidates)) full
    ∙ split-length (has_reached contest stages) (is_excluded stages) contest.candidates
    ∙ eqb-true _ _ full

pub elected_unfilled : (contest : Contest) (stages : History) → undecided_fill contest stages ≡ false → elected_after contest stages ≡ with_quota contest stages
elected_unfilled contest stages open_ =
    ap (λ f. filter (λ c. has_reached contest stages c || (f && not (is_excluded stages c))) contest.candidates) open_
    ∙ filter-same _ _ contest.candidates (λ c. or_none (has_reached contest stages c))

pub continuing_unfilled : (contest : Contest) (stages : History) → undecided_fill contest stages ≡ false → continuing_after contest stages ≡ undecided contest stages
continuing_unfilled contest stages open_ =
    ap (λ f. filter (λ c. not (has_reached contest stages c || (f && not (is_excluded stages c))) && not (is_excluded stages c)) contest.candidates) open_
    ∙ filter-same _ _ contest.candidates (λ c. ap (λ b. not b && not (is_excluded stages c)) (or_none (has_reached contest stages c)))

few_elected : (contest : Contest) (stages : History) (b : Bool) → undecided_fill contest stages ≡ b → length (with_quota contest stages) ≤ contest.seats →
    length (elected_after contest stages) ≤ contest.seats
few_elected contest stages true full few = omega (arith, elected_filled contest stages full)
few_elected contest stages false open_ few = omega (arith, ap length (elected_unfilled contest stages open_), few)

unfilled_choice : (contest : Contest) (stages : History) (b : Bool) → undecided_fill contest stages ≡ b → (vacancies_after contest stages == 0) ≡ false → b ≡ false
unfilled_choice contest stages true full left = absurd (eqb-false _ _ left (omega (arith, elected_filled contest stages full)))
unfilled_choice contest stages false full left = refl

-- if a vacancy remains, the undecided candidates don't fill the seats
pub vacant-unfilled : (contest : Contest) (stages : History) → (vacancies_after contest stages == 0) ≡ false → undecided_fill contest stages ≡ false
vacant-unfilled contest stages left = unfilled_choice contest stages _ refl left

-- the candidates with the quota, and the undecided ones
unfoldable pub in_race : Contest → History → List ℕ
in_race contest stages = filter (λ c. has_reached contest stages c || not (is_excluded stages c)) contest.candidates

pub race-parts : (contest : Contest) (stages : History) → length (in_race contest stages) ≡ length (with_quota contest stages) + length (undecided contest stages)
unfolding in_race
race-parts contest stages = split-length (has_reached contest stages) (is_excluded stages) contest.candidates

stays_choice : (l r e e' : Bool) → (e' ≡ true → e ≡ true) → (r || not e) ≡ true → ((l || r) || not e') ≡ true
stays_choice true r e e' h k = refl
stays_choice false true e e' h k = refl
stays_choice false false true e' h k = cc
stays_choice false false false true h k = let f = h refl in cc
stays_choice false false false false h k = refl

race_same : (contest : Contest) (s : Stage) (before : History) → ((c : ℕ) → excludes s.action c ≡ false) → length (in_race contest before) ≤ length (in_race contest (s ∷ before))
unfolding in_race
race_same contest s before none =
    filter-le (λ c. has_reached contest before c || not (is_excluded before c)) (λ c. has_reached contest (s ∷ before) c || not (is_excluded (s ∷ before) c))
    (λ c. stays_choice (nat_le contest.quota (votes_at s c)) (has_reached contest before c) (is_excluded before c) (is_excluded (s ∷ before) c)
    (λ k. ap (λ b. b || is_excluded before c) (sym (none c)) ∙ k)) contest.candidates

one_choice : (l r e d : Bool) → cond (r || not e) 1 0 ≤ cond ((l || r) || not (d || e)) 1 0 + cond d 1 0
one_choice true true e d = omega arith
one_choice true false true d = omega arith
one_choice true false false d = omega arith
one_choice false true e d = omega arith
one_choice false false true d = omega arith
one_choice false false false true = omega arith
one_choice false false false false = omega arith

at_most : (b : Bool) → cond b 1 0 ≤ 1
at_most true = omega arith
at_most false = omega arith

race_less : (contest : Contest) (s : Stage) (before : History) (d : ℕ) → IsContest contest → ((c : ℕ) → excludes s.action c ≡ eqb d c) →
    length (in_race contest before) ≤ length (in_race contest (s ∷ before)) + 1
unfolding in_race
race_less contest s before d fair is =
    let p : ℕ → Bool = λ c. has_reached contest before c || not (is_excluded before c) in
    let q : ℕ → Bool = λ c. has_reached contest (s ∷ before) c || not (is_excluded (s ∷ before) c) in
    let each = sum_by-le-sum_by (λ c. cond (p c) 1 0) (λ c. cond (q c) 1 0 + cond (eqb d c) 1 0) contest.candidates
    (λ c. subst (λ b. cond (p c) 1 0 ≤ cond (has_reached contest (s ∷ before) c || not (excludes s.action c || is_excluded before c)) 1 0 + cond b 1 0) (is c)
    (one_choice (nat_le contest.quota (votes_at s c)) (has_reached contest before c) (is_excluded before c) (excludes s.action c))) in
    let split = sum_by-add (λ c. cond (q c) 1 0) (λ c. cond (eqb d c) 1 0) contest.candidates in
    let one = sum-one d 1 contest.candidates (columns-distinct contest.candidates fair.candidate_set) in
    omega (arith, sum-filter p 1 contest.candidates, sum-filter q 1 contest.candidates, each, split, one, at_most (list_any (nat_eq d) contest.candidates))

exclusion_excludes : (b : Bool) (d c : ℕ) → excludes (cond b (ExcludeLast d) (Exclude d)) c ≡ eqb d c
exclusion_excludes true d c = refl
exclusion_excludes false d c = refl

race_step : (contest : Contest) (s s' : Stage) (before : History) → IsContest contest → (vacancies_after contest (s' ∷ before) == 0) ≡ false →
    IsSurplus contest (s' ∷ before) s.action ⊎ IsExclusion contest (s' ∷ before) s.action →
    contest.seats ≤ length (in_race contest (s' ∷ before)) → contest.seats ≤ length (in_race contest (s ∷ s' ∷ before))
race_step contest s s' before fair left (inl on) enough = omega (arith, enough, race_same contest s (s' ∷ before) (λ c. ap (λ a. excludes a c) on.is))
race_step contest s s' before fair left (inr on) enough =
    let open_ = eqb-false _ _ (vacant-unfilled contest (s' ∷ before) left) in
    let more : contest.seats < length (in_race contest (s' ∷ before)) = omega (arith, enough, open_, race-parts contest (s' ∷ before)) in
    omega (arith, more, race_less contest s (s' ∷ before) on.c fair (λ c. ap (λ a. excludes a c) on.is ∙ exclusion_excludes _ on.c c))

all_race : (contest : Contest) (cs : List ℕ) → length (filter (λ c. has_reached contest [] c || not (is_excluded [] c)) cs) ≡ length cs
all_race contest [] = refl
all_race contest (c ∷ cs) = omega (arith, all_race contest cs)

-- The candidates with the quota and the undecided ones are together always enough to fill the seats.
pub race-enough : (contest : Contest) (handed : History → Stage → Option ℕ) (stages : History) → IsContest contest → IsRightBy contest handed stages → contest.seats ≤ length (in_race contest stages)
unfolding in_race
race-enough contest handed [] fair right = omega (arith, all_race contest contest.candidates, fair.contested)
race-enough contest handed (s ∷ []) fair right =
    let first = step-first contest (handed [] s) s.action right.1.was_due in
    omega (arith, race-enough contest handed [] fair tt, race_same contest s [] (λ c. ap (λ a. excludes a c) first))
race-enough contest handed (s ∷ s' ∷ before) fair right =
    race_step contest s s' before fair (step-vacant contest s' before (handed (s' ∷ before) s) s.action right.1.was_due) (step-is contest s' before (handed (s' ∷ before) s) s.action right.1.was_due)
    (race-enough contest handed (s' ∷ before) fair right.0)

never_among : (contest : Contest) (stages : History) (kind : TiedFor) (group : List ℕ) → among contest stages kind group ≡ Finished → ⊥
never_among contest stages kind [] h = cc
never_among contest stages kind (c ∷ []) h = cc
never_among contest stages kind (c ∷ d ∷ rest) h = cc

never_due : (contest : Contest) (stages : History) (group : List ℕ) → due_for contest stages group ≡ Finished → ⊥
never_due contest stages [] h = never_among contest stages of_exclusion (lowest stages (continuing_after contest stages)) h
never_due contest stages (c ∷ cs) h = never_among contest stages of_surplus (highest stages (c ∷ cs)) h

finished_choice : (contest : Contest) (s : Stage) (before : History) (b : Bool) → (vacancies_after contest (s ∷ before) == 0) ≡ b → length (with_quota contest (s ∷ before)) ≤ contest.seats →
    cond b Finished (due_for contest (s ∷ before) (with_surplus contest (s ∷ before))) ≡ Finished → length (elected_after contest (s ∷ before)) ≡ contest.seats
finished_choice contest s before true full few h = omega (arith, eqb-true _ _ full, few_elected contest (s ∷ before) _ refl few)
finished_choice contest s before false left few h = absurd (never_due contest (s ∷ before) (with_surplus contest (s ∷ before)) h)

-- If a count is finished, as many candidates are elected as there are seats.
pub finished-elected : (contest : Contest) (handed : History → Stage → Option ℕ) (stages : History) → IsContest contest → IsRightBy contest handed stages →
    due_after contest stages ≡ Finished → length (elected_after contest stages) ≡ contest.seats
finished-elected contest handed [] fair right h = cc
finished-elected contest handed (s ∷ before) fair right h = finished_choice contest s before _ refl (few-reach contest handed (s ∷ before) fair right) h

among_several : (contest : Contest) (stages : History) (kind : TiedFor) (group : List ℕ) → (group ≡ [] → ⊥) → IsAmongSeveral (among contest stages kind group)
among_several contest stages kind [] some = absurd (some refl)
among_several contest stages kind (c ∷ []) some = tt
among_several contest stages kind (c ∷ d ∷ rest) some = omega arith

lowest_some : (stages : History) (group : List ℕ) → 0 < length group → lowest stages group ≡ [] → ⊥
lowest_some stages [] some = absurd (omega (arith, some))
lowest_some stages (x ∷ xs) some = lowest-some stages x xs

due_several : (contest : Contest) (stages : History) (group : List ℕ) → 0 < length (continuing_after contest stages) → IsAmongSeveral (due_for contest stages group)
due_several contest stages [] some = among_several contest stages of_exclusion (lowest stages (continuing_after contest stages)) (lowest_some stages (continuing_after contest stages) some)
due_several contest stages (c ∷ cs) some = among_several contest stages of_surplus (highest stages (c ∷ cs)) (highest-some stages c cs)

several_choice : (contest : Contest) (s : Stage) (before : History) (b : Bool) → (vacancies_after contest (s ∷ before) == 0) ≡ b → contest.seats ≤ length (in_race contest (s ∷ before)) →
    IsAmongSeveral (cond b Finished (due_for contest (s ∷ before) (with_surplus contest (s ∷ before))))
several_choice contest s before true full enough = tt
several_choice contest s before false left enough =
    let stages = s ∷ before in
    let open_ = vacant-unfilled contest stages left in
    let seats_left = eqb-false _ _ left in
    let chosen : length (elected_after contest stages) ≡ length (with_quota contest stages) = ap length (elected_unfilled contest stages open_) in
    let others : length (continuing_after contest stages) ≡ length (undecided contest stages) = ap length (continuing_unfilled contest stages open_) in
    due_several contest stages (with_surplus contest stages) (omega (arith, seats_left, chosen, others, enough, race-parts contest stages))

-- While a vacancy remains, some candidate continues; so if a lot is due, two or more are tied.
pub lots-several : (contest : Contest) (handed : History → Stage → Option ℕ) (stages : History) → IsContest contest → IsRightBy contest handed stages → IsAmongSeveral (due_after contest stages)
lots-several contest handed [] fair right = tt
lots-several contest handed (s ∷ before) fair right = several_choice contest s before _ refl (race-enough contest handed (s ∷ before) fair right)

end_finished : (lot : Option ℕ) (d : Due) → end_of lot d ≡ Some has_finished → d ≡ Finished
end_finished lot (Act action) h = cc
end_finished lot Finished h = refl
end_finished None (Lot n kind tied) h = cc
end_finished (Some c) (Lot n kind tied) h = not_finished (list_any (nat_eq c) tied) n h
  where
    not_finished : (b : Bool) (n : ℕ) → cond b None (Some (misses_lot n)) ≡ Some has_finished → Lot n kind tied ≡ Finished
    not_finished true n h = cc
    not_finished false n h = cc

-- the same holds for a count that ended because it was finished
pub finished-filled : (contest : Contest) (handed : History → Stage → Option ℕ) (lots : List (ℕ × ℕ)) (stages : History) → IsContest contest → IsRightBy contest handed stages →
    end_after contest lots stages ≡ Some has_finished → FillsSeats contest stages
finished-filled contest handed lots stages fair right h = finished-elected contest handed stages fair right (end_finished (lot_for lots (length stages + 1)) (due_after contest stages) h)
