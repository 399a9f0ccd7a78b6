-- The candidates of actions, and the maximum number of actions.
use Rattle.std.proofs.Common.{◌≡◌, ℕ, ◌+◌, ◌-◌, ◌*◌, ◌<◌, ◌≤◌, ◌||◌, ◌&&◌, ◌⊎◌, inl, inr, Bool, true, false, not, cond, eqb, nat_eq, nat_lt, List, [], ◌∷◌, length, map, Option, Some, None}
use Rattle.std.proofs.Common.{refl, sym, ap, ◌∙◌, arith, slice_index}
use Rattle.std.specs.List.{list_any, filter, sum_by}
use Rattle.std.proofs.lemmas.Bool.{eq-eqb, eqb-true, ltb-true}
use Rattle.std.proofs.lemmas.List.{get_or_default}
use Rattle.std.proofs.lemmas.Map.Views.{Contains-from_any}
use Rattle.std.proofs.lemmas.List.FromFn.{get_or-map-range_with_len}
use Rattle.paper.specs.Columns.{IsCandidateSet, IsColumn}
use Rattle.count.specs.Law.Contest.{Contest, History, IsContest, In, newest_votes, numbers}
use Rattle.count.specs.Law.Right.{IsRight, IsRightBy, IsNext, Tells}
use Rattle.count.specs.Law.Due.{due_after, due_for, drawn, among, with_surplus, highest, lowest, action_on, lot_for, is_above}
use Rattle.count.specs.Law.Elected.{continuing_after, elected_after, is_transferred, is_excluded, is_elected, transfers, excludes}
use Rattle.count.specs.Law.Figures.{votes_after, value_with}
use Rattle.count.specs.Law.Places.{place}
use Rattle.count.specs.Advance.{AdvancesBy}
use Rattle.count.specs.declared.stages.Stage.{Stage}
use Rattle.count.specs.declared.stages.Action.{Action}
use Rattle.count.specs.declared.stages.Action.TheVariants.{Exclude, ExcludeLast}
use Rattle.count.specs.declared.stages.TiedFor.{TiedFor}
use Rattle.count.specs.declared.stages.TiedFor.TheVariants.{Surplus as of_surplus, Exclusion as of_exclusion}
use Rattle.count.specs.declared.stages.Due.TheVariants.{Finished}
use Rattle.count.proofs.ChoiceLemmas.{and_true, not_true, or_later}

in_choice : (c x : ℕ) (p : ℕ → Bool) (xs : List ℕ) (b t : Bool) → p x ≡ b → eqb c x ≡ t →
    (list_any (nat_eq c) (filter p xs) ≡ true → (p c ≡ true) × In c xs) →
    list_any (nat_eq c) (cond b (x ∷ filter p xs) (filter p xs)) ≡ true → (p c ≡ true) × ((t || list_any (nat_eq c) xs) ≡ true)
in_choice c x p xs true true e same ih h = (ap p (eqb-true c x same) ∙ e, refl)
in_choice c x p xs true false e same ih h = ih (ap (λ t. t || list_any (nat_eq c) (filter p xs)) (sym same) ∙ h)
in_choice c x p xs false true e same ih h = ((ih h).0, refl)
in_choice c x p xs false false e same ih h = ih h

-- a member of a filtered list passes the test, and is in the list
pub in-filter : (c : ℕ) (p : ℕ → Bool) (xs : List ℕ) → In c (filter p xs) → (p c ≡ true) × In c xs
in-filter c p [] h = cc
in-filter c p (x ∷ xs) h = in_choice c x p xs (p x) (eqb c x) refl refl (in-filter c p xs) h

-- a drawn action acts on a member of the group
pub record IsOn (contest : Contest) (stages : History) (kind : TiedFor) (group : List ℕ) (action : Action) : Type 0 where
  pub candidate : ℕ
  pub in_group : In candidate group
  pub is : action ≡ action_on contest stages kind candidate

drawn_lot : (contest : Contest) (stages : History) (kind : TiedFor) (group : List ℕ) (x : ℕ) (b : Bool) (action : Action) →
    list_any (nat_eq x) group ≡ b → cond b (Some (action_on contest stages kind x)) None ≡ Some action → IsOn contest stages kind group action
drawn_lot contest stages kind group x true action e h = record { candidate = x; in_group = e; is = cc }
drawn_lot contest stages kind group x false action e h = cc

drawn-among : (contest : Contest) (stages : History) (lot : Option ℕ) (kind : TiedFor) (group : List ℕ) (action : Action) →
    drawn contest stages lot (among contest stages kind group) ≡ Some action → IsOn contest stages kind group action
drawn-among contest stages None kind [] action h = cc
drawn-among contest stages (Some x) kind [] action h = cc
drawn-among contest stages lot kind (c ∷ []) action h = record { candidate = c; in_group = ap (λ t. t || false) (eq-eqb c c refl); is = cc }
drawn-among contest stages None kind (c ∷ d ∷ tied) action h = cc
drawn-among contest stages (Some x) kind (c ∷ d ∷ tied) action h = drawn_lot contest stages kind (c ∷ d ∷ tied) x _ action refl h

-- the action is the surplus of a candidate who has one, or the exclusion of a candidate who continues
drawn-due_for : (contest : Contest) (stages : History) (lot : Option ℕ) (group : List ℕ) (action : Action) →
    drawn contest stages lot (due_for contest stages group) ≡ Some action →
    IsOn contest stages of_surplus group action ⊎ IsOn contest stages of_exclusion (continuing_after contest stages) action
drawn-due_for contest stages lot [] action h =
    let on = drawn-among contest stages lot of_exclusion (lowest stages (continuing_after contest stages)) action h in
    inr (record {
      candidate = on.candidate;
      in_group = (in-filter on.candidate (λ x. not (list_any (λ d. is_above stages x d) (continuing_after contest stages)))
          (continuing_after contest stages) on.in_group).1;
      is = on.is;
    })
drawn-due_for contest stages lot (c ∷ cs) action h =
    let on = drawn-among contest stages lot of_surplus (highest stages (c ∷ cs)) action h in
    inl (record { candidate = on.candidate; in_group = (in-filter on.candidate (λ x. not (list_any (λ d. is_above stages d x) (c ∷ cs))) (c ∷ cs) on.in_group).1; is = on.is })

drawn_choice : (contest : Contest) (stages : History) (lot : Option ℕ) (b : Bool) (group : List ℕ) (action : Action) →
    drawn contest stages lot (cond b Finished (due_for contest stages group)) ≡ Some action →
    IsOn contest stages of_surplus group action ⊎ IsOn contest stages of_exclusion (continuing_after contest stages) action
drawn_choice contest stages lot true group action h = cc
drawn_choice contest stages lot false group action h = drawn-due_for contest stages lot group action h

pub drawn-due : (contest : Contest) (s : Stage) (before : History) (lot : Option ℕ) (action : Action) →
    drawn contest (s ∷ before) lot (due_after contest (s ∷ before)) ≡ Some action →
    IsOn contest (s ∷ before) of_surplus (with_surplus contest (s ∷ before)) action ⊎ IsOn contest (s ∷ before) of_exclusion (continuing_after contest (s ∷ before)) action
drawn-due contest s before lot action h = drawn_choice contest (s ∷ before) lot _ (with_surplus contest (s ∷ before)) action h

-- another element passes a weaker test
count_choice : (p q : ℕ → Bool) (x : ℕ) (xs : List ℕ) (a b : Bool) → (a ≡ true → b ≡ true) →
    (n m : ℕ) → n ≤ m → length (cond a (x ∷ []) []) + n ≤ length (cond b (x ∷ []) []) + m
count_choice p q x xs true true h n m le = omega (arith, le)
count_choice p q x xs true false h n m le = absurd (let e = h refl in cc)
count_choice p q x xs false true h n m le = omega (arith, le)
count_choice p q x xs false false h n m le = omega (arith, le)

length_choice : (b : Bool) (x : ℕ) (xs : List ℕ) → length (cond b (x ∷ xs) xs) ≡ length (cond b (x ∷ []) []) + length xs
length_choice true x xs = omega arith
length_choice false x xs = omega arith

pub filter-le : (p q : ℕ → Bool) (weaker : (x : ℕ) → p x ≡ true → q x ≡ true) (xs : List ℕ) → length (filter p xs) ≤ length (filter q xs)
filter-le p q weaker [] = omega arith
filter-le p q weaker (x ∷ xs) =
    omega (arith, length_choice (p x) x (filter p xs), length_choice (q x) x (filter q xs), count_choice p q x xs (p x) (q x) (weaker x) _ _ (filter-le p q weaker xs))

more_choice : (p q : ℕ → Bool) (c x : ℕ) (xs : List ℕ) (t : Bool) → (weaker : (y : ℕ) → p y ≡ true → q y ≡ true) → p c ≡ false → q c ≡ true → eqb c x ≡ t →
    (In c xs → length (filter p xs) + 1 ≤ length (filter q xs)) → (t || list_any (nat_eq c) xs) ≡ true →
    length (filter p (x ∷ xs)) + 1 ≤ length (filter q (x ∷ xs))
more_choice p q c x xs true weaker fails passes same ih h =
    let px : p x ≡ false = ap p (sym (eqb-true c x same)) ∙ fails in
    let qx : q x ≡ true = ap q (sym (eqb-true c x same)) ∙ passes in
    let left : length (filter p (x ∷ xs)) ≡ length (filter p xs) = ap (λ b. length (cond b (x ∷ filter p xs) (filter p xs))) px in
    let right : length (filter q (x ∷ xs)) ≡ length (x ∷ filter q xs) = ap (λ b. length (cond b (x ∷ filter q xs) (filter q xs))) qx in
    omega (arith, left, right, filter-le p q weaker xs)
more_choice p q c x xs false weaker fails passes same ih h =
    omega (arith, length_choice (p x) x (filter p xs), length_choice (q x) x (filter q xs), count_choice p q x xs (p x) (q x) (weaker x) _ _ (ih h))

pub filter-more : (p q : ℕ → Bool) (c : ℕ) (xs : List ℕ) → ((y : ℕ) → p y ≡ true → q y ≡ true) → p c ≡ false → q c ≡ true → In c xs →
    length (filter p xs) + 1 ≤ length (filter q xs)
filter-more p q c [] weaker fails passes h = cc
filter-more p q c (x ∷ xs) weaker fails passes h = more_choice p q c x xs (eqb c x) weaker fails passes refl (filter-more p q c xs weaker fails passes) h

-- a member of a set of columns is a column
pub column-in : (c : ℕ) (xs : List ℕ) → IsCandidateSet xs → In c xs → IsColumn c
column-in c xs set h =
    let at = Contains-from_any {eq = eqb} eqb-true c xs h in
    let same : slice_index xs at.0 ≡ c = get_or_default xs at.0 0 c at.1 ∙ at.2 in
    let column = set.within at.0 at.1 in
    (omega (arith, column.0, same), omega (arith, column.1, same))

-- the element for a given number in a list built over all numbers
pub at_number : (f : ℕ → ℕ) (c : ℕ) → IsColumn c → slice_index (map f numbers) (c - 1) ≡ f c
at_number f c column = get_or-map-range_with_len f 1 30 (c - 1) c 0 (omega (arith, column.0, column.1)) (omega (arith, column.0))

-- a candidate whose surplus is transferred has exactly the quota
not_twice : (contest : Contest) (s : Stage) (before : History) (c : ℕ) (b : Bool) →
    Tells contest before s → IsColumn c → is_transferred (s ∷ before) c ≡ b →
    nat_lt contest.quota (newest_votes (s ∷ before) c) ≡ true → b ≡ false
not_twice contest s before c true tells column gone more =
    let told : newest_votes (s ∷ before) c ≡ votes_after contest (s ∷ before) c = ap (λ vs. slice_index vs (c - 1)) tells.votes_told ∙ at_number (votes_after contest (s ∷ before)) c column in
    let quota_left : votes_after contest (s ∷ before) c ≡ contest.quota = ap (λ b. cond b contest.quota (sum_by (λ paper. value_with c (place contest (s ∷ before) paper)) contest.papers)) gone in
    absurd (omega (arith, ltb-true _ _ more, told, quota_left))
not_twice contest s before c false tells column gone more = refl

-- the number of candidates whose surplus is transferred, plus the number excluded
unfoldable pub acted : Contest → History → ℕ
acted contest stages = length (filter (is_transferred stages) contest.candidates) + length (filter (is_excluded stages) contest.candidates)

exclusion_excludes : (b : Bool) (c : ℕ) → excludes (cond b (ExcludeLast c) (Exclude c)) c ≡ true
exclusion_excludes true c = eq-eqb c c refl
exclusion_excludes false c = eq-eqb c c refl

pub acted-more : (contest : Contest) (s s' : Stage) (before : History) (lot : Option ℕ) →
    IsContest contest → Tells contest before s' → IsNext contest (s' ∷ before) lot s → acted contest (s' ∷ before) + 1 ≤ acted contest (s ∷ s' ∷ before)
unfolding acted
acted-more contest s s' before lot fair tells next =
    let stages = s' ∷ before in
    let transferred_le = filter-le (is_transferred stages) (is_transferred (s ∷ stages)) (λ x h. or_later (transfers s.action x) _ h) contest.candidates in
    let excluded_le = filter-le (is_excluded stages) (is_excluded (s ∷ stages)) (λ x h. or_later (excludes s.action x) _ h) contest.candidates in
    elim (drawn-due contest s' before lot s.action next.was_due) [
      | inl on ↦
          let surplus = in-filter on.candidate (λ c. nat_lt contest.quota (newest_votes stages c)) (elected_after contest stages) on.in_group in
          let chosen = in-filter on.candidate (is_elected contest stages) contest.candidates surplus.1 in
          let column = column-in on.candidate contest.candidates fair.candidate_set chosen.1 in
          let fresh = not_twice contest s' before on.candidate _ tells column refl surplus.0 in
          let acts : transfers s.action on.candidate ≡ true = ap (λ a. transfers a on.candidate) on.is ∙ eq-eqb on.candidate on.candidate refl in
          let more = filter-more (is_transferred stages) (is_transferred (s ∷ stages)) on.candidate contest.candidates (λ x h. or_later (transfers s.action x) _ h)
          fresh (ap (λ b. b || is_transferred stages on.candidate) acts) chosen.1 in
          omega (arith, more, excluded_le)
      | inr on ↦
          let chosen = in-filter on.candidate (λ c. not (is_elected contest stages c) && not (is_excluded stages c)) contest.candidates on.in_group in
          let fresh = not_true (is_excluded stages on.candidate) (and_true (not (is_elected contest stages on.candidate)) _ chosen.0).1 in
          let acts : excludes s.action on.candidate ≡ true = ap (λ a. excludes a on.candidate) on.is ∙ exclusion_excludes _ on.candidate in
          let more = filter-more (is_excluded stages) (is_excluded (s ∷ stages)) on.candidate contest.candidates (λ x h. or_later (excludes s.action x) _ h)
          fresh (ap (λ b. b || is_excluded stages on.candidate) acts) chosen.1 in
          omega (arith, more, transferred_le)
    ]

pub filter_length : (p : ℕ → Bool) (xs : List ℕ) → length (filter p xs) ≤ length xs
filter_length p [] = omega arith
filter_length p (x ∷ xs) = part (p x) (filter_length p xs)
  where
    part : (b : Bool) → length (filter p xs) ≤ length xs → length (cond b (x ∷ filter p xs) (filter p xs)) ≤ length (x ∷ xs)
    part true h = omega (arith, h)
    part false h = omega (arith, h)

pub length-acted : (contest : Contest) (handed : History → Stage → Option ℕ) (stages : History) → IsContest contest → IsRightBy contest handed stages → length stages ≤ 1 + acted contest stages
length-acted contest handed [] fair right = omega arith
length-acted contest handed (s ∷ []) fair right = omega arith
length-acted contest handed (s ∷ s' ∷ before) fair right =
    omega (arith, length-acted contest handed (s' ∷ before) fair right.0, acted-more contest s s' before (handed (s' ∷ before) s) fair right.0.1.tells right.1)

-- a correct history has at most two stages per candidate, plus one
pub stages-bound : (contest : Contest) (handed : History → Stage → Option ℕ) (stages : History) → IsContest contest → IsRightBy contest handed stages →
    length stages ≤ 2 * length contest.candidates + 1
unfolding acted
stages-bound contest handed stages fair right =
    omega (arith, length-acted contest handed stages fair right, filter_length (is_transferred stages) contest.candidates, filter_length (is_excluded stages) contest.candidates)

pub length-right : (contest : Contest) (lots : List (ℕ × ℕ)) (stages : History) → IsContest contest → IsRight contest lots stages → length stages ≤ 2 * length contest.candidates + 1
length-right contest lots stages fair right = stages-bound contest (λ before s. lot_for lots (length before + 1)) stages fair right

-- each added stage brings the count closer to its end, whatever name the contest is given
pub steps-smaller : (contest contest' contest'' : Contest) (lots : List (ℕ × ℕ)) (old new : History) →
    contest' ≡ contest → contest'' ≡ contest → IsContest contest → IsRight contest lots old → AdvancesBy contest lots old new →
    2 * length contest''.candidates + 2 - length new < 2 * length contest'.candidates + 2 - length old
steps-smaller contest contest' contest'' lots old new same' same'' fair right step =
    omega (arith, length-right contest lots old fair right, ap length step.one_more, ap (λ (k : Contest). length k.candidates) same', ap (λ (k : Contest). length k.candidates) same'')
