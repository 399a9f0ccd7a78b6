-- The ties that a page names as settled by an earlier stage are settled so in the count.
use Rattle.std.proofs.Common.{◌≡◌, ◌⊎◌, inl, inr, ℕ, ◌-◌, ◌<◌, ◌≤◌, ◌==◌, ◌&&◌, ◌||◌, Bool, true, false}
use Rattle.std.proofs.Common.{not, cond, nat_eq, nat_le, nat_lt, List, [], ◌∷◌, length, reverse, get_or, slice_get, Option, Some, None}
use Rattle.std.proofs.Common.{refl, sym, ap, ap₂, subst, ◌∙◌, arith, true≢false}
use Rattle.std.specs.Prelude.{option_map, position}
use Rattle.std.specs.List.{find, list_any, position_or_len}
use Rattle.std.specs.Ordering.{is_lt, nat_cmp, ordering_then}
use Rattle.std.specs.Cmp.Lexicographic.{slice_cmp}
use Rattle.std.specs.declared.cmp.Ordering.{Ordering}
use Rattle.std.specs.declared.cmp.Ordering.TheVariants.{Less, Equal, Greater}
use Rattle.std.proofs.lemmas.Bool.{eq-eqb, eqb-true, le-leb, ltb-true}
use Rattle.std.proofs.lemmas.Cmp.{by_ranked, ranked}
use Rattle.std.proofs.lemmas.List.{get_or-reverse, length-reverse, reverse-reverse}
use Rattle.std.proofs.lemmas.List.Folds.{find_at}
use Rattle.std.proofs.lemmas.Option.{slice_get-get_or}
use Rattle.count.specs.Law.Contest.{Contest, History, In, IsContest, newest_votes, votes_at}
use Rattle.count.specs.Law.Due.{action_on, among, drawn, due_after, due_for, highest, is_above, lowest, trace, with_surplus}
use Rattle.count.specs.Law.Elected.{continuing_after, elected_after, excludes, has_reached, is_elected, is_excluded, undecided_fill, vacancies_after}
use Rattle.count.specs.Law.Right.{IsRightBy, candidate_of}
use Rattle.count.specs.declared.stages.Action.{Action}
use Rattle.count.specs.declared.stages.Action.TheVariants.{Surplus, Exclude, ExcludeLast}
use Rattle.count.specs.declared.stages.Due.TheVariants.{Finished}
use Rattle.count.specs.declared.stages.Stage.{Stage}
use Rattle.count.specs.declared.stages.TiedFor.{TiedFor}
use Rattle.count.specs.declared.stages.TiedFor.TheVariants.{Surplus as of_surplus, Exclusion as of_exclusion}
use Rattle.count.proofs.ChoiceLemmas.{and_true, not_true}
use Rattle.count.proofs.Law.ActionLemmas.{IsOn, in-filter}
use Rattle.count.proofs.Law.FinishLemmas.{vacant-unfilled}
use Rattle.count.proofs.Law.LengthLemmas.{not_reached}
use Rattle.count.proofs.Law.PassedLemmas.{above-reached}
use Rattle.count.proofs.Law.QuotaLemmas.{reached-kept}
use Rattle.count.proofs.Law.StepLemmas.{reached-elected, step-first, step-vacant}
use Rattle.count.proofs.Law.TieLemmas.{filter-in}
use Rattle.sheet.specs.Cells.{votes_or}
use Rattle.sheet.specs.Stages.{is_excluded_at}
use Rattle.sheet.specs.Ties.{IsSettled, is_level, parted_at, tie_at, tie_between, votes_then}
use Rattle.sheet.specs.declared.settled_ties.Tie.{Tie}
use Rattle.sheet.proofs.TieLaw.{any_false, any_reverse, open_elected}

-- ---- the most recent stage at which votes differed

some_is : {A : Type 0} {x y : A} → ◌≡◌ {A = Option A} (Some x) (Some y) → x ≡ y
some_is e = cc

abbrev apart : ℕ → ℕ → Stage → Bool
apart c d s = not (votes_at s c == votes_at s d)

same_first : (x y : ℕ) (rest : Ordering) → x ≡ y → ordering_then (nat_cmp x y) rest ≡ rest
same_first x y rest same =
    by_ranked (x < y) (x ≡ y) (y < x) (nat_cmp x y) (ranked x y (nat_cmp x y) refl)
    (λ is less. let k : ⊥ = omega (arith, less, same) in absurd k)
    (λ is equal. ap (λ o. ordering_then o rest) is)
    (λ is more. let k : ⊥ = omega (arith, more, same) in absurd k)

above_if_not : (x y : ℕ) (rest : Ordering) → is_lt (ordering_then (nat_cmp x y) rest) ≡ false → (x ≡ y → ⊥) → y < x
above_if_not x y rest e differ =
    by_ranked (x < y) (x ≡ y) (y < x) (nat_cmp x y) (ranked x y (nat_cmp x y) refl)
    (λ is less. let k : true ≡ false = ap (λ o. is_lt (ordering_then o rest)) (sym is) ∙ e in absurd (true≢false k))
    (λ is equal. absurd (differ equal))
    (λ is more. more)

-- at the most recent stage at which the votes differed, a candidate who isn't above the other had fewer
record Settles (stages : History) (c d : ℕ) (s : Stage) : Type 0 where
  pub under : is_above stages c d ≡ false → votes_at s c < votes_at s d
  pub over : is_above stages d c ≡ false → votes_at s d < votes_at s c

settles : (stages : History) (c d : ℕ) (s : Stage) → find (apart c d) stages ≡ Some s → Settles stages c d s
settles [] c d s found = absurd (cc found)
settles (x ∷ stages) c d s found = by (votes_at x c == votes_at x d) refl (settles stages c d s) found
  where
    by : (b : Bool) → (votes_at x c == votes_at x d) ≡ b → (find (apart c d) stages ≡ Some s → Settles stages c d s) → cond (not b) (Some x) (find (apart c d) stages) ≡ Some s → Settles
        (x ∷ stages) c d s
    by true same before later =
        let rest = before later in
        let e : votes_at x c ≡ votes_at x d = eqb-true (votes_at x c) (votes_at x d) same in
        record {
          under = λ n. rest.under (sym (ap is_lt (same_first (votes_at x d) (votes_at x c) (slice_cmp nat_cmp (trace stages d) (trace stages c)) (sym e))) ∙ n);
          over = λ n. rest.over (sym (ap is_lt (same_first (votes_at x c) (votes_at x d) (slice_cmp nat_cmp (trace stages c) (trace stages d)) e)) ∙ n);
        }
    by false differ before here =
        let never : votes_at x c ≡ votes_at x d → ⊥ = λ e. true≢false (sym (eq-eqb (votes_at x c) (votes_at x d) e) ∙ differ) in
        subst (Settles (x ∷ stages) c d) (some_is here) (record {
          under = λ n. above_if_not (votes_at x d) (votes_at x c) (slice_cmp nat_cmp (trace stages d) (trace stages c)) n (λ e. never (sym e));
          over = λ n. above_if_not (votes_at x c) (votes_at x d) (slice_cmp nat_cmp (trace stages c) (trace stages d)) n never;
        })

-- ---- the figures that a page names

-- a stage in the order of the page is the same stage in a history
mirrored : (stages : History) (n : ℕ) (s : Stage) → n < length stages → slice_get (reverse stages) (length (reverse stages) - n - 1) ≡ Some (get_or stages n s)
mirrored stages n s within =
    let size = length-reverse stages in
    let place = length (reverse stages) - n - 1 in
    slice_get-get_or (reverse stages) place s (omega (arith, within, size))
    ∙ ap Some (get_or-reverse stages place s (omega (arith, within, size)) ∙ ap (λ i. get_or stages i s) (omega (arith, within, size)))

newest_then : (s : Stage) (before : History) (c : ℕ) → votes_then (reverse (s ∷ before)) (length (reverse (s ∷ before))) c ≡ votes_at s c
newest_then s before c =
    let stages : History = s ∷ before in
    let some : 0 < length stages = omega arith in
    ap (λ i. votes_or 0 (slice_get (reverse stages) i) c) (omega arith) ∙ ap (λ found. votes_or 0 found c) (mirrored stages 0 s some)

-- the stage that a page names is the most recent one at which the votes differed
record IsNamed (stages : History) (c d : ℕ) (tie : Tie) : Type 0 where
  pub stage : Stage
  pub found : find (apart c d) stages ≡ Some stage
  pub chosen : tie.of_chosen ≡ votes_at stage c
  pub other : tie.of_other ≡ votes_at stage d

named : (s : Stage) (before : History) (c d : ℕ) (tie : Tie) → option_map (tie_at (reverse (s ∷ before)) c d) (parted_at (reverse (s ∷ before)) c d) ≡ Some tie → IsNamed (s ∷ before) c d tie
named s before c d tie is =
    by (nat_lt n (length stages)) refl
    (ap (λ l. option_map (tie_at (reverse stages) c d) (option_map (λ later. length (reverse stages) - later) (position (apart c d) l))) (sym (reverse-reverse stages)) ∙ is)
  where
    stages : History
    stages = s ∷ before

    n : ℕ
    n = position_or_len (apart c d) stages

    by : (b : Bool) → nat_lt n (length stages) ≡ b
        → option_map (tie_at (reverse stages) c d) (option_map (λ later. length (reverse stages) - later) (cond b (Some n) None)) ≡ Some tie → IsNamed stages c d tie
    by true inside is =
        let within : n < length stages = ltb-true n (length stages) inside in
        let there = mirrored stages n s within in
        let same : tie_at (reverse stages) c d (length (reverse stages) - n) ≡ tie = some_is is in
        record {
          stage = get_or stages n s;
          found = find_at (apart c d) stages ∙ slice_get-get_or stages n s within;
          chosen = ap (λ (t : Tie). t.of_chosen) (sym same) ∙ ap (λ found. votes_or 0 found c) there;
          other = ap (λ (t : Tie). t.of_other) (sym same) ∙ ap (λ found. votes_or 0 found d) there;
        }
    by false outside is = absurd (cc is)

-- a tie that a page names: the other candidate isn't excluded, and has as many votes
record IsTie (s : Stage) (before : History) (c d : ℕ) (tie : Tie) : Type 0 where
  pub not_excluded : is_excluded (s ∷ before) d ≡ false
  pub level : newest_votes (s ∷ before) c ≡ newest_votes (s ∷ before) d
  pub named : IsNamed (s ∷ before) c d tie

tie_is : (s : Stage) (before : History) (c d : ℕ) (tie : Tie) → tie_between (reverse (s ∷ before)) c d ≡ Some tie → IsTie s before c d tie
tie_is s before c d tie is = by (is_level (reverse stages) c d) refl is
  where
    stages : History
    stages = s ∷ before

    by : (b : Bool) → is_level (reverse stages) c d ≡ b → cond b (option_map (tie_at (reverse stages) c d) (parted_at (reverse stages) c d)) None ≡ Some tie → IsTie s before c d tie
    by true level is =
        let parts = and_true (not (is_excluded_at (reverse stages) d)) _ level in
        record {
          not_excluded = sym (any_reverse (λ s. excludes s.action d) stages) ∙ not_true (is_excluded_at (reverse stages) d) parts.0;
          level = sym (newest_then s before c) ∙ eqb-true _ _ parts.1 ∙ newest_then s before d;
          named = named s before c d tie is;
        }
    by false level is = absurd (cc is)

-- ---- the candidate whom a stage concerns

drawn_lot : (contest : Contest) (stages : History) (kind : TiedFor) (group : List ℕ) (x : ℕ) (b : Bool) (action : Action) →
    list_any (nat_eq x) group ≡ b → cond b (Some (action_on contest stages kind x)) None ≡ Some action → IsOn contest stages kind group action
drawn_lot contest stages kind group x true action e h = record { candidate = x; in_group = e; is = cc }
drawn_lot contest stages kind group x false action e h = cc

drawn_among : (contest : Contest) (stages : History) (lot : Option ℕ) (kind : TiedFor) (group : List ℕ) (action : Action) →
    drawn contest stages lot (among contest stages kind group) ≡ Some action → IsOn contest stages kind group action
drawn_among contest stages None kind [] action h = cc
drawn_among contest stages (Some x) kind [] action h = cc
drawn_among contest stages lot kind (c ∷ []) action h = record { candidate = c; in_group = ap (λ t. t || false) (eq-eqb c c refl); is = cc }
drawn_among contest stages None kind (c ∷ d ∷ tied) action h = cc
drawn_among contest stages (Some x) kind (c ∷ d ∷ tied) action h = drawn_lot contest stages kind (c ∷ d ∷ tied) x _ action refl h

-- it is one of the highest with a surplus, or one of the lowest who continue
chosen : (contest : Contest) (s : Stage) (before : History) (lot : Option ℕ) (action : Action) → drawn contest (s ∷ before) lot (due_after contest (s ∷ before)) ≡ Some action
    → IsOn contest (s ∷ before) of_surplus (highest (s ∷ before) (with_surplus contest (s ∷ before))) action
    ⊎ IsOn contest (s ∷ before) of_exclusion (lowest (s ∷ before) (continuing_after contest (s ∷ before))) action
chosen contest s before lot action due = by (vacancies_after contest stages == 0) due
  where
    stages : History
    stages = s ∷ before

    in_group : (g : List ℕ) → with_surplus contest stages ≡ g → drawn contest stages lot (due_for contest stages g) ≡ Some action
        → IsOn contest stages of_surplus (highest stages (with_surplus contest stages)) action ⊎ IsOn contest stages of_exclusion (lowest stages (continuing_after contest stages)) action
    in_group [] none is = inr (drawn_among contest stages lot of_exclusion (lowest stages (continuing_after contest stages)) action is)
    in_group (x ∷ xs) some is =
        inl (subst (λ (g : List ℕ). IsOn contest stages of_surplus (highest stages g) action) (sym some) (drawn_among contest stages lot of_surplus (highest stages (x ∷ xs)) action is))

    by : (b : Bool) → drawn contest stages lot (cond b Finished (due_for contest stages (with_surplus contest stages))) ≡ Some action
        → IsOn contest stages of_surplus (highest stages (with_surplus contest stages)) action ⊎ IsOn contest stages of_exclusion (lowest stages (continuing_after contest stages)) action
    by true is = absurd (cc is)
    by false is = in_group (with_surplus contest stages) refl is

-- of two with a surplus, the chosen one isn't below the other
surplus_settled : (contest : Contest) (s : Stage) (before : History) (c d : ℕ) (tie : Tie) → In d contest.candidates → In c (highest (s ∷ before) (with_surplus contest (s ∷ before)))
    → IsTie s before c d tie → tie.of_other < tie.of_chosen
surplus_settled contest s before c d tie known top is =
    let stages : History = s ∷ before in
    let group = with_surplus contest stages in
    let p = in-filter c (λ x. not (list_any (λ y. is_above stages y x) group)) group top in
    let none : list_any (λ y. is_above stages y c) group ≡ false = not_true (list_any (λ y. is_above stages y c) group) p.0 in
    let more : nat_lt contest.quota (newest_votes stages c) ≡ true = (in-filter c (λ x. nat_lt contest.quota (newest_votes stages x)) (elected_after contest stages) p.1).0 in
    let also : nat_lt contest.quota (newest_votes stages d) ≡ true = ap (nat_lt contest.quota) (sym is.level) ∙ more in
    let elected : is_elected contest stages d ≡ true = reached-elected contest stages d (above-reached contest s before d (ltb-true _ _ also)) in
    let here : In d group = filter-in d (λ x. nat_lt contest.quota (newest_votes stages x)) (elected_after contest stages) also
    (filter-in d (is_elected contest stages) contest.candidates elected known) in
    let figures = settles stages c d is.named.stage is.named.found in
    omega (arith, figures.over (any_false (λ y. is_above stages y c) d group none here), is.named.chosen, is.named.other)

within_reach : (contest : Contest) (s : Stage) (before : History) (c : ℕ) → contest.quota ≤ newest_votes (s ∷ before) c → has_reached contest (s ∷ before) c ≡ true
within_reach contest s before c enough = ap (λ (b : Bool). b || has_reached contest before c) (le-leb contest.quota (votes_at s c) enough)

-- a continuing candidate's equal isn't elected, since the quota is still above both
equal_unelected : (contest : Contest) (handed : History → Stage → Option ℕ) (s : Stage) (before : History) (c d : ℕ) → IsContest contest → IsRightBy contest handed (s ∷ before) → In d
    contest.candidates
    → undecided_fill contest (s ∷ before) ≡ false → is_elected contest (s ∷ before) c ≡ false → newest_votes (s ∷ before) c ≡ newest_votes (s ∷ before) d → is_elected contest (s ∷ before) d ≡ false
equal_unelected contest handed s before c d fair right known unfilled out level = open_elected contest stages d unfilled ∙ by (has_reached contest stages d) refl
  where
    stages : History
    stages = s ∷ before

    by : (b : Bool) → has_reached contest stages d ≡ b → b ≡ false
    by false reached = refl
    by true reached =
        let enough = reached-kept contest handed stages fair right d known reached in
        let not_yet = not_reached contest stages c (has_reached contest stages c) refl out in
        absurd (true≢false (sym (within_reach contest s before c (omega (arith, enough, level))) ∙ not_yet))

-- of two who continue, the chosen one isn't above the other
exclusion_settled : (contest : Contest) (handed : History → Stage → Option ℕ) (s : Stage) (before : History) (c d : ℕ) (tie : Tie) → IsContest contest → IsRightBy contest handed (s ∷ before)
    → In d contest.candidates → undecided_fill contest (s ∷ before) ≡ false → In c (lowest (s ∷ before) (continuing_after contest (s ∷ before))) → IsTie s before c d tie
    → tie.of_chosen < tie.of_other
exclusion_settled contest handed s before c d tie fair right known unfilled bottom is =
    let stages : History = s ∷ before in
    let group = continuing_after contest stages in
    let p = in-filter c (λ x. not (list_any (λ y. is_above stages x y) group)) group bottom in
    let none : list_any (λ y. is_above stages c y) group ≡ false = not_true (list_any (λ y. is_above stages c y) group) p.0 in
    let goes_on = in-filter c (λ x. not (is_elected contest stages x) && not (is_excluded stages x)) contest.candidates p.1 in
    let out = not_true (is_elected contest stages c) (and_true (not (is_elected contest stages c)) (not (is_excluded stages c)) goes_on.0).0 in
    let also = equal_unelected contest handed s before c d fair right known unfilled out is.level in
    let here : In d group =
    filter-in d (λ x. not (is_elected contest stages x) && not (is_excluded stages x)) contest.candidates (ap₂ (λ (a b : Bool). not a && not b) also is.not_excluded) known in
    let figures = settles stages c d is.named.stage is.named.found in
    omega (arith, figures.under (any_false (λ y. is_above stages c y) d group none here), is.named.chosen, is.named.other)

-- ---- the ties of a page

excluded_named : (b : Bool) (e : ℕ) → candidate_of (cond b (ExcludeLast e) (Exclude e)) ≡ Some e
excluded_named true e = refl
excluded_named false e = refl

excluded_by : (b : Bool) (e : ℕ) (tie : Tie) → tie.of_chosen < tie.of_other → IsSettled (cond b (ExcludeLast e) (Exclude e)) tie
excluded_by true e tie fewer = fewer
excluded_by false e tie fewer = fewer

-- at the stage that a page names, the candidate whose surplus is transferred had more votes than the other, and the one who is excluded had fewer
pub settled_on_a_page : (contest : Contest) (handed : History → Stage → Option ℕ) (s : Stage) (before : History) (c d : ℕ) (tie : Tie) → IsContest contest → IsRightBy contest handed (s ∷ before)
    → candidate_of s.action ≡ Some c → In d contest.candidates → tie_between (reverse before) c d ≡ Some tie → IsSettled s.action tie
settled_on_a_page contest handed s [] c d tie fair right on known is =
    let none : None ≡ Some c = ap candidate_of (sym (step-first contest (handed [] s) s.action right.1.was_due)) ∙ on in
    absurd (cc none)
settled_on_a_page contest handed s (t ∷ before) c d tie fair right on known is =
    let stages : History = t ∷ before in
    let lot = handed stages s in
    let unfilled = vacant-unfilled contest stages (step-vacant contest t before lot s.action right.1.was_due) in
    let figures = tie_is t before c d tie is in
    elim (chosen contest t before lot s.action right.1.was_due) [
      | inl top ↦
          let same : top.candidate ≡ c = some_is (ap candidate_of (sym top.is) ∙ on) in
          let more = surplus_settled contest t before c d tie known (subst (λ e. In e (highest stages (with_surplus contest stages))) same top.in_group) figures in
          subst (λ a. IsSettled a tie) (sym top.is) more
      | inr bottom ↦
          let same : bottom.candidate ≡ c = some_is (sym (excluded_named _ bottom.candidate) ∙ ap candidate_of (sym bottom.is) ∙ on) in
          let fewer = exclusion_settled contest handed t before c d tie fair right.0 known unfilled (subst (λ e. In e (lowest stages (continuing_after contest stages))) same bottom.in_group)
          figures in
          subst (λ a. IsSettled a tie) (sym bottom.is) (excluded_by _ bottom.candidate tie fewer)
    ]
