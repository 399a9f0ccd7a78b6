-- The candidates that a page names as tied for a lot are those who are tied according to the count.
use Rattle.std.proofs.Common.{◌≡◌, ◌⊎◌, inl, inr, ℕ, ◌<◌, ◌==◌, ◌||◌, ◌&&◌, Bool, true, false, not, cond, nat_eq, nat_le, nat_lt, List, [], ◌∷◌, reverse, Option}
use Rattle.std.proofs.Common.{refl, sym, ap, ap₂, subst, ◌∙◌, arith, true≢false}
use Rattle.std.specs.List.{filter, list_all, list_any}
use Rattle.std.specs.Ordering.{is_lt, nat_cmp, ordering_reverse, ordering_then}
use Rattle.std.specs.Cmp.Lexicographic.{slice_cmp}
use Rattle.std.specs.declared.cmp.Ordering.{Ordering}
use Rattle.std.specs.declared.cmp.Ordering.TheVariants.{Less, Equal, Greater}
use Rattle.std.proofs.lemmas.Bool.{eq-eqb, eqb-true, ltb-true}
use Rattle.std.proofs.lemmas.Cmp.{by_ranked, nat_list_cmp_total, ranked}
use Rattle.std.proofs.lemmas.List.{reverse-append}
use Rattle.std.proofs.lemmas.List.Folds.{list_all-append, list_any-append}
use Rattle.count.specs.Books.{AreRankings}
use Rattle.count.specs.Law.Contest.{Contest, History, In, IsContest, newest_votes, votes_at}
use Rattle.count.specs.Law.Due.{among, due_after, due_for, highest, is_above, lowest, trace, with_surplus}
use Rattle.count.specs.Law.Figures.{votes_after}
use Rattle.count.specs.Law.Elected.{continuing_after, elected_after, excludes, has_reached, is_elected, is_excluded, is_transferred, undecided_fill, vacancies_after}
use Rattle.count.specs.Law.Right.{IsRightBy}
use Rattle.count.specs.declared.stages.Due.{Due}
use Rattle.count.specs.declared.stages.Due.TheVariants.{Act, Finished, Lot}
use Rattle.count.specs.declared.stages.Stage.{Stage}
use Rattle.count.specs.declared.stages.TiedFor.{TiedFor}
use Rattle.count.specs.declared.stages.TiedFor.TheVariants.{Surplus as of_surplus, Exclusion as of_exclusion}
use Rattle.count.proofs.ChoiceLemmas.{and_true, not_true, or_false, or_later}
use Rattle.count.proofs.FilterLemmas.{filter-cong}
use Rattle.count.proofs.Law.ActionLemmas.{column-in, in-filter}
use Rattle.count.proofs.Law.FinishLemmas.{vacant-unfilled}
use Rattle.count.proofs.Law.LengthLemmas.{excluded-passed}
use Rattle.count.proofs.Law.NamedLemmas.{excluded-unelected}
use Rattle.count.proofs.Law.PassedLemmas.{above-reached, has_passed, passed-held}
use Rattle.count.proofs.Law.StepLemmas.{reached-elected, told-votes, votes-held}
use Rattle.count.proofs.Law.TieLemmas.{filter-in}
use Rattle.count.proofs.Law.ValueLemmas.{held}
use Rattle.sheet.specs.Lots.{is_tied}

-- ---- truth values and lists

same_bool : (a b : Bool) → (a ≡ true → b ≡ true) → (b ≡ true → a ≡ true) → a ≡ b
same_bool true true to back = refl
same_bool true false to back = sym (to refl)
same_bool false true to back = back refl
same_bool false false to back = refl

filter_twice : (p q : ℕ → Bool) (xs : List ℕ) → filter p (filter q xs) ≡ filter (λ x. q x && p x) xs
filter_twice p q [] = refl
filter_twice p q (x ∷ xs) = by (q x) (filter_twice p q xs)
  where
    by : (b : Bool) → filter p (filter q xs) ≡ filter (λ y. q y && p y) xs → filter p (cond b (x ∷ filter q xs) (filter q xs)) ≡ cond (b && p x)
        (x ∷ filter (λ y. q y && p y) xs) (filter (λ y. q y && p y) xs)
    by true later = ap (λ l. cond (p x) (x ∷ l) l) later
    by false later = later

any_cong : (p q : ℕ → Bool) (xs : List ℕ) → ((x : ℕ) → p x ≡ q x) → list_any p xs ≡ list_any q xs
any_cong p q [] h = refl
any_cong p q (x ∷ xs) h = ap₂ (λ (a b : Bool). a || b) (h x) (any_cong p q xs h)

-- if no member passes a test, each member fails it
pub any_false : (p : ℕ → Bool) (x : ℕ) (xs : List ℕ) → list_any p xs ≡ false → In x xs → p x ≡ false
any_false p x [] none here = absurd (true≢false (sym here))
any_false p x (y ∷ ys) none here = by (nat_eq x y) refl (any_false p x ys (or_false (p y) (list_any p ys) none).1) here
  where
    by : (b : Bool) → nat_eq x y ≡ b → (In x ys → p x ≡ false) → (b || list_any (nat_eq x) ys) ≡ true → p x ≡ false
    by true same later there = ap p (eqb-true x y same) ∙ (or_false (p y) (list_any p ys) none).0
    by false apart later there = later there

-- ---- traces

abbrev first_of : List ℕ → ℕ
first_of [] = 0
first_of (x ∷ xs) = x

abbrev rest_of : List ℕ → List ℕ
rest_of [] = []
rest_of (x ∷ xs) = xs

abbrev are_equal : History → ℕ → ℕ → Bool
are_equal stages c d = list_all (λ s. votes_at s c == votes_at s d) stages

trace_same : (stages : History) (c d : ℕ) → are_equal stages c d ≡ true → trace stages c ≡ trace stages d
trace_same [] c d e = refl
trace_same (s ∷ stages) c d e =
    let p = and_true (votes_at s c == votes_at s d) (are_equal stages c d) e in
    ap₂ (λ (a : ℕ) (l : List ℕ). a ∷ l) (eqb-true (votes_at s c) (votes_at s d) p.0) (trace_same stages c d p.1)

same_trace : (stages : History) (c d : ℕ) → trace stages c ≡ trace stages d → are_equal stages c d ≡ true
same_trace [] c d e = refl
same_trace (s ∷ stages) c d e =
    ap₂ (λ (a b : Bool). a && b) (eq-eqb (votes_at s c) (votes_at s d) (ap first_of e)) (same_trace stages c d (ap rest_of e))

reached_trace : (contest : Contest) (stages : History) (c : ℕ) → has_reached contest stages c ≡ list_any (nat_le contest.quota) (trace stages c)
reached_trace contest [] c = refl
reached_trace contest (s ∷ stages) c = ap (λ (b : Bool). nat_le contest.quota (votes_at s c) || b) (reached_trace contest stages c)

newest_trace : (stages : History) (c : ℕ) → newest_votes stages c ≡ first_of (trace stages c)
newest_trace [] c = refl
newest_trace (s ∷ stages) c = refl

cmp_equal : (xs ys : List ℕ) → slice_cmp nat_cmp xs ys ≡ Equal → xs ≡ ys
cmp_equal [] [] e = refl
cmp_equal [] (y ∷ ys) e = absurd (cc e)
cmp_equal (x ∷ xs) [] e = absurd (cc e)
cmp_equal (x ∷ xs) (y ∷ ys) e =
    by_ranked (x < y) (x ≡ y) (y < x) (nat_cmp x y) (ranked x y (nat_cmp x y) refl)
    (λ is _. let k : Less ≡ Equal = ap (λ o. ordering_then o (slice_cmp nat_cmp xs ys)) (sym is) ∙ e in cc)
    (λ is same. ap₂ (λ (a : ℕ) (l : List ℕ). a ∷ l) same (cmp_equal xs ys (ap (λ o. ordering_then o (slice_cmp nat_cmp xs ys)) (sym is) ∙ e)))
    (λ is _. let k : Greater ≡ Equal = ap (λ o. ordering_then o (slice_cmp nat_cmp xs ys)) (sym is) ∙ e in cc)

neither_equal : (o : Ordering) → is_lt o ≡ false → is_lt (ordering_reverse o) ≡ false → o ≡ Equal
neither_equal Less a b = cc
neither_equal Equal a b = refl
neither_equal Greater a b = cc

tied_lists : (xs ys : List ℕ) → is_lt (slice_cmp nat_cmp xs ys) ≡ false → is_lt (slice_cmp nat_cmp ys xs) ≡ false → xs ≡ ys
tied_lists xs ys a b = cmp_equal xs ys (neither_equal (slice_cmp nat_cmp xs ys) a (ap is_lt (sym (nat_list_cmp_total.antisymm ys xs)) ∙ b))

-- ---- the candidates chosen from a group

abbrev is_alike : History → ℕ → ℕ → Bool
is_alike stages c d = not (is_excluded stages d) && are_equal stages c d

module _ (stages : History) (candidates : List ℕ) (P : ℕ → Bool) (worse : ℕ → ℕ → Bool)
    (moves : (x y : ℕ) → trace stages x ≡ trace stages y → is_excluded stages y ≡ false → P x ≡ true → P y ≡ true)
    (stays : (y : ℕ) → In y candidates → P y ≡ true → is_excluded stages y ≡ false)
    (by_trace : (x y e : ℕ) → trace stages x ≡ trace stages y → worse x e ≡ worse y e)
    (equal : (x y : ℕ) → worse x y ≡ false → worse y x ≡ false → trace stages x ≡ trace stages y) where
  abbrev group : List ℕ
  group = filter P candidates

  abbrev is_chosen : ℕ → Bool
  is_chosen d = not (list_any (worse d) group)

  alike_chosen : (c d : ℕ) → In c (filter is_chosen group) → In d candidates → is_alike stages c d ≡ (P d && is_chosen d)
  alike_chosen c d chosen known = same_bool (is_alike stages c d) (P d && is_chosen d) to back
    where
      parts : (is_chosen c ≡ true) × In c group
      parts = in-filter c is_chosen group chosen

      none_worse : list_any (worse c) group ≡ false
      none_worse = not_true (list_any (worse c) group) parts.0

      passes : P c ≡ true
      passes = (in-filter c P candidates parts.1).0

      to : is_alike stages c d ≡ true → (P d && is_chosen d) ≡ true
      to e =
          let p = and_true (not (is_excluded stages d)) (are_equal stages c d) e in
          let same = trace_same stages c d p.1 in
          ap₂ (λ (a b : Bool). a && not b) (moves c d same (not_true (is_excluded stages d) p.0) passes) (any_cong (worse d) (worse c) group (λ x. by_trace d c x (sym same)) ∙ none_worse)

      back : (P d && is_chosen d) ≡ true → is_alike stages c d ≡ true
      back e =
          let p = and_true (P d) (is_chosen d) e in
          let here : In d group = filter-in d P candidates p.0 known in
          let same = equal c d (any_false (worse c) d group none_worse here) (any_false (worse d) c group (not_true (list_any (worse d) group) p.1) parts.1) in
          ap₂ (λ (a b : Bool). not a && b) (stays d known p.0) (same_trace stages c d same)

  chosen_alike : (c : ℕ) → In c (filter is_chosen group) → filter (is_alike stages c) candidates ≡ filter is_chosen group
  chosen_alike c chosen = filter-cong (is_alike stages c) (λ d. P d && is_chosen d) candidates (λ d known. alike_chosen c d chosen known) ∙ sym (filter_twice is_chosen P candidates)

-- ---- the candidates tied in a count

pub open_elected : (contest : Contest) (stages : History) (c : ℕ) → undecided_fill contest stages ≡ false → is_elected contest stages c ≡ has_reached contest stages c
open_elected contest stages c unfilled = ap (λ (b : Bool). has_reached contest stages c || (b && not (is_excluded stages c))) unfilled ∙ or_none (has_reached contest stages c)
  where
    or_none : (b : Bool) → (b || false) ≡ b
    or_none true = refl
    or_none false = refl

elected_alike : (contest : Contest) (stages : History) (x y : ℕ) → undecided_fill contest stages ≡ false → trace stages x ≡ trace stages y
    → is_elected contest stages x ≡ is_elected contest stages y
elected_alike contest stages x y unfilled same =
    open_elected contest stages x unfilled ∙ reached_trace contest stages x ∙ ap (list_any (nat_le contest.quota)) same
    ∙ sym (reached_trace contest stages y) ∙ sym (open_elected contest stages y unfilled)

-- a candidate who has passed on all papers has no surplus
none_left : (contest : Contest) (stages : History) (c : ℕ) (b : Bool) → is_transferred stages c ≡ b → newest_votes stages c ≡ votes_after contest stages c → held contest stages c ≡ 0
    → contest.quota < newest_votes stages c → ⊥
none_left contest stages c true gone told none more =
    let quota : votes_after contest stages c ≡ contest.quota = ap (λ (b : Bool). cond b contest.quota (held contest stages c)) gone in
    omega (arith, told, quota, more)
none_left contest stages c false gone told none more = omega (arith, told, votes-held contest stages c gone, none, more)

-- an excluded candidate has no surplus
no_surplus : (contest : Contest) (handed : History → Stage → Option ℕ) (s : Stage) (before : History) (c : ℕ) → IsContest contest → AreRankings contest.papers → IsRightBy contest handed (s ∷ before)
    → In c contest.candidates → contest.quota < newest_votes (s ∷ before) c → is_excluded (s ∷ before) c ≡ true → ⊥
no_surplus contest handed s before c fair rankings right known more out = by (excludes s.action c) refl out
  where
    by : (b : Bool) → excludes s.action c ≡ b → (b || is_excluded before c) ≡ true → ⊥
    by true now earlier = true≢false (sym (reached-elected contest (s ∷ before) c (above-reached contest s before c more)) ∙ excluded-unelected contest handed s before c fair right now)
    by false now earlier =
        let column = column-in c contest.candidates fair.candidate_set known in
        let passed : has_passed (s ∷ before) c ≡ true = or_later _ (has_passed before c) (excluded-passed contest handed s before c fair right earlier) in
        none_left contest (s ∷ before) c _ refl (told-votes contest s before c right.1.tells column) (passed-held contest handed (s ∷ before) right rankings c column.0 passed) more

not_excluded : (b : Bool) → (b ≡ true → ⊥) → b ≡ false
not_excluded true never = absurd (never refl)
not_excluded false never = refl

-- among the continuing candidates, those with the fewest votes
lowest_alike : (contest : Contest) (stages : History) (c : ℕ) → undecided_fill contest stages ≡ false → In c (lowest stages (continuing_after contest stages))
    → filter (is_alike stages c) contest.candidates ≡ lowest stages (continuing_after contest stages)
lowest_alike contest stages c unfilled chosen =
    chosen_alike stages contest.candidates (λ d. not (is_elected contest stages d) && not (is_excluded stages d)) (λ d e. is_above stages d e)
    (λ x y same out passes. ap₂ (λ (a b : Bool). not a && not b) (sym (elected_alike contest stages x y unfilled same) ∙ not_true (is_elected contest stages x) (and_true _ _ passes).0) out)
    (λ y known passes. not_true (is_excluded stages y) (and_true (not (is_elected contest stages y)) _ passes).1)
    (λ x y e same. ap (λ (t : List ℕ). is_lt (slice_cmp nat_cmp (trace stages e) t)) same)
    (λ x y a b. tied_lists (trace stages x) (trace stages y) b a)
    c chosen

-- among the candidates with a surplus, those with the most votes
highest_alike : (contest : Contest) (handed : History → Stage → Option ℕ) (s : Stage) (before : History) (c : ℕ) → IsContest contest → AreRankings contest.papers
    → IsRightBy contest handed (s ∷ before) → undecided_fill contest (s ∷ before) ≡ false → In c (highest (s ∷ before) (with_surplus contest (s ∷ before)))
    → filter (is_alike (s ∷ before) c) contest.candidates ≡ highest (s ∷ before) (with_surplus contest (s ∷ before))
highest_alike contest handed s before c fair rankings right unfilled chosen =
    let stages : History = s ∷ before in
    let P : ℕ → Bool = λ d. is_elected contest stages d && nat_lt contest.quota (newest_votes stages d) in
    let same_group : with_surplus contest stages ≡ filter P contest.candidates = filter_twice (λ d. nat_lt contest.quota (newest_votes stages d)) (is_elected contest stages) contest.candidates in
    chosen_alike stages contest.candidates P (λ d e. is_above stages e d)
    (λ x y same out passes. let p = and_true (is_elected contest stages x) (nat_lt contest.quota (newest_votes stages x)) passes in
    ap₂ (λ (a b : Bool). a && b) (sym (elected_alike contest stages x y unfilled same) ∙ p.0)
    (ap (nat_lt contest.quota) (newest_trace stages y ∙ ap first_of (sym same) ∙ sym (newest_trace stages x)) ∙ p.1))
    (λ y known passes. let p = and_true (is_elected contest stages y) (nat_lt contest.quota (newest_votes stages y)) passes in
    not_excluded (is_excluded stages y) (no_surplus contest handed s before y fair rankings right known (ltb-true contest.quota (newest_votes stages y) p.1)))
    (λ x y e same. ap (λ (t : List ℕ). is_lt (slice_cmp nat_cmp t (trace stages e))) same)
    (λ x y a b. tied_lists (trace stages x) (trace stages y) a b)
    c (subst (λ (g : List ℕ). In c (highest stages g)) same_group chosen)
    ∙ ap (highest stages) (sym same_group)

-- ---- what is due

among_is : (contest : Contest) (stages : History) (kind other : TiedFor) (k : ℕ) (tied xs : List ℕ) → among contest stages kind xs ≡ Lot k other tied → xs ≡ tied
among_is contest stages kind other k tied [] is = cc
among_is contest stages kind other k tied (c ∷ []) is = absurd (cc is)
among_is contest stages kind other k tied (c ∷ d ∷ others) is = cc

-- a lot is due only while a vacancy remains: among the lowest of the continuing candidates, or among the highest of those with a surplus
record IsTiedOf (contest : Contest) (stages : History) (tied : List ℕ) : Type 0 where
  pub unfilled : undecided_fill contest stages ≡ false
  pub are : (tied ≡ lowest stages (continuing_after contest stages)) ⊎ (tied ≡ highest stages (with_surplus contest stages))

tied_of : (contest : Contest) (s : Stage) (before : History) (k : ℕ) (kind : TiedFor) (tied : List ℕ) → due_after contest (s ∷ before) ≡ Lot k kind tied → IsTiedOf contest (s ∷ before) tied
tied_of contest s before k kind tied due = by (vacancies_after contest (s ∷ before) == 0) refl due
  where
    stages : History
    stages = s ∷ before

    in_group : (g : List ℕ) → with_surplus contest stages ≡ g → due_for contest stages g ≡ Lot k kind tied
        → (tied ≡ lowest stages (continuing_after contest stages)) ⊎ (tied ≡ highest stages (with_surplus contest stages))
    in_group [] none is = inl (sym (among_is contest stages of_exclusion kind k tied (lowest stages (continuing_after contest stages)) is))
    in_group (x ∷ xs) some is = inr (sym (ap (highest stages) some ∙ among_is contest stages of_surplus kind k tied (highest stages (x ∷ xs)) is))

    by : (b : Bool) → (vacancies_after contest stages == 0) ≡ b → cond b Finished (due_for contest stages (with_surplus contest stages)) ≡ Lot k kind tied → IsTiedOf contest stages tied
    by true none is = absurd (cc is)
    by false left is = record { unfilled = vacant-unfilled contest stages left; are = in_group (with_surplus contest stages) refl is }

tied_alike : (contest : Contest) (handed : History → Stage → Option ℕ) (stages : History) (k c : ℕ) (kind : TiedFor) (tied : List ℕ) → IsContest contest → AreRankings contest.papers
    → IsRightBy contest handed stages → due_after contest stages ≡ Lot k kind tied → In c tied → filter (is_alike stages c) contest.candidates ≡ tied
tied_alike contest handed [] k c kind tied fair rankings right due among_them = absurd (cc due)
tied_alike contest handed (s ∷ before) k c kind tied fair rankings right due among_them =
    let it = tied_of contest s before k kind tied due in
    elim it.are [
      | inl is ↦ lowest_alike contest (s ∷ before) c it.unfilled (subst (In c) is among_them) ∙ sym is
      | inr is ↦ highest_alike contest handed s before c fair rankings right it.unfilled (subst (In c) is among_them) ∙ sym is
    ]

-- ---- on a page

pub any_reverse : (p : Stage → Bool) (stages : List Stage) → list_any p (reverse stages) ≡ list_any p stages
any_reverse p [] = refl
any_reverse p (s ∷ stages) =
    ap (list_any p) (reverse-append (s ∷ []) stages) ∙ list_any-append p (reverse stages) (s ∷ []) ∙ ap (λ (b : Bool). b || (p s || false)) (any_reverse p stages) ∙ swap (p s) (list_any p stages)
  where
    swap : (a b : Bool) → (b || (a || false)) ≡ (a || b)
    swap true true = refl
    swap true false = refl
    swap false true = refl
    swap false false = refl

all_reverse : (p : Stage → Bool) (stages : List Stage) → list_all p (reverse stages) ≡ list_all p stages
all_reverse p [] = refl
all_reverse p (s ∷ stages) =
    ap (list_all p) (reverse-append (s ∷ []) stages) ∙ list_all-append p (reverse stages) (s ∷ []) ∙ ap (λ (b : Bool). b && (p s && true)) (all_reverse p stages) ∙ swap (p s) (list_all p stages)
  where
    swap : (a b : Bool) → (b && (a && true)) ≡ (a && b)
    swap true true = refl
    swap true false = refl
    swap false true = refl
    swap false false = refl

-- the candidates that a page names as tied for a lot are tied in the count
pub tied_on_a_page : (contest : Contest) (handed : History → Stage → Option ℕ) (stages : History) (k c : ℕ) (kind : TiedFor) (tied : List ℕ) → IsContest contest → AreRankings contest.papers
    → IsRightBy contest handed stages → due_after contest stages ≡ Lot k kind tied → In c tied → filter (is_tied (reverse stages) c) contest.candidates ≡ tied
tied_on_a_page contest handed stages k c kind tied fair rankings right due among_them =
    filter-cong (is_tied (reverse stages) c) (is_alike stages c) contest.candidates
    (λ d _. ap₂ (λ (a b : Bool). not a && b) (any_reverse (λ s. excludes s.action d) stages) (all_reverse (λ s. votes_at s c == votes_at s d) stages))
    ∙ tied_alike contest handed stages k c kind tied fair rankings right due among_them
