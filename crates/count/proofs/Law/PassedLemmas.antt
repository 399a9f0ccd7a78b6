-- A candidate who has passed on all papers holds none.
use Rattle.std.proofs.Common.{◌≡◌, ℕ, ◌<◌, ◌≤◌, ◌==◌, ◌||◌, ◌&&◌, ◌⊎◌, inl, inr, Bool, true, false, not, cond, eqb, nat_le, List, [], ◌∷◌, drop, Option, refl, sym, ap, ◌∙◌, arith}
use Rattle.std.specs.List.{list_any}
use Rattle.std.proofs.lemmas.Bool.{eqb-true, eqb-false, eq-eqb, le-leb}
use Rattle.paper.specs.Ranking.{IsRanking}
use Rattle.count.specs.Law.Contest.{Contest, History, newest_votes, votes_at}
use Rattle.count.specs.Inside.Holdings.{passes_on}
use Rattle.paper.specs.Standing.{from_first}
use Rattle.count.specs.Law.Places.{Place, place, moved, first_of, after, next_available}
use Rattle.count.specs.Law.Right.{IsRightBy}
use Rattle.count.specs.Law.Elected.{is_continuing, is_excluded, is_elected, has_reached, excludes}
use Rattle.count.specs.Law.Figures.{value_with}
use Rattle.count.specs.Books.{AreRankings}
use Rattle.count.specs.declared.stages.Stage.{Stage}
use Rattle.count.specs.declared.stages.Action.{Action}
use Rattle.count.specs.declared.stages.Action.TheVariants.{Exclude, ExcludeLast}
use Rattle.count.proofs.Law.ActionLemmas.{in-filter}
use Rattle.count.proofs.SumLemmas.{sum_by-none, at_other, sum-rankings}
use Rattle.count.proofs.Law.ValueLemmas.{held}
use Rattle.count.proofs.Law.StepLemmas.{IsSurplus, IsExclusion, step-is, step-first, reached-elected}
use Rattle.count.proofs.ChoiceLemmas.{or_later}

-- whether some stage passed on the given candidate's papers
abbrev pub has_passed : History → ℕ → Bool
has_passed stages c = list_any (λ s. passes_on s.action c) stages

-- if an element is the first to pass a test, it passes the test and is in the list
first_choice : (test : ℕ → Bool) (x c : ℕ) (xs : List ℕ) (b : Bool) → test x ≡ b → first_of (cond b (x ∷ xs) (from_first test xs)) ≡ c →
    (first_of (from_first test xs) ≡ c → (test c ≡ true) × (list_any (λ d. d == c) xs ≡ true)) → (test c ≡ true) × ((eqb x c || list_any (λ d. d == c) xs) ≡ true)
first_choice test x c xs true e same later = (ap test (sym same) ∙ e, ap (λ b. b || list_any (λ d. d == c) xs) (eq-eqb x c same))
first_choice test x c xs false e same later = let h = later same in (h.0, or_later (eqb x c) (list_any (λ d. d == c) xs) h.1)

pub first-passes : (test : ℕ → Bool) (xs : List ℕ) (c : ℕ) → 1 ≤ c → first_of (from_first test xs) ≡ c → (test c ≡ true) × (list_any (λ d. d == c) xs ≡ true)
first-passes test [] c some same = absurd (omega (arith, some, same))
first-passes test (x ∷ xs) c some same = first_choice test x c xs (test x) refl same (first-passes test xs c some)

after_choice : (x c : ℕ) (xs : List ℕ) (b : Bool) → eqb x c ≡ b → list_any (λ y. y == x) xs ≡ false → list_any (λ d. d == c) (drop 1 (from_first (λ d. d == c) xs)) ≡ false →
    list_any (λ d. d == c) (drop 1 (cond b (x ∷ xs) (from_first (λ d. d == c) xs))) ≡ false
after_choice x c xs true e apart later = ap (λ y. list_any (λ d. d == y) xs) (sym (eqb-true x c e)) ∙ apart
after_choice x c xs false e apart later = later

-- in a ranking no candidate follows itself
after-apart : (c : ℕ) (p : List ℕ) → IsRanking p → list_any (λ d. d == c) (after c p) ≡ false
after-apart c [] r = refl
after-apart c (x ∷ xs) r = after_choice x c xs (eqb x c) refl r.2 (after-apart c xs r.3)

-- why a candidate who has passed on all papers receives none: the candidate holds none, and doesn't continue
abbrev IsApart : Contest → History → Place → ℕ → Type 0
IsApart contest before at c = (at.holder ≡ c → ⊥) × (is_continuing contest before c ≡ false)

passed_gone : (contest : Contest) (before : History) (d c : ℕ) (p : List ℕ) (at : Place) (v : ℕ) (b : Bool) → eqb at.holder d ≡ b → IsRanking p → 1 ≤ c →
    (d ≡ c) ⊎ IsApart contest before at c → (let m : Place = record { holder = next_available contest before d p; value = v } in cond b m at).holder ≡ c → ⊥
passed_gone contest before d c p at v true e r some (inl same) h =
    let first = first-passes (is_continuing contest before) (after d p) c some h in
    let apart : list_any (λ x. x == c) (after d p) ≡ false = ap (λ x. list_any (λ y. y == c) (after x p)) same ∙ after-apart c p r in
    cc
passed_gone contest before d c p at v true e r some (inr apart) h =
    let first = first-passes (is_continuing contest before) (after d p) c some h in let other = apart.1 in cc
passed_gone contest before d c p at v false e r some (inl same) h = eqb-false at.holder d e (h ∙ sym same)
passed_gone contest before d c p at v false e r some (inr apart) h = apart.0 h

new_or_old : (d c : ℕ) (b t : Bool) (A : Type 0) → eqb d c ≡ b → (t ≡ true → A) → (b || t) ≡ true → (d ≡ c) ⊎ A
new_or_old d c true t A e old h = inl (eqb-true d c e)
new_or_old d c false t A e old h = inr (old h)

excluded_gone : (contest : Contest) (before : History) (action : Action) (d c : ℕ) (p : List ℕ) (at : Place) (b : Bool) → action ≡ cond b (ExcludeLast d) (Exclude d) → IsRanking p → 1 ≤ c →
    (has_passed before c ≡ true → IsApart contest before at c) → (passes_on action c || has_passed before c) ≡ true → (moved contest before action p at).holder ≡ c → ⊥
excluded_gone contest before action d c p at true is r some old h held_by =
    let h' : has_passed before c ≡ true = ap (λ a. passes_on a c || has_passed before c) (sym is) ∙ h in
    (old h').0 (ap (λ a. (moved contest before a p at).holder) (sym is) ∙ held_by)
excluded_gone contest before action d c p at false is r some old h held_by =
    passed_gone contest before d c p at at.value (eqb at.holder d) refl r some
    (new_or_old d c (eqb d c) (has_passed before c) (IsApart contest before at c) refl old (ap (λ a. passes_on a c || has_passed before c) (sym is) ∙ h))
    (ap (λ a. (moved contest before a p at).holder) (sym is) ∙ held_by)

moved_gone : (contest : Contest) (s' : Stage) (before : History) (action : Action) (c : ℕ) (p : List ℕ) (at : Place) →
    IsSurplus contest (s' ∷ before) action ⊎ IsExclusion contest (s' ∷ before) action →
    IsRanking p → 1 ≤ c → (has_passed (s' ∷ before) c ≡ true → IsApart contest (s' ∷ before) at c) → (passes_on action c || has_passed (s' ∷ before) c) ≡ true
    → (moved contest (s' ∷ before) action p at).holder ≡ c → ⊥
moved_gone contest s' before action c p at (inl on) r some old h held_by =
    passed_gone contest (s' ∷ before) on.c c p at _ (eqb at.holder on.c) refl r some
    (new_or_old on.c c (eqb on.c c) (has_passed (s' ∷ before) c) (IsApart contest (s' ∷ before) at c) refl old (ap (λ a. passes_on a c || has_passed (s' ∷ before) c) (sym on.is) ∙ h))
    (ap (λ a. (moved contest (s' ∷ before) a p at).holder) (sym on.is) ∙ held_by)
moved_gone contest s' before action c p at (inr on) r some old h held_by = excluded_gone contest (s' ∷ before) action on.c c p at _ on.is r some old h held_by

-- a candidate who has passed on all papers has reached the quota or is excluded
IsOut : Contest → History → ℕ → Type 0
IsOut contest stages c = (has_reached contest stages c ≡ true) ⊎ (is_excluded stages c ≡ true)

out_later : (contest : Contest) (s : Stage) (before : History) (c : ℕ) → IsOut contest before c → IsOut contest (s ∷ before) c
unfolding IsOut
out_later contest s before c (inl h) = inl (or_later (nat_le contest.quota (votes_at s c)) _ h)
out_later contest s before c (inr h) = inr (or_later (excludes s.action c) _ h)

exclusion_both : (b : Bool) (d c : ℕ) → passes_on (cond b (ExcludeLast d) (Exclude d)) c ≡ true → excludes (cond b (ExcludeLast d) (Exclude d)) c ≡ true
exclusion_both true d c h = cc
exclusion_both false d c h = h

-- a candidate with more than the quota has reached it
pub above-reached : (contest : Contest) (s : Stage) (before : History) (c : ℕ) → contest.quota < newest_votes (s ∷ before) c → has_reached contest (s ∷ before) c ≡ true
above-reached contest s before c above = ap (λ b. b || has_reached contest before c) (le-leb contest.quota (votes_at s c) (omega (arith, above)))

out_now : (contest : Contest) (s s' : Stage) (before : History) (c : ℕ) → IsSurplus contest (s' ∷ before) s.action ⊎ IsExclusion contest (s' ∷ before) s.action → passes_on s.action c ≡ true →
    IsOut contest (s ∷ s' ∷ before) c
unfolding IsOut
out_now contest s s' before c (inl on) h =
    let same : on.c ≡ c = eqb-true on.c c (ap (λ a. passes_on a c) (sym on.is) ∙ h) in
    inl (or_later (nat_le contest.quota (votes_at s c)) _ (ap (has_reached contest (s' ∷ before)) (sym same) ∙ above-reached contest s' before on.c on.above))
out_now contest s s' before c (inr on) h =
    let now : excludes s.action c ≡ true = ap (λ a. excludes a c) on.is ∙ exclusion_both _ on.c c (ap (λ a. passes_on a c) (sym on.is) ∙ h) in
    inr (ap (λ b. b || is_excluded (s' ∷ before) c) now)

out_choice : (contest : Contest) (s s' : Stage) (before : History) (c : ℕ) (b : Bool) → passes_on s.action c ≡ b →
    IsSurplus contest (s' ∷ before) s.action ⊎ IsExclusion contest (s' ∷ before) s.action →
    (has_passed (s' ∷ before) c ≡ true → IsOut contest (s' ∷ before) c) → (b || has_passed (s' ∷ before) c) ≡ true → IsOut contest (s ∷ s' ∷ before) c
out_choice contest s s' before c true e step old h = out_now contest s s' before c step e
out_choice contest s s' before c false e step old h = out_later contest s (s' ∷ before) c (old h)

passed-out : (contest : Contest) (handed : History → Stage → Option ℕ) (stages : History) → IsRightBy contest handed stages → (c : ℕ) → has_passed stages c ≡ true → IsOut contest stages c
passed-out contest handed [] right c h = cc
passed-out contest handed (s ∷ []) right c h =
    let first = step-first contest (handed [] s) s.action right.1.was_due in
    let none : false ≡ true = ap (λ a. passes_on a c || false) (sym first) ∙ h in cc
passed-out contest handed (s ∷ s' ∷ before) right c h =
    out_choice contest s s' before c (passes_on s.action c) refl (step-is contest s' before (handed (s' ∷ before) s) s.action right.1.was_due) (passed-out contest handed (s' ∷ before) right.0 c) h

out_continuing : (contest : Contest) (stages : History) (c : ℕ) (b : Bool) → is_continuing contest stages c ≡ b → IsOut contest stages c → b ≡ false
unfolding IsOut
out_continuing contest stages c true e (inl h) =
    let found = in-filter c (λ d. not (is_elected contest stages d) && not (is_excluded stages d)) contest.candidates e in
    let reached = reached-elected contest stages c h in
    let k = ap (λ b. not b && not (is_excluded stages c)) reached in let k' = found.0 in cc
out_continuing contest stages c true e (inr h) =
    let found = in-filter c (λ d. not (is_elected contest stages d) && not (is_excluded stages d)) contest.candidates e in
    let k = ap (λ b. not (is_elected contest stages c) && not b) h in
    let k' = found.0 in absurd (never (not (is_elected contest stages c)) (sym k ∙ k'))
  where
    never : (a : Bool) → (a && false) ≡ true → ⊥
    never true h = cc
    never false h = cc
out_continuing contest stages c false e out = refl

-- A candidate who has passed on all papers holds none afterwards.
pub passed-gone : (contest : Contest) (handed : History → Stage → Option ℕ) (stages : History) → IsRightBy contest handed stages → (p : List ℕ) → IsRanking p → (c : ℕ) → 1 ≤ c →
    has_passed stages c ≡ true →
    (place contest stages p).holder ≡ c → ⊥
passed-gone contest handed [] right p r c some h held_by = cc
passed-gone contest handed (s ∷ []) right p r c some h held_by =
    let first = step-first contest (handed [] s) s.action right.1.was_due in
    let none : false ≡ true = ap (λ a. passes_on a c || false) (sym first) ∙ h in cc
passed-gone contest handed (s ∷ s' ∷ before) right p r c some h held_by =
    moved_gone contest s' before s.action c p (place contest (s' ∷ before) p) (step-is contest s' before (handed (s' ∷ before) s) s.action right.1.was_due) r some
    (λ k. (passed-gone contest handed (s' ∷ before) right.0 p r c some k, out_continuing contest (s' ∷ before) c _ refl (passed-out contest handed (s' ∷ before) right.0 c k))) h held_by

-- so the candidate holds no value
pub passed-held : (contest : Contest) (handed : History → Stage → Option ℕ) (stages : History) → IsRightBy contest handed stages → AreRankings contest.papers → (c : ℕ) → 1 ≤ c →
    has_passed stages c ≡ true →
    held contest stages c ≡ 0
passed-held contest handed stages right rankings c some h =
    sum-rankings contest.papers rankings (λ p. value_with c (place contest stages p)) (λ p. 0)
    (λ p r. let at = place contest stages p in at_other at.holder c at.value 0 (passed-gone contest handed stages right p r c some h))
    ∙ sum_by-none (λ p. 0) contest.papers (λ p. refl)
