-- The figures of a correct stage determine the stage.
use Rattle.std.proofs.Common.{◌≡◌, ℕ, ◌+◌, ◌<◌, ◌≤◌, ◌||◌, ◌⊎◌, inl, inr, Bool, true, false, not, cond, eqb, nat_eq, List, [], ◌∷◌, ◌++◌, length, map, take, drop, reverse, Option, Some}
use Rattle.std.proofs.Common.{None, refl, sym, ap, ◌∙◌, arith, subst, append-nil, append_assoc, length-append}
use Rattle.std.proofs.Math.Seq.{take-append_seam, drop-append_seam}
use Rattle.std.proofs.lemmas.List.{reverse-append, reverse-reverse, length-map}
use Rattle.std.specs.List.{list_any, filter}
use Rattle.std.proofs.lemmas.Bool.{eqb-true}
use Rattle.count.specs.Law.Contest.{Contest, History, IsContest, votes_at}
use Rattle.count.specs.Law.Elected.{elected_after, is_elected, is_excluded, transfers, excludes}
use Rattle.count.specs.Law.Figures.{votes_after}
use Rattle.count.specs.Law.Right.{IsRightBy}
use Rattle.count.specs.Marks.{fractions, is_named, mark_by, figure_of, figures_at, all_figures}
use Rattle.count.specs.Inside.Reading.{is_elected_mark, elected_shown, units_shown, votes_shown, action_by, action_or, action_shown}
use Rattle.count.specs.declared.figures.Figure.{Figure}
use Rattle.count.specs.declared.stages.Stage.{Stage}
use Rattle.count.specs.declared.stages.Action.{Action}
use Rattle.count.specs.declared.stages.Action.TheVariants.{First, Surplus, Exclude, ExcludeLast}
use Rattle.count.proofs.ColumnLemmas.{reverse-newest}
use Rattle.count.proofs.FilterLemmas.{filter-cong}
use Rattle.count.proofs.ReadingLemmas.{stage-made}
use Rattle.count.proofs.ParcelFigureLemmas.{map-numbers}
use Rattle.count.proofs.Law.NamedLemmas.{none-elected, named-elected, excluded-unelected, surplus-elected}
use Rattle.count.proofs.Law.NewlyLemmas.{newly-elected}
use Rattle.count.proofs.Law.StepLemmas.{IsSurplus, IsExclusion, step-is, step-first, told-votes}
use Rattle.count.proofs.Law.VotelessLemmas.{others-voteless}

-- ---- the elected candidates

standing_elected : (named gone : Bool) → is_elected_mark (cond named 1 (cond gone 2 0)) ≡ named
standing_elected true gone = refl
standing_elected false true = refl
standing_elected false false = refl

-- for any action, a mark shows who is elected
elected_by : (a : Action) (c : ℕ) (named gone : Bool) → (transfers a c ≡ true → named ≡ true) → (excludes a c ≡ true → named ≡ false) →
    is_elected_mark (mark_by a c (cond named 1 (cond gone 2 0))) ≡ named
elected_by First c named gone on out = standing_elected named gone
elected_by (Surplus d) c named gone on out = by_test (eqb d c) on
  where
    by_test : (b : Bool) → (b ≡ true → named ≡ true) → is_elected_mark (cond b 3 (cond named 1 (cond gone 2 0))) ≡ named
    by_test true h = sym (h refl)
    by_test false h = standing_elected named gone
elected_by (Exclude d) c named gone on out = by_test (eqb d c) out
  where
    by_test : (b : Bool) → (b ≡ true → named ≡ false) → is_elected_mark (cond b 4 (cond named 1 (cond gone 2 0))) ≡ named
    by_test true h = sym (h refl)
    by_test false h = standing_elected named gone
elected_by (ExcludeLast d) c named gone on out = by_test (eqb d c) out
  where
    by_test : (b : Bool) → (b ≡ true → named ≡ false) → is_elected_mark (cond b 5 (cond named 1 (cond gone 2 0))) ≡ named
    by_test true h = sym (h refl)
    by_test false h = standing_elected named gone

pub elected-back : (contest : Contest) (handed : History → Stage → Option ℕ) (s : Stage) (before : History) → IsContest contest → IsRightBy contest handed (s ∷ before) →
    elected_shown (figure_of s (s ∷ before)) contest.candidates ≡ elected_after contest (s ∷ before)
elected-back contest handed s before fair right =
    filter-cong (λ c. is_elected_mark (figure_of s (s ∷ before) c).mark) (is_elected contest (s ∷ before)) contest.candidates (λ c known.
    let named = named-elected contest handed (s ∷ before) c fair right known in
    elected_by s.action c (is_named (s ∷ before) c) (is_excluded (s ∷ before) c)
    (λ t. named ∙ surplus-elected contest handed s before c fair right t) (λ e. named ∙ excluded-unelected contest handed s before c fair right e)
    ∙ named)

-- ---- the action

acts_on : Action → ℕ → Bool
acts_on First c = false
acts_on (Surplus d) c = eqb d c
acts_on (Exclude d) c = eqb d c
acts_on (ExcludeLast d) c = eqb d c

standing_none : (c : ℕ) (named gone : Bool) → action_by (cond named 1 (cond gone 2 0)) c ≡ None
standing_none c true gone = refl
standing_none c false true = refl
standing_none c false false = refl

-- a mark shows the action on its candidate, and no other
action_at : (a : Action) (c : ℕ) (named gone : Bool) → action_by (mark_by a c (cond named 1 (cond gone 2 0))) c ≡ cond (acts_on a c) (Some a) None
unfolding acts_on
action_at First c named gone = standing_none c named gone
action_at (Surplus d) c named gone = by_test _ refl
  where
    by_test : (b : Bool) → eqb d c ≡ b → action_by (cond b 3 (cond named 1 (cond gone 2 0))) c ≡ cond b (Some (Surplus d)) None
    by_test true e = ap (λ n. Some (Surplus n)) (sym (eqb-true d c e))
    by_test false e = standing_none c named gone
action_at (Exclude d) c named gone = by_test _ refl
  where
    by_test : (b : Bool) → eqb d c ≡ b → action_by (cond b 4 (cond named 1 (cond gone 2 0))) c ≡ cond b (Some (Exclude d)) None
    by_test true e = ap (λ n. Some (Exclude n)) (sym (eqb-true d c e))
    by_test false e = standing_none c named gone
action_at (ExcludeLast d) c named gone = by_test _ refl
  where
    by_test : (b : Bool) → eqb d c ≡ b → action_by (cond b 5 (cond named 1 (cond gone 2 0))) c ≡ cond b (Some (ExcludeLast d)) None
    by_test true e = ap (λ n. Some (ExcludeLast n)) (sym (eqb-true d c e))
    by_test false e = standing_none c named gone

shown_choice : (a later : Action) (b any : Bool) → later ≡ cond any a First → action_or later (cond b (Some a) None) ≡ cond (b || any) a First
shown_choice a later true any h = refl
shown_choice a later false any h = h

-- the marks show an action on one of the candidates
action_told : (f : ℕ → Figure) (a : Action) (xs : List ℕ) → ((c : ℕ) → action_by (f c).mark c ≡ cond (acts_on a c) (Some a) None) → action_shown f xs ≡ cond (list_any (acts_on a) xs) a First
action_told f a [] h = refl
action_told f a (x ∷ xs) h = ap (action_or (action_shown f xs)) (h x) ∙ shown_choice a (action_shown f xs) (acts_on a x) (list_any (acts_on a) xs) (action_told f a xs h)

either_first : (b : Bool) → cond b First First ≡ First
either_first true = refl
either_first false = refl

known_action : (contest : Contest) (s s' : Stage) (before : History) → IsSurplus contest (s' ∷ before) s.action ⊎ IsExclusion contest (s' ∷ before) s.action →
    cond (list_any (acts_on s.action) contest.candidates) s.action First ≡ s.action
unfolding acts_on
known_action contest s s' before (inl on) =
    ap (λ a. cond (list_any (acts_on a) contest.candidates) a First) on.is ∙ ap (λ b. cond b (Surplus on.c) First) on.is_candidate ∙ sym on.is
known_action contest s s' before (inr on) = ap (λ a. cond (list_any (acts_on a) contest.candidates) a First) on.is ∙ by_test _ ∙ sym on.is
  where
    by_test : (b : Bool) → let a : Action = cond b (ExcludeLast on.c) (Exclude on.c) in cond (list_any (acts_on a) contest.candidates) a First ≡ a
    by_test true = ap (λ b. cond b (ExcludeLast on.c) First) on.is_candidate
    by_test false = ap (λ b. cond b (Exclude on.c) First) on.is_candidate

is_known : (contest : Contest) (handed : History → Stage → Option ℕ) (s : Stage) (before : History) → IsRightBy contest handed (s ∷ before) →
    cond (list_any (acts_on s.action) contest.candidates) s.action First ≡ s.action
is_known contest handed s [] right =
    let is = step-first contest (handed [] s) s.action right.1.was_due in
    ap (λ a. cond (list_any (acts_on s.action) contest.candidates) a First) is ∙ either_first (list_any (acts_on s.action) contest.candidates) ∙ sym is
is_known contest handed s (s' ∷ before) right = known_action contest s s' before (step-is contest s' before (handed (s' ∷ before) s) s.action right.1.was_due)

action-back : (contest : Contest) (handed : History → Stage → Option ℕ) (s : Stage) (before : History) → IsRightBy contest handed (s ∷ before) →
    action_shown (figure_of s (s ∷ before)) contest.candidates ≡ s.action
action-back contest handed s before right =
    action_told (figure_of s (s ∷ before)) s.action contest.candidates (λ c. action_at s.action c (is_named (s ∷ before) c) (is_excluded (s ∷ before) c)) ∙ is_known contest handed s before right

-- ---- the votes

units_at : (contest : Contest) (s : Stage) (before : History) (c : ℕ) (b : Bool) → list_any (nat_eq c) contest.candidates ≡ b → (list_any (nat_eq c) contest.candidates ≡ false → votes_at s c ≡ 0) →
    votes_at s c ≡ votes_after contest (s ∷ before) c →
    cond b (votes_at s c) 0 ≡ votes_after contest (s ∷ before) c
units_at contest s before c true e none told = told
units_at contest s before c false e none told = sym (none e) ∙ told

votes-back : (contest : Contest) (handed : History → Stage → Option ℕ) (s : Stage) (before : History) → IsContest contest → IsRightBy contest handed (s ∷ before) →
    votes_shown (figure_of s (s ∷ before)) contest.candidates ≡ s.votes
votes-back contest handed s before fair right =
    map-numbers (units_shown (figure_of s (s ∷ before)) contest.candidates) (votes_after contest (s ∷ before)) (λ c column.
    units_at contest s before c _ refl ((others-voteless contest handed (s ∷ before) fair right).0 c column) (told-votes contest s before c right.1.tells column))
    ∙ sym right.1.tells.votes_told

-- ---- the stage

-- what an iteration reads from the figures of a stage: the elected candidates, and what it records
pub record IsReadOf (candidates elected : List ℕ) (s : Stage) (before : History) (now : List ℕ) (made : Stage) : Type 0 where
  pub now_is : now ≡ elected_shown (figure_of s (s ∷ before)) candidates
  pub action_is : made.action ≡ action_shown (figure_of s (s ∷ before)) candidates
  pub votes_are : made.votes ≡ votes_shown (figure_of s (s ∷ before)) candidates
  pub newly_are : made.elected ≡ filter (λ c. not (list_any (nat_eq c) elected)) now
  pub none_is : made.non_transferable ≡ s.non_transferable
  pub lost_is : made.lost ≡ s.lost

pub stage-read : (contest : Contest) (handed : History → Stage → Option ℕ) (s : Stage) (before : History) (elected now : List ℕ) (made : Stage) → IsContest contest →
    IsRightBy contest handed (s ∷ before) →
    elected ≡ elected_after contest before → IsReadOf contest.candidates elected s before now made → made ≡ s
stage-read contest handed s before elected now made fair right known read =
    let newly : made.elected ≡ s.elected =
    read.newly_are
    ∙ ap (λ (e : List ℕ). filter (λ c. not (list_any (nat_eq c) e)) now) known
    ∙ ap (filter (λ c. not (list_any (nat_eq c) (elected_after contest before)))) (read.now_is ∙ elected-back contest handed s before fair right)
    ∙ newly-elected contest before (s ∷ before) ∙ sym right.1.tells.elected_told in
    stage-made s made.action made.votes made.elected made.non_transferable made.lost
    (read.action_is ∙ action-back contest handed s before right) (read.votes_are ∙ votes-back contest handed s before fair right) newly read.none_is read.lost_is

-- ---- all stages

-- the figures of the given stages in order, after the earlier ones
pub figures_from : List ℕ → History → List Stage → List Figure
figures_from candidates before [] = []
figures_from candidates before (s ∷ later) = figures_at candidates (s ∷ before) ++ figures_from candidates (s ∷ before) later

-- another stage at the end
from-more : (candidates : List ℕ) (before : History) (xs : List Stage) (s : Stage) →
    figures_from candidates before (xs ++ s ∷ []) ≡ figures_from candidates before xs ++ figures_at candidates (s ∷ (reverse xs ++ before))
unfolding figures_from
from-more candidates before [] s = append-nil (figures_at candidates (s ∷ before))
from-more candidates before (x ∷ xs) s =
    let turned : reverse xs ++ (x ∷ before) ≡ reverse (x ∷ xs) ++ before = sym (ap (λ (l : History). l ++ before) (reverse-append (x ∷ []) xs) ∙ append_assoc (reverse xs) (x ∷ []) before) in
    ap (λ (l : List Figure). figures_at candidates (x ∷ before) ++ l) (from-more candidates (x ∷ before) xs s)
    ∙ sym (append_assoc (figures_at candidates (x ∷ before)) (figures_from candidates (x ∷ before) xs) (figures_at candidates (s ∷ (reverse xs ++ (x ∷ before)))))
    ∙ ap (λ (b : History). (figures_at candidates (x ∷ before) ++ figures_from candidates (x ∷ before) xs) ++ figures_at candidates (s ∷ b)) turned

-- all figures are those of the stages in order
all-from : (candidates : List ℕ) (stages : History) → all_figures candidates stages ≡ figures_from candidates [] (reverse stages)
unfolding figures_from
all-from candidates [] = refl
all-from candidates (s ∷ before) =
    let turned : reverse (reverse before) ++ [] ≡ before = append-nil (reverse (reverse before)) ∙ reverse-reverse before in
    ap (λ (l : List Figure). l ++ figures_at candidates (s ∷ before)) (all-from candidates before)
    ∙ ap (λ (b : History). figures_from candidates [] (reverse before) ++ figures_at candidates (s ∷ b)) (sym turned)
    ∙ sym (from-more candidates [] (reverse before) s)
    ∙ ap (figures_from candidates []) (sym (reverse-append (s ∷ []) before))

-- the progress of reading: the stages read, the candidates elected after them, and the remaining figures
pub record AreRead (contest : Contest) (history : History) (stages : List Stage) (elected : List ℕ) (rest : List Figure) : Type 0 where
  pub later : List Stage
  pub whole : stages ++ later ≡ reverse history
  pub rest_is : rest ≡ figures_from contest.candidates (reverse stages) later
  pub elected_is : elected ≡ elected_after contest (reverse stages)

none-first : (contest : Contest) (xs : List ℕ) → IsContest contest → filter (is_elected contest []) xs ≡ []
none-first contest [] fair = refl
none-first contest (x ∷ xs) fair = ap (λ b. cond b (x ∷ filter (is_elected contest []) xs) (filter (is_elected contest []) xs)) (none-elected contest x fair) ∙ none-first contest xs fair

pub none-read : (contest : Contest) (history : History) (figures : List Figure) (stages : List Stage) (elected : List ℕ) → IsContest contest → figures ≡ all_figures contest.candidates history →
    stages ≡ [] → elected ≡ [] →
    AreRead contest history stages elected figures
none-read contest history figures stages elected fair are none nobody = record {
  later = reverse history;
  whole = ap (λ (l : List Stage). l ++ reverse history) none;
  rest_is = are ∙ all-from contest.candidates history ∙ ap (λ (l : List Stage). figures_from contest.candidates (reverse l) (reverse history)) (sym none);
  elected_is = nobody ∙ sym (none-first contest contest.candidates fair) ∙ ap (λ (l : List Stage). elected_after contest (reverse l)) (sym none);
}

-- the first stages of a correct history are correct
right-first : (contest : Contest) (handed : History → Stage → Option ℕ) (newer before : History) → IsRightBy contest handed (newer ++ before) → IsRightBy contest handed before
right-first contest handed [] before right = right
right-first contest handed (s ∷ newer) before right = right-first contest handed newer before right.0

right-to : (contest : Contest) (handed : History → Stage → Option ℕ) (history : History) (stages : List Stage) (s : Stage) (later : List Stage) → IsRightBy contest handed history →
    stages ++ s ∷ later ≡ reverse history →
    IsRightBy contest handed (s ∷ reverse stages)
right-to contest handed history stages s later right whole =
    let parts : reverse later ++ (s ∷ reverse stages) ≡ history =
    ap (λ (b : History). reverse later ++ b) (sym (reverse-newest (stages ++ s ∷ []) stages s refl)) ∙ sym (reverse-append (stages ++ s ∷ []) later)
    ∙ ap reverse (append_assoc stages (s ∷ []) later ∙ whole) ∙ reverse-reverse history in
    right-first contest handed (reverse later) (s ∷ reverse stages) (subst (IsRightBy contest handed) (sym parts) right)

length-stage : (candidates : List ℕ) (s : Stage) (before : History) → length (figures_at candidates (s ∷ before)) ≡ length candidates + 2
length-stage candidates s before =
    omega (arith, length-append (map (figure_of s (s ∷ before)) candidates) (record { candidate = fractions; units = s.lost; mark = 0 } ∷ []), length-map candidates (figure_of s (s ∷ before)))

-- another stage
read_stage : (contest : Contest) (handed : History → Stage → Option ℕ) (history : History) (stages later : List Stage) (rest : List Figure) (more : List ℕ) (grown : List Stage) (n : ℕ) →
    IsRightBy contest handed history → n ≡ length contest.candidates + 2 → n ≤ length rest →
    stages ++ later ≡ reverse history → rest ≡ figures_from contest.candidates (reverse stages) later →
    ((s : Stage) → IsRightBy contest handed (s ∷ reverse stages) → take n rest ≡ figures_at contest.candidates (s ∷ reverse stages)
    → (grown ≡ stages ++ s ∷ []) × (more ≡ elected_after contest (s ∷ reverse stages))) →
    AreRead contest history grown more (drop n rest)
unfolding figures_from
read_stage contest handed history stages [] rest more grown n right size enough whole left told = absurd (omega (arith, size, enough, ap length left))
read_stage contest handed history stages (s ∷ later) rest more grown n right size enough whole left told =
    let front : List Figure = figures_at contest.candidates (s ∷ reverse stages) in
    let behind : List Figure = figures_from contest.candidates (s ∷ reverse stages) later in
    let all : n ≡ length front = omega (arith, size, length-stage contest.candidates s (reverse stages)) in
    let shown : take n rest ≡ front = ap (λ k. take k rest) all ∙ ap (take (length front)) left ∙ take-append_seam front behind in
    let is = told s (right-to contest handed history stages s later right whole) shown in
    let turned : reverse grown ≡ s ∷ reverse stages = ap reverse is.0 ∙ reverse-newest (stages ++ s ∷ []) stages s refl in
    record {
      later = later;
      whole = ap (λ (l : List Stage). l ++ later) is.0 ∙ append_assoc stages (s ∷ []) later ∙ whole;
      rest_is = ap (λ k. drop k rest) all ∙ ap (drop (length front)) left ∙ drop-append_seam front behind ∙ ap (λ (b : History). figures_from contest.candidates b later) (sym turned);
      elected_is = is.1 ∙ ap (elected_after contest) (sym turned);
    }

pub read-more : (contest : Contest) (handed : History → Stage → Option ℕ) (history : History) (stages : List Stage) (rest : List Figure) (elected more : List ℕ) (grown : List Stage) (n : ℕ) →
    IsRightBy contest handed history → n ≡ length contest.candidates + 2 → n ≤ length rest →
    AreRead contest history stages elected rest →
    ((s : Stage) → IsRightBy contest handed (s ∷ reverse stages) → take n rest ≡ figures_at contest.candidates (s ∷ reverse stages)
    → (grown ≡ stages ++ s ∷ []) × (more ≡ elected_after contest (s ∷ reverse stages))) →
    AreRead contest history grown more (drop n rest)
read-more contest handed history stages rest elected more grown n right size enough read told =
    read_stage contest handed history stages read.later rest more grown n right size enough read.whole read.rest_is told

-- if fewer figures remain than a stage has, none remain, and all stages are read
few_left : (candidates : List ℕ) (before : History) (later : List Stage) → length (figures_from candidates before later) < length candidates + 2 → later ≡ []
unfolding figures_from
few_left candidates before [] few = refl
few_left candidates before (s ∷ later) few =
    absurd (omega (arith, few, length-stage candidates s before, length-append (figures_at candidates (s ∷ before)) (figures_from candidates (s ∷ before) later)))

none-later : (contest : Contest) (history : History) (stages : List Stage) (elected : List ℕ) (rest : List Figure) → (read : AreRead contest history stages elected rest) →
    length rest < length contest.candidates + 2 → read.later ≡ []
none-later contest history stages elected rest read few = few_left contest.candidates (reverse stages) read.later (omega (arith, few, ap length read.rest_is))

pub all-read : (contest : Contest) (history : History) (stages : List Stage) (elected : List ℕ) (rest : List Figure) → AreRead contest history stages elected rest →
    length rest < length contest.candidates + 2 → stages ≡ reverse history
all-read contest history stages elected rest read few =
    sym (append-nil stages) ∙ ap (λ (l : List Stage). stages ++ l) (sym (none-later contest history stages elected rest read few)) ∙ read.whole

pub none-left : (contest : Contest) (history : History) (stages : List Stage) (elected : List ℕ) (rest : List Figure) → AreRead contest history stages elected rest →
    length rest < length contest.candidates + 2 → rest ≡ []
unfolding figures_from
none-left contest history stages elected rest read few =
    read.rest_is ∙ ap (figures_from contest.candidates (reverse stages)) (none-later contest history stages elected rest read few)
