-- What a book records equals the sums that the law takes over all papers.
use Rattle.std.proofs.Common.{◌≡◌, ℕ, suc, zero, ◌++◌, ◌+◌, ◌*◌, ◌/◌, ◌≤◌, ◌||◌, ◌⊎◌, inl, inr, Bool, true, false, cond, eqb, List, [], ◌∷◌, length, map, Option, refl, sym, ap, ◌∙◌, arith, subst}
use Rattle.std.specs.List.{sum_by, range_with_len}
use Rattle.std.proofs.lemmas.Bool.{eqb-true}
use Rattle.std.proofs.lemmas.List.FromFn.{map-range_with_len_more}
use Rattle.std.proofs.Math.Nat.{div-le_of_le-mul}
use Rattle.paper.specs.Columns.{max_candidates, IsColumn}
use Rattle.votes.specs.Units.{one_vote, max_units, max_papers}
use Rattle.count.specs.Law.Contest.{Contest, History, IsContest, newest_votes, numbers}
use Rattle.count.specs.Law.Elected.{transfers, is_transferred}
use Rattle.count.specs.Law.Places.{Place, place, moved}
use Rattle.count.specs.Law.Figures.{value_with, votes_after, non_transferable_after, value_passed_on, lost_after, lost_by}
use Rattle.count.specs.Law.Right.{IsRightBy, candidate_of}
use Rattle.count.specs.Advance.{IsDue, Adds}
use Rattle.count.specs.Inside.Holdings.{total, passes_on, kept_by, worth, worth_to, votes_with, lost_with, newest_non_transferable, newest_lost, AreSmall}
use Rattle.count.specs.Books.{contest_of, AreRankings}
use Rattle.count.specs.Inside.BookInvariants.{HoldPapers, IsMovedBy, AreHeld, IsBook, Records}
use Rattle.count.specs.declared.terms.Terms.{Terms}
use Rattle.count.specs.declared.parcel.Holding.{Holding}
use Rattle.count.specs.declared.stages.Stage.{Stage}
use Rattle.count.specs.declared.stages.Action.{Action}
use Rattle.count.specs.declared.stages.Action.TheVariants.{First, Surplus, Exclude, ExcludeLast}
use Rattle.count.proofs.SumLemmas.{sum_by-same, sum_by-add, sum_by-none}
use Rattle.count.proofs.Law.ActionLemmas.{column-in}
use Rattle.count.proofs.Law.StepLemmas.{IsSurplus, IsExclusion, step-is, step-first, told-votes, votes-held}
use Rattle.count.proofs.Law.ValueLemmas.{held, all_values}
use Rattle.count.proofs.MoveLemmas.{surplus-lawful}
use Rattle.count.proofs.Law.QuotaLemmas.{values-conserved, values-conserved-next}
use Rattle.count.proofs.ChoiceLemmas.{eqb_swap, or_false}
use Rattle.count.proofs.Law.CandidateSums.{one-within}

-- whichever holder a paper has, an action that passes on the papers of h leaves h none of its earlier papers
kept_value : (action : Action) (k h v : ℕ) (b t : Bool) → passes_on action h ≡ b → eqb k h ≡ t → let zero_ : ℕ = 0 in cond (passes_on action k) zero_ (cond t v 0) ≡ cond b zero_ (cond t v 0)
kept_value action k h v b true e same = ap (λ c. cond c 0 v) (ap (passes_on action) (eqb-true k h same) ∙ e)
kept_value action k h v b false e other = nothing (passes_on action k) b
  where
    nothing : (x y : Bool) → let zero_ : ℕ = 0 in cond x zero_ zero_ ≡ cond y zero_ zero_
    nothing true true = refl
    nothing true false = refl
    nothing false true = refl
    nothing false false = refl

none_or_all : (b : Bool) (f : List ℕ → ℕ) (papers : List (List ℕ)) → sum_by (λ p. cond b 0 (f p)) papers ≡ cond b 0 (sum_by f papers)
none_or_all true f papers = sum_by-none _ papers (λ p. refl)
none_or_all false f papers = refl

nothing_kept : (b : Bool) → let zero_ : ℕ = 0 in zero_ ≡ cond b zero_ zero_
nothing_kept true = refl
nothing_kept false = refl

nothing_with : (h : ℕ) (b : Bool) → let zero_ : ℕ = 0 in cond b zero_ zero_ ≡ zero_
nothing_with h true = refl
nothing_with h false = refl

-- before the first stage no candidate holds anything
held-none : (contest : Contest) (h : ℕ) → held contest [] h ≡ 0
held-none contest h = sum_by-none _ contest.papers (λ p. nothing_with h (eqb 0 h))

-- the worth to h of the holdings that an action leaves
kept-worth : (contest : Contest) (before : History) (action : Action) (h : ℕ) (holdings : List Holding) → AreHeld contest before holdings →
    total (kept_by (λ k rest v. cond (eqb k h) v 0) action) holdings ≡ cond (passes_on action h) 0 (held contest before h)
kept-worth contest [] action h holdings none =
    ap (total (kept_by (λ k rest v. cond (eqb k h) v 0) action)) none ∙ nothing_kept (passes_on action h) ∙ ap (λ n. cond (passes_on action h) 0 n) (sym (held-none contest h))
kept-worth contest (s ∷ before) action h holdings under =
    sym (under.0 (kept_by (λ k rest v. cond (eqb k h) v 0) action))
    ∙ sum_by-same _ _ contest.papers (λ p. let at = place contest (s ∷ before) p in kept_value action at.holder h at.value (passes_on action h) (eqb at.holder h) refl refl)
    ∙ none_or_all (passes_on action h) (λ p. value_with h (place contest (s ∷ before) p)) contest.papers

-- After an action, h holds what the action transferred to h, and what h held before unless it was passed on.
held-after : (contest : Contest) (before : History) (s : Stage) (h : ℕ) (holdings new : List Holding) → AreHeld contest before holdings → IsMovedBy contest before s.action holdings new →
    held contest (s ∷ before) h ≡ worth_to h new + cond (passes_on s.action h) 0 (held contest before h)
held-after contest before s h holdings new under is_moved =
    is_moved (λ k rest v. cond (eqb k h) v 0) s refl ∙ ap (λ n. worth_to h new + n) (kept-worth contest before s.action h holdings under)

newest_held : (contest : Contest) (handed : History → Stage → Option ℕ) (before : History) (c : ℕ) → IsRightBy contest handed before → IsColumn c → is_transferred before c ≡ false →
    newest_votes before c ≡ held contest before c
newest_held contest handed [] c right column fresh = sym (held-none contest c)
newest_held contest handed (s ∷ before) c right column fresh = told-votes contest s before c right.1.tells column ∙ votes-held contest (s ∷ before) c fresh

votes_choice : (contest : Contest) (handed : History → Stage → Option ℕ) (before : History) (s : Stage) (c : ℕ) (new : List Holding) (b : Bool) →
    (transfers s.action c || is_transferred before c) ≡ b →
    IsRightBy contest handed before → IsColumn c → held contest (s ∷ before) c ≡ worth_to c new + cond (passes_on s.action c) 0 (held contest before c) →
    cond b contest.quota (worth_to c new + cond (passes_on s.action c) 0 (newest_votes before c)) ≡ cond b contest.quota (held contest (s ∷ before) c)
votes_choice contest handed before s c new true e right column is = refl
votes_choice contest handed before s c new false e right column is =
    ap (λ n. worth_to c new + cond (passes_on s.action c) 0 n) (newest_held contest handed before c right column (or_false (transfers s.action c) (is_transferred before c) e).1) ∙ sym is

-- the votes of a candidate after an action
votes-are : (contest : Contest) (handed : History → Stage → Option ℕ) (before : History) (s : Stage) (c : ℕ) (holdings new : List Holding) → IsRightBy contest handed before → IsColumn c →
    AreHeld contest before holdings → IsMovedBy contest before s.action holdings new → votes_with contest.quota before s.action new c ≡ votes_after contest (s ∷ before) c
votes-are contest handed before s c holdings new right column under is_moved =
    votes_choice contest handed before s c new _ refl right column (held-after contest before s c holdings new under is_moved)

-- no candidate has the number 0
passes_none : (contest : Contest) (stages : History) (action : Action) → IsContest contest → IsSurplus contest stages action ⊎ IsExclusion contest stages action → passes_on action 0 ≡ false
passes_none contest stages action fair (inl on) = ap (λ a. passes_on a 0) on.is ∙ not_zero on.c (eqb on.c 0) refl (column-in on.c contest.candidates fair.candidate_set on.is_candidate).0
  where
    not_zero : (c : ℕ) (b : Bool) → eqb c 0 ≡ b → 1 ≤ c → b ≡ false
    not_zero c true e some = absurd (omega (arith, eqb-true c 0 e, some))
    not_zero c false e some = refl
passes_none contest stages action fair (inr on) = ap (λ a. passes_on a 0) on.is ∙ not_zero _ on.c (eqb on.c 0) refl (column-in on.c contest.candidates fair.candidate_set on.is_candidate).0
  where
    not_zero : (last : Bool) (c : ℕ) (b : Bool) → eqb c 0 ≡ b → 1 ≤ c → passes_on (cond last (ExcludeLast c) (Exclude c)) 0 ≡ false
    not_zero true c b e some = refl
    not_zero false c true e some = absurd (omega (arith, eqb-true c 0 e, some))
    not_zero false c false e some = e

passes_no_one : (contest : Contest) (stages : History) (action : Action) → IsContest contest → IsDue contest stages action → passes_on action 0 ≡ false
passes_no_one contest [] action fair due = ap (λ a. passes_on a 0) (step-first contest due.lot action due.is)
passes_no_one contest (s ∷ before) action fair due = passes_none contest (s ∷ before) action fair (step-is contest s before due.lot action due.is)

newest_none : (contest : Contest) (handed : History → Stage → Option ℕ) (before : History) → IsRightBy contest handed before → newest_non_transferable before ≡ held contest before 0
newest_none contest handed [] right = sym (held-none contest 0)
newest_none contest handed (s ∷ before) right = right.1.tells.non_transferable_told

-- the non-transferable votes after an action
non_transferable-are : (contest : Contest) (handed : History → Stage → Option ℕ) (before : History) (s : Stage) (holdings new : List Holding) → IsContest contest → IsRightBy contest handed before →
    IsDue contest before s.action →
    AreHeld contest before holdings → IsMovedBy contest before s.action holdings new → newest_non_transferable before + worth_to 0 new ≡ non_transferable_after contest (s ∷ before)
non_transferable-are contest handed before s holdings new fair right due under is_moved =
    let kept : cond (passes_on s.action 0) 0 (held contest before 0) ≡ held contest before 0 = ap (λ b. cond b 0 (held contest before 0)) (passes_no_one contest before s.action fair due) in
    omega (arith, held-after contest before s 0 holdings new under is_moved, kept, newest_none contest handed before right)

pub newest_lost-is : (contest : Contest) (handed : History → Stage → Option ℕ) (before : History) → IsRightBy contest handed before → newest_lost before ≡ lost_after contest before
newest_lost-is contest handed [] right = refl
newest_lost-is contest handed (s ∷ before) right = right.1.tells.lost_told

value_choice : (b : Bool) (h w : ℕ) (at : Place) → let m : Place = record { holder = h; value = w } in
    cond b 0 at.value + cond b (cond b m at).value 0 ≡ (cond b m at).value
value_choice true h w at = omega arith
value_choice false h w at = omega arith

-- the papers that a surplus transfers are worth what it moved
surplus-gives : (contest : Contest) (before : History) (s : Stage) (c : ℕ) (holdings new : List Holding) → s.action ≡ Surplus c → HoldPapers contest before holdings →
    IsMovedBy contest before s.action holdings new →
    worth new ≡ value_passed_on contest s before c
surplus-gives contest before s c holdings new is hold is_moved =
    let kept : total (kept_by (λ k rest v. v) s.action) holdings ≡ sum_by (λ p. cond (eqb (place contest before p).holder c) 0 (place contest before p).value) contest.papers =
    sym (hold (kept_by (λ k rest v. v) s.action))
    ∙ sum_by-same _ _ contest.papers (λ p. let at = place contest before p in
    ap (λ a. cond (passes_on a at.holder) 0 at.value) is ∙ ap (λ b. cond b 0 at.value) (eqb_swap c at.holder)) in
    let parts : sum_by (λ p. cond (eqb (place contest before p).holder c) 0 (place contest before p).value) contest.papers + value_passed_on contest s before c ≡ all_values contest (s ∷ before) =
    sym (sum_by-add (λ p. cond (eqb (place contest before p).holder c) 0 (place contest before p).value)
    (λ p. cond (eqb (place contest before p).holder c) (place contest (s ∷ before) p).value 0) contest.papers)
    ∙ sum_by-same _ _ contest.papers (λ p. let at = place contest before p in
    let claim : Action → Type 0 = λ a. cond (eqb at.holder c) 0 at.value + cond (eqb at.holder c) (moved contest before a p at).value 0 ≡ (moved contest before a p at).value in
    subst claim (sym is) (value_choice (eqb at.holder c) _ _ at)) in
    let all : all_values contest (s ∷ before) ≡ worth new + total (kept_by (λ k rest v. v) s.action) holdings = is_moved (λ k rest v. v) s refl in
    omega (arith, kept, parts, all)

-- the loss after an action
lost_at_action : (contest : Contest) (handed : History → Stage → Option ℕ) (before : History) (s : Stage) (holdings new : List Holding) (action : Action) → s.action ≡ action →
    IsRightBy contest handed before → IsDue contest before action →
    AreHeld contest before holdings → IsMovedBy contest before s.action holdings new → lost_with contest.quota before action new ≡ lost_after contest before + lost_by contest s before action
lost_at_action contest handed before s holdings new First is right due under is_moved = omega (arith, newest_lost-is contest handed before right)
lost_at_action contest handed [] s holdings new (Surplus c) is right due under is_moved = let e = step-first contest due.lot (Surplus c) due.is in cc
lost_at_action contest handed (s' ∷ before) s holdings new (Surplus c) is right due under is_moved =
    omega (arith, newest_lost-is contest handed (s' ∷ before) right, surplus-gives contest (s' ∷ before) s c holdings new is under.0 is_moved)
lost_at_action contest handed before s holdings new (Exclude c) is right due under is_moved = omega (arith, newest_lost-is contest handed before right)
lost_at_action contest handed before s holdings new (ExcludeLast c) is right due under is_moved = omega (arith, newest_lost-is contest handed before right)

map-range : (f g : ℕ → ℕ) (n : ℕ) → n ≤ max_candidates → ((c : ℕ) → IsColumn c → f c ≡ g c) → map f (range_with_len 1 n) ≡ map g (range_with_len 1 n)
map-range f g zero few h = refl
map-range f g (suc n) few h =
    let e : suc n ≡ n + 1 = omega arith in
    let one : f (n + 1) ≡ g (n + 1) = h (n + 1) (omega arith, omega (arith, few)) in
    ap (λ k. map f (range_with_len 1 k)) e ∙ map-range_with_len_more f 1 n (n + 1) (omega arith)
    ∙ ap (λ l. l ++ f (n + 1) ∷ []) (map-range f g n (omega (arith, few)) h) ∙ ap (λ x. map g (range_with_len 1 n) ++ x ∷ []) one
    ∙ sym (map-range_with_len_more g 1 n (n + 1) (omega arith)) ∙ sym (ap (λ k. map g (range_with_len 1 k)) e)

-- functions that agree on candidate numbers yield the same list
pub map-numbers : (f g : ℕ → ℕ) → ((c : ℕ) → IsColumn c → f c ≡ g c) → map f numbers ≡ map g numbers
map-numbers f g h = map-range f g 30 (omega arith) h

-- what a stage records after an action is what the definitions require
pub records-adds : (terms : Terms) (papers : List (List ℕ)) (before after : History) (action : Action) (holdings new : List Holding) → IsBook (contest_of terms papers) before holdings →
    IsDue (contest_of terms papers) before action → IsMovedBy (contest_of terms papers) before action holdings new → Records terms before action new after
    → Adds (contest_of terms papers) before action after
records-adds terms papers before after action holdings new book due is_moved records =
    let contest : Contest = contest_of terms papers in
    let s : Stage = records.stage in
    let handed : History → Stage → Option ℕ = λ h t. candidate_of t.action in
    let due_s : IsDue contest before s.action = subst (IsDue contest before) (sym records.of_action) due in
    let moved_s : IsMovedBy contest before s.action holdings new = subst (λ (a : Action). IsMovedBy contest before a holdings new) (sym records.of_action) is_moved in
    record {
      stage = s;
      one_more = records.one_more;
      of_action = records.of_action;
      tells = record {
        votes_told =
            records.votes_are
            ∙ ap (λ (a : Action). map (votes_with contest.quota before a new) numbers) (sym records.of_action)
            ∙ map-numbers (votes_with contest.quota before s.action new) (votes_after contest (s ∷ before))
            (λ c column. votes-are contest handed before s c holdings new book.right column book.held moved_s);
        elected_told = records.elected_are;
        non_transferable_told = records.non_transferable_is ∙ non_transferable-are contest handed before s holdings new book.fair book.right due_s book.held moved_s;
        lost_told =
            records.lost_is
            ∙ ap (λ (a : Action). lost_with contest.quota before a new) (sym records.of_action)
            ∙ lost_at_action contest handed before s holdings new s.action refl book.right due_s book.held moved_s;
      };
    }

quota_small : (n seats : ℕ) → 1 ≤ seats → n ≤ max_papers → one_vote * (n / (seats + 1) + 1) ≤ max_units
quota_small n seats some few =
    let part : n / (seats + 1) ≤ 2499750 = div-le_of_le-mul (seats + 1) (omega (arith, some, few)) in
    omega (arith, part)

votes_small_choice : (b : Bool) (q v n : ℕ) → q ≤ n → v ≤ n → cond b q v ≤ n
votes_small_choice true q v n h k = h
votes_small_choice false q v n h k = k

-- no figure of a correct history exceeds one vote for each of the maximum number of papers
pub newest_small : (contest : Contest) (handed : History → Stage → Option ℕ) (before : History) (new : List Holding) → IsContest contest → IsRightBy contest handed before → worth new ≤ max_units →
    AreSmall before new
newest_small contest handed [] new fair right small = record { votes_small = λ c some few. omega arith; non_transferable_small = omega arith; lost_small = omega arith; moved_small = small }
newest_small contest handed (s ∷ before) new fair right small =
    let stages : History = s ∷ before in
    let all = values-conserved contest handed s before fair right in
    let holder : (h : ℕ) → held contest stages h ≤ all_values contest stages = λ h. one-within contest stages h in
    let quota_few : contest.quota ≤ max_units = omega (arith, fair.quota_is, quota_small (length contest.papers) contest.seats fair.some_seats fair.few_papers) in
    record {
      votes_small = λ c some few.
          let told = told-votes contest s before c right.1.tells (some, few) in
          let one = votes_small_choice (is_transferred stages c) contest.quota (held contest stages c) max_units quota_few (omega (arith, holder c, all, fair.few_papers)) in
          omega (arith, told, one);
      non_transferable_small = omega (arith, right.1.tells.non_transferable_told, holder 0, all, fair.few_papers);
      lost_small = omega (arith, right.1.tells.lost_told, all, fair.few_papers);
      moved_small = small;
    }

-- the worth of what an action moved is small too
pub moved-small : (contest : Contest) (before : History) (action : Action) (holdings new : List Holding) → IsBook contest before holdings → IsDue contest before action →
    IsMovedBy contest before action holdings new → AreSmall before new
moved-small contest before action holdings new book due is_moved =
    let handed : History → Stage → Option ℕ = λ h t. candidate_of t.action in
    let bare : Stage = record { action = action; votes = []; elected = []; non_transferable = 0; lost = 0 } in
    let all = values-conserved-next contest handed bare before book.fair book.right due in
    let parts : all_values contest (bare ∷ before) ≡ worth new + total (kept_by (λ k rest v. v) action) holdings = is_moved (λ k rest v. v) bare refl in
    newest_small contest handed before new book.fair book.right (omega (arith, all, parts, book.fair.few_papers))

-- a surplus belongs to a candidate
pub surplus-column : (contest : Contest) (stages : History) (holdings : List Holding) (action : Action) → IsBook contest stages holdings → IsDue contest stages action → (c : ℕ) →
    action ≡ Surplus c → IsColumn c
surplus-column contest stages holdings action book due c is = (surplus-lawful contest stages c book.fair book.right (subst (IsDue contest stages) is due)).column

-- after the action, the papers are those that it moved and those that it left
pub held-next : (contest : Contest) (before after : History) (action : Action) (holdings new joined : List Holding) → IsMovedBy contest before action holdings new → AreRankings contest.papers →
    Adds contest before action after → ((f : ℕ → List ℕ → ℕ → ℕ) → total f joined ≡ total f new + total (kept_by f action) holdings) → AreHeld contest after joined
held-next contest before after action holdings new joined is_moved rankings adds all =
    subst (λ (h : History). AreHeld contest h joined) (sym adds.one_more)
    ((λ f. is_moved f adds.stage adds.of_action ∙ sym (all f)), rankings)
