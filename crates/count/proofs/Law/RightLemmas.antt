-- Of two correct lists of stages, one is a prefix of the other, and there is only one count.
use Rattle.std.proofs.Common.{◌≡◌, ℕ, ◌+◌, ◌-◌, Bool, true, false, not, cond, ◌≤◌, inl, inr, drop, eqb, nat_eq, List, [], ◌∷◌, length, map, Option, Some, None, refl, sym, ap, ◌∙◌, arith}
use Rattle.std.proofs.Common.{subst, suc, zero, length-drop}
use Rattle.std.specs.List.{sum_by, filter, list_any}
use Rattle.std.specs.List.Sorted.{IsPermutation}
use Rattle.std.proofs.lemmas.List.Sorted.{sum_by-IsPermutation}
use Rattle.count.specs.Law.Contest.{Contest, History, numbers}
use Rattle.count.specs.Law.Places.{Place, place, moved, surplus_of}
use Rattle.count.specs.Law.Due.{due_after, drawn, lot_for, next_action, action_on}
use Rattle.count.specs.Law.Figures.{votes_after, non_transferable_after, lost_after, lost_by, value_passed_on, value_with}
use Rattle.count.specs.Law.Elected.{elected_after, is_elected, is_transferred}
use Rattle.count.specs.Law.Right.{Tells, IsRight, IsCount, reordered, IsBeginning, BeginsEachRight, EqualsEachCount, IsWholeCount, OneBeginsOther}
use Rattle.count.specs.Law.Count.{stage_of}
use Rattle.count.specs.Advance.{AdvancesBy, end_of, end_after}
use Rattle.count.specs.declared.count_to_end.CountEnd.{CountEnd}
use Rattle.count.specs.declared.count_to_end.CountEnd.TheVariants.{LotNotAmong}
use Rattle.std.proofs.Math.Nat.{eq-or-lt_of_le}
use Rattle.std.proofs.lemmas.Bool.{cases_order}
use Rattle.count.specs.declared.stages.Due.{Due}
use Rattle.count.specs.declared.stages.Due.TheVariants.{Act, Lot, Finished}
use Rattle.count.specs.declared.stages.Stage.{Stage}
use Rattle.count.specs.declared.stages.Action.{Action}
use Rattle.count.specs.declared.stages.Action.TheVariants.{First, Surplus, Exclude, ExcludeLast}
use Rattle.count.proofs.SumLemmas.{sum_by-same}

-- a stage is determined by its action and the earlier stages
pub is_told : (contest : Contest) (before : History) (s : Stage) → Tells contest before s → s ≡ stage_of contest before s.action
is_told contest before s tells =
    let bare : Stage = record { action = s.action; votes = []; elected = []; non_transferable = 0; lost = 0 } in
    let vs : List ℕ = map (votes_after contest (bare ∷ before)) numbers in
    let told_votes : s.votes ≡ vs = tells.votes_told in
    let told_elected : s.elected ≡ filter (λ c. not (is_elected contest before c))
    (elected_after contest (record { action = s.action; votes = vs; elected = []; non_transferable = 0; lost = 0 } ∷ before)) =
    tells.elected_told ∙ ap (λ (v : List ℕ). filter (λ c. not (is_elected contest before c))
    (elected_after contest (record { action = s.action; votes = v; elected = []; non_transferable = 0; lost = 0 } ∷ before))) told_votes in
    ap (λ (v : List ℕ). let t : Stage = record { action = s.action; votes = v; elected = s.elected; non_transferable = s.non_transferable; lost = s.lost } in t) told_votes
    ∙ ap (λ (e : List ℕ). let t : Stage = record { action = s.action; votes = vs; elected = e; non_transferable = s.non_transferable; lost = s.lost } in t) told_elected
    ∙ ap (λ (n : ℕ). let t : Stage = record {
      action = s.action;
      votes = vs;
      elected = filter (λ c. not (is_elected contest before c))
          (elected_after contest (record { action = s.action; votes = vs; elected = []; non_transferable = 0; lost = 0 } ∷ before));
      non_transferable = n;
      lost = s.lost;
    } in t)
    tells.non_transferable_told
    ∙ ap (λ (n : ℕ). let t : Stage = record {
      action = s.action;
      votes = vs;
      elected = filter (λ c. not (is_elected contest before c))
          (elected_after contest (record { action = s.action; votes = vs; elected = []; non_transferable = 0; lost = 0 } ∷ before));
      non_transferable =
          non_transferable_after contest (bare ∷ before);
      lost = n;
    } in t) tells.lost_told

some_same : (a b : Action) (o : Option Action) → o ≡ Some a → o ≡ Some b → a ≡ b
some_same a b o h k = cc

-- Two correct histories of the same length are equal.
pub right_same : (contest : Contest) (lots : List (ℕ × ℕ)) (xs ys : History) → IsRight contest lots xs → IsRight contest lots ys → length xs ≡ length ys → xs ≡ ys
right_same contest lots [] [] h k e = refl
right_same contest lots [] (y ∷ ys) h k e = absurd (omega (arith, e))
right_same contest lots (x ∷ xs) [] h k e = absurd (omega (arith, e))
right_same contest lots (x ∷ xs) (y ∷ ys) h k e =
    let before : xs ≡ ys = right_same contest lots xs ys h.0 k.0 (omega (arith, e)) in
    let due_x : drawn contest ys (lot_for lots (length ys + 1)) (due_after contest ys) ≡ Some x.action = rw (← before) h.1.was_due in
    let same : x.action ≡ y.action = some_same _ _ _ due_x k.1.was_due in
    let head : x ≡ y = is_told contest xs x h.1.tells ∙ ap (λ (b : History). stage_of contest b x.action) before ∙ ap (stage_of contest ys) same ∙ sym (is_told contest ys y k.1.tells) in
    ap (λ (s : Stage). s ∷ xs) head ∙ ap (λ (b : History). y ∷ b) before

same_moved : (contest : Contest) (papers : List (List ℕ)) (before : History) (a : Action) (p : List ℕ) (at at' : Place) →
    at' ≡ at → moved (reordered contest papers) before a p at' ≡ moved contest before a p at
same_moved contest papers before a p at at' same = ap (moved contest before a p) same

pub same_place : (contest : Contest) (papers : List (List ℕ)) (stages : History) (p : List ℕ) → place (reordered contest papers) stages p ≡ place contest stages p
same_place contest papers [] p = refl
same_place contest papers (s ∷ before) p = same_moved contest papers before s.action p _ _ (same_place contest papers before p)

-- a sum over the papers at their places is the same in any order
same_sum : (contest : Contest) (papers : List (List ℕ)) (stages : History) (f : List ℕ → Place → ℕ) → IsPermutation contest.papers papers →
    sum_by (λ p. f p (place (reordered contest papers) stages p)) papers ≡ sum_by (λ p. f p (place contest stages p)) contest.papers
same_sum contest papers stages f order =
    sum_by-same _ _ papers (λ p. ap (f p) (same_place contest papers stages p)) ∙ sum_by-IsPermutation (λ p. f p (place contest stages p)) contest.papers papers order

same_votes : (contest : Contest) (papers : List (List ℕ)) (stages : History) (c : ℕ) → IsPermutation contest.papers papers →
    votes_after (reordered contest papers) stages c ≡ votes_after contest stages c
same_votes contest papers stages c order = ap (λ n. cond (is_transferred stages c) contest.quota n) (same_sum contest papers stages (λ p at. value_with c at) order)

map-cong : (f g : ℕ → ℕ) (xs : List ℕ) → ((x : ℕ) → f x ≡ g x) → map f xs ≡ map g xs
map-cong f g [] h = refl
map-cong f g (x ∷ xs) h = ap (λ y. y ∷ map f xs) (h x) ∙ ap (λ l. g x ∷ l) (map-cong f g xs h)

same_taken : (contest : Contest) (papers : List (List ℕ)) (s : Stage) (before : History) (c : ℕ) → IsPermutation contest.papers papers →
    value_passed_on (reordered contest papers) s before c ≡ value_passed_on contest s before c
same_taken contest papers s before c order =
    sum_by-same _ _ papers (λ p.
    ap (λ (at : Place). cond (eqb at.holder c) (place (reordered contest papers) (s ∷ before) p).value 0) (same_place contest papers before p)
    ∙ ap (λ (at : Place). cond (eqb (place contest before p).holder c) at.value 0) (same_place contest papers (s ∷ before) p))
    ∙ sum_by-IsPermutation (λ p. cond (eqb (place contest before p).holder c) (place contest (s ∷ before) p).value 0) contest.papers papers order

same_lost_at : (contest : Contest) (papers : List (List ℕ)) (s : Stage) (before : History) (a : Action) → IsPermutation contest.papers papers →
    lost_by (reordered contest papers) s before a ≡ lost_by contest s before a
same_lost_at contest papers s before First order = refl
same_lost_at contest papers s before (Surplus c) order = ap (λ n. surplus_of contest before c - n) (same_taken contest papers s before c order)
same_lost_at contest papers s before (Exclude c) order = refl
same_lost_at contest papers s before (ExcludeLast c) order = refl

same_lost : (contest : Contest) (papers : List (List ℕ)) (stages : History) → IsPermutation contest.papers papers → lost_after (reordered contest papers) stages ≡ lost_after contest stages
same_lost contest papers [] order = refl
same_lost contest papers (s ∷ before) order =
    omega (arith, same_lost contest papers before order, same_lost_at contest papers s before s.action order)

pub same_tells : (contest : Contest) (papers : List (List ℕ)) (before : History) (s : Stage) → IsPermutation contest.papers papers →
    Tells (reordered contest papers) before s → Tells contest before s
same_tells contest papers before s order tells = record {
  votes_told = tells.votes_told ∙ map-cong _ _ numbers (λ c. same_votes contest papers (s ∷ before) c order);
  elected_told = tells.elected_told;
  non_transferable_told = tells.non_transferable_told ∙ same_sum contest papers (s ∷ before) (λ p at. value_with 0 at) order;
  lost_told = tells.lost_told ∙ same_lost contest papers (s ∷ before) order;
}

-- A history that is correct for the papers in one order is correct for them in any other.
pub right_reordered : (contest : Contest) (lots : List (ℕ × ℕ)) (papers : List (List ℕ)) (stages : History) → IsPermutation contest.papers papers →
    IsRight (reordered contest papers) lots stages → IsRight contest lots stages
right_reordered contest lots papers [] order right = tt
right_reordered contest lots papers (s ∷ before) order right =
    (right_reordered contest lots papers before order right.0, record { was_due = right.1.was_due; tells = same_tells contest papers before s order right.1.tells })

pub right_drop : (contest : Contest) (lots : List (ℕ × ℕ)) (k : ℕ) (stages : History) → IsRight contest lots stages → IsRight contest lots (drop k stages)
right_drop contest lots zero stages right = right
right_drop contest lots (suc k) [] right = tt
right_drop contest lots (suc k) (s ∷ before) right = right_drop contest lots k before right.0

-- if no action is next, no correct history is longer
longest : (contest : Contest) (lots : List (ℕ × ℕ)) (whole stages : History) → IsRight contest lots whole → next_action contest lots whole ≡ None →
    IsRight contest lots stages → length stages ≤ length whole
longest contest lots whole [] right_whole ended right = omega arith
longest contest lots whole (s ∷ before) right_whole ended right =
    let shorter = longest contest lots whole before right_whole ended right.0 in
    elim (eq-or-lt_of_le shorter) [
      | inl same ↦
          let is : before ≡ whole = right_same contest lots before whole right.0 right_whole same in
          absurd (let due_here : next_action contest lots before ≡ Some s.action = right.1.was_due in let none : next_action contest lots before ≡ None = rw is ended in cc)
      | inr less ↦ omega (arith, less)
    ]

ended_among : (b : Bool) (e : CountEnd) (a : Action) (end : CountEnd) → cond b None (Some e) ≡ Some end → cond b (Some a) None ≡ None
ended_among true e a end h = cc
ended_among false e a end h = refl

ended-next : (contest : Contest) (stages : History) (lot : Option ℕ) (d : Due) (end : CountEnd) → end_of lot d ≡ Some end → drawn contest stages lot d ≡ None
ended-next contest stages lot (Act a) end h = cc
ended-next contest stages lot Finished end h = refl
ended-next contest stages None (Lot n k tied) end h = refl
ended-next contest stages (Some c) (Lot n k tied) end h = ended_among (list_any (nat_eq c) tied) (LotNotAmong n) (action_on contest stages k c) end h

-- If a count has ended, each correct history of its papers, in any order, is a prefix of it.
begins_each_right : (contest : Contest) (lots : List (ℕ × ℕ)) (whole : History) (end : CountEnd) → IsRight contest lots whole → end_after contest lots whole ≡ Some end →
    BeginsEachRight contest lots whole
begins_each_right contest lots whole end right ended papers stages order right_stages =
    let here = right_reordered contest lots papers stages order right_stages in
    let within = longest contest lots whole stages right (ended-next contest whole (lot_for lots (length whole + 1)) (due_after contest whole) end ended) here in
    record {
      within = within;
      is = right_same contest lots _ stages (right_drop contest lots (length whole - length stages) whole right) here (length-drop (length whole - length stages) whole ∙ omega (arith, within));
    }

beginning : (contest : Contest) (lots : List (ℕ × ℕ)) (stages whole : History) → IsRight contest lots stages → IsRight contest lots whole → length stages ≤ length whole → IsBeginning stages whole
beginning contest lots stages whole right right_whole within = record {
  within = within;
  is = right_same contest lots _ stages (right_drop contest lots (length whole - length stages) whole right_whole) right (length-drop (length whole - length stages) whole ∙ omega (arith, within));
}

-- Of two correct histories, one is a prefix of the other.
pub one_begins : (contest : Contest) (lots : List (ℕ × ℕ)) → OneBeginsOther contest lots
one_begins contest lots papers one other order right_one right_other =
    let here = right_reordered contest lots papers other order right_other in
    elim (cases_order (length one) (length other)) [
      | inl same ↦ inl (beginning contest lots one other right_one here (omega (arith, same)))
      | inr (inl less) ↦ inl (beginning contest lots one other right_one here (omega (arith, less)))
      | inr (inr more) ↦ inr (beginning contest lots other one here right_one (omega (arith, more)))
    ]

-- If a count has ended, every count of its papers, in any order, equals it.
equals_each : (contest : Contest) (lots : List (ℕ × ℕ)) (whole : History) → IsCount contest lots whole → EqualsEachCount contest lots whole
equals_each contest lots whole count papers stages order other =
    let here = right_reordered contest lots papers stages order other.0 in
    let within = longest contest lots whole stages count.0 count.1 here in
    let above = longest contest lots stages whole here other.1 count.0 in
    right_same contest lots stages whole here count.0 (omega (arith, within, above))

-- If a count has ended, it is the whole count.
pub whole_count : (contest : Contest) (lots : List (ℕ × ℕ)) (whole : History) (end : CountEnd) → IsRight contest lots whole → end_after contest lots whole ≡ Some end → IsWholeCount contest lots whole
whole_count contest lots whole end right ended =
    let count : IsCount contest lots whole = (right, ended-next contest whole (lot_for lots (length whole + 1)) (due_after contest whole) end ended) in
    record { ended = count; begins_each = begins_each_right contest lots whole end right ended; equals_each = equals_each contest lots whole count }

-- a history is a prefix of itself, and remains a prefix if a stage is added
pub begins_itself : (stages : History) → IsBeginning stages stages
begins_itself stages =
    let none : length stages - length stages ≡ 0 = omega arith in
    record { within = omega arith; is = ap (λ n. drop n stages) none }

pub begins_next : (contest : Contest) (lots : List (ℕ × ℕ)) (stages before after : History) → IsBeginning stages before → AdvancesBy contest lots before after → IsBeginning stages after
begins_next contest lots stages before after begun step =
    let more : suc (length before) - length stages ≡ suc (length before - length stages) = omega (arith, begun.within) in
    subst (IsBeginning stages) (sym step.one_more)
    (record { within = omega (arith, begun.within); is = ap (λ n. drop n (step.stage ∷ before)) more ∙ begun.is })

pub ruleset beginnings = (begins_itself, begins_next)
