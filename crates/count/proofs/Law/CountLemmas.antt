-- The computed stages are the correct ones.
use Rattle.std.proofs.Common.{◌≡◌, ℕ, zero, suc, ◌+◌, ◌≤◌, true, false, Bool, cond, nat_eq, List, [], ◌∷◌, ◌++◌, length, map, Option, Some, None, refl, sym, ap, ◌∙◌, arith}
use Rattle.std.specs.Prelude.{IfSome, IfNone}
use Rattle.std.specs.List.{list_any, range_with_len}
use Rattle.std.specs.List.Sorted.{IsPermutation}
use Rattle.std.proofs.lemmas.List.FromFn.{map-range_with_len_more}
use Rattle.count.specs.Law.Contest.{Contest, History}
use Rattle.count.specs.Law.Due.{due_after, drawn, lot_for, next_action, action_on}
use Rattle.count.specs.Law.Right.{Tells, IsRight, reordered}
use Rattle.count.specs.Law.Count.{stage_of, with_stage, with_next, stages_to, due_or, due_by}
use Rattle.count.specs.Advance.{AdvancesBy, refusal, end_of, end_after}
use Rattle.count.specs.declared.stages.Stage.{Stage}
use Rattle.count.specs.declared.stages.Action.{Action}
use Rattle.count.specs.declared.stages.Due.{Due}
use Rattle.count.specs.declared.stages.Due.TheVariants.{Act, Lot, Finished}
use Rattle.count.specs.declared.book.AdvanceError.{AdvanceError}
use Rattle.count.specs.declared.book.AdvanceError.TheVariants.{LotNotAmong as not_among}
use Rattle.count.specs.declared.count_to_end.CountEnd.{CountEnd}
use Rattle.count.specs.declared.count_to_end.CountEnd.TheVariants.{LotNotAmong as misses_lot}
use Rattle.count.proofs.Law.RightLemmas.{is_told, same_tells}

-- a computed stage records what it must
told_of : (contest : Contest) (before : History) (action : Action) → Tells contest before (stage_of contest before action)
told_of contest before action = record { votes_told = refl; elected_told = refl; non_transferable_told = refl; lost_told = refl }

next_right : (contest : Contest) (lots : List (ℕ × ℕ)) (before : History) → IsRight contest lots before → (o : Option Action) → next_action contest lots before ≡ o →
    IsRight contest lots (with_stage contest before o)
next_right contest lots before right None is = right
next_right contest lots before right (Some action) is = (right, record { was_due = is; tells = told_of contest before action })

-- the computed stages are correct
pub stages_right : (contest : Contest) (lots : List (ℕ × ℕ)) (k : ℕ) → IsRight contest lots (stages_to contest lots k)
unfolding stages_to
stages_right contest lots zero = tt
stages_right contest lots (suc k) = next_right contest lots (stages_to contest lots k) (stages_right contest lots k) _ refl

-- there are at most as many as requested,
next_few : (contest : Contest) (before : History) (o : Option Action) → length (with_stage contest before o) ≤ length before + 1
next_few contest before None = omega arith
next_few contest before (Some action) = omega arith

pub stages_few : (contest : Contest) (lots : List (ℕ × ℕ)) (k : ℕ) → length (stages_to contest lots k) ≤ k
unfolding stages_to
stages_few contest lots zero = omega arith
stages_few contest lots (suc k) = omega (arith, next_few contest (stages_to contest lots k) (next_action contest lots (stages_to contest lots k)), stages_few contest lots k)

-- and they are the only correct ones
pub stages_only : (contest : Contest) (lots : List (ℕ × ℕ)) (stages : History) → IsRight contest lots stages → stages ≡ stages_to contest lots (length stages)
unfolding stages_to
stages_only contest lots [] right = refl
stages_only contest lots (s ∷ before) right =
    let earlier : before ≡ stages_to contest lots (length before) = stages_only contest lots before right.0 in
    ap (λ (t : Stage). t ∷ before) (is_told contest before s right.1.tells)
    ∙ ap (with_stage contest before) (sym right.1.was_due)
    ∙ ap (with_next contest lots) earlier

-- they don't depend on the order of the papers
stage_reordered : (contest : Contest) (papers : List (List ℕ)) (before : History) (action : Action) → IsPermutation contest.papers papers →
    stage_of (reordered contest papers) before action ≡ stage_of contest before action
stage_reordered contest papers before action order =
    let s : Stage = stage_of (reordered contest papers) before action in
    is_told contest before s (same_tells contest papers before s order (told_of (reordered contest papers) before action))

pub next_reordered : (contest : Contest) (papers : List (List ℕ)) (before : History) (o : Option Action) → IsPermutation contest.papers papers →
    with_stage (reordered contest papers) before o ≡ with_stage contest before o
next_reordered contest papers before None order = refl
next_reordered contest papers before (Some action) order = ap (λ (s : Stage). s ∷ before) (stage_reordered contest papers before action order)

pub stages_reordered : (contest : Contest) (lots : List (ℕ × ℕ)) (papers : List (List ℕ)) (k : ℕ) → IsPermutation contest.papers papers →
    stages_to (reordered contest papers) lots k ≡ stages_to contest lots k
unfolding stages_to
stages_reordered contest lots papers zero order = refl
stages_reordered contest lots papers (suc k) order =
    let h : History = stages_to contest lots k in
    ap (with_next (reordered contest papers) lots) (stages_reordered contest lots papers k order) ∙ next_reordered contest papers h (next_action contest lots h) order

pub ruleset stages_counted = (stages_right, stages_few, stages_only, stages_reordered)

-- if a count ends, there is no next action; otherwise there is one
ended_none : (contest : Contest) (stages : History) (lot : Option ℕ) (due : Due) (e : CountEnd) → end_of lot due ≡ Some e → drawn contest stages lot due ≡ None
ended_none contest stages lot (Act action) e is = cc
ended_none contest stages None Finished e is = refl
ended_none contest stages (Some c) Finished e is = refl
ended_none contest stages None (Lot stage kind tied) e is = refl
ended_none contest stages (Some c) (Lot stage kind tied) e is = by_tied (list_any (nat_eq c) tied) is
  where
    by_tied : (b : Bool) → cond b None (Some (misses_lot stage)) ≡ Some e → cond b (Some (action_on contest stages kind c)) None ≡ None
    by_tied true h = cc
    by_tied false h = refl

-- what is due, given the lots, when a lot is due: the action that is drawn, or still the lot if the recorded one is refused
pub refused_none : (contest : Contest) (stages : History) (lot : Option ℕ) (due : Due) (e : AdvanceError) → refusal lot due ≡ Some e → drawn contest stages lot due ≡ None
refused_none contest stages lot (Act action) e is = cc
refused_none contest stages None Finished e is = refl
refused_none contest stages (Some c) Finished e is = refl
refused_none contest stages None (Lot stage kind tied) e is = refl
refused_none contest stages (Some c) (Lot stage kind tied) e is = by_tied (list_any (nat_eq c) tied) is
  where
    by_tied : (b : Bool) → cond b None (Some not_among) ≡ Some e → cond b (Some (action_on contest stages kind c)) None ≡ None
    by_tied true h = cc
    by_tied false h = refl

pub due_by-drawn : (contest : Contest) (lots : List (ℕ × ℕ)) (stages : History) (stage : ℕ) (lot : Option ℕ) (action : Action) → stage ≡ length stages + 1 → lot ≡ lot_for lots stage →
    drawn contest stages lot (due_after contest stages) ≡ Some action
    → Act action ≡ due_by contest lots stages
due_by-drawn contest lots stages stage lot action here is drew =
    let lot_is : lot_for lots (length stages + 1) ≡ lot = ap (lot_for lots) (sym here) ∙ sym is in
    sym (ap (λ (l : Option ℕ). due_or (due_after contest stages) (drawn contest stages l (due_after contest stages))) lot_is ∙ ap (due_or (due_after contest stages)) drew)

pub due_by-refused : (contest : Contest) (lots : List (ℕ × ℕ)) (stages : History) (stage : ℕ) (lot : Option ℕ) (e : AdvanceError) → stage ≡ length stages + 1 → lot ≡ lot_for lots stage →
    refusal lot (due_after contest stages) ≡ Some e
    → due_after contest stages ≡ due_by contest lots stages
due_by-refused contest lots stages stage lot e here is refused =
    let lot_is : lot_for lots (length stages + 1) ≡ lot = ap (lot_for lots) (sym here) ∙ sym is in
    sym (ap (λ (l : Option ℕ). due_or (due_after contest stages) (drawn contest stages l (due_after contest stages))) lot_is
    ∙ ap (due_or (due_after contest stages)) (refused_none contest stages lot (due_after contest stages) e refused))

pub ruleset due_lots = (due_by-drawn, due_by-refused)

-- a book that has advanced with the lots, or has ended, has the next stages
pub stages_next : (contest : Contest) (lots : List (ℕ × ℕ)) (old new : History) (end : Option CountEnd) → end ≡ end_after contest lots old → IfSome end (λ _. new ≡ old) →
    IfNone end (AdvancesBy contest lots old new)
    → new ≡ with_next contest lots old
stages_next contest lots old new None is same more =
    more.one_more ∙ ap (λ (t : Stage). t ∷ old) (is_told contest old more.stage more.next.tells) ∙ ap (with_stage contest old) (sym more.next.was_due)
stages_next contest lots old new (Some e) is same more = same ∙ sym (ap (with_stage contest old) (ended_none contest old (lot_for lots (length old + 1)) (due_after contest old) e (sym is)))

-- a book with a given number of stages and the next one, given the lots, has another stage of the count
pub counted_more : (contest now : Contest) (lots : List (ℕ × ℕ)) (k : ℕ) (old new : History) → now ≡ contest → old ≡ stages_to contest lots k → new ≡ with_next now lots old →
    new ≡ stages_to contest lots (k + 1)
unfolding stages_to
counted_more contest now lots k old new same counted next =
    let more : suc k ≡ k + 1 = omega arith in
    next
    ∙ ap (λ (c : Contest). with_next c lots old) same
    ∙ ap (with_next contest lots) counted
    ∙ ap (stages_to contest lots) more

-- what is due before each of the stages so far, followed by what is due after them
pub dues_more : (contest now : Contest) (lots : List (ℕ × ℕ)) (k n : ℕ) (stages : History) (due : Due) (dues more : List Due) → now ≡ contest → stages ≡ stages_to contest lots k →
    due ≡ due_after now stages
    → dues ≡ map (λ j. due_after contest (stages_to contest lots j)) (range_with_len 0 k) → more ≡ dues ++ due ∷ [] → k + 1 ≡ n
    → more ≡ map (λ j. due_after contest (stages_to contest lots j)) (range_with_len 0 n)
dues_more contest now lots k n stages due dues more same counted is all pushed one_more =
    let at : ℕ → Due = λ j. due_after contest (stages_to contest lots j) in
    let due_is : due ≡ at k = is ∙ ap (λ (c : Contest). due_after c stages) same ∙ ap (due_after contest) counted in
    pushed
    ∙ ap (λ (ds : List Due). ds ++ due ∷ []) all
    ∙ ap (λ (d : Due). map at (range_with_len 0 k) ++ d ∷ []) due_is
    ∙ sym (map-range_with_len_more at 0 k k (omega arith))
    ∙ ap (λ (m : ℕ). map at (range_with_len 0 m)) one_more
