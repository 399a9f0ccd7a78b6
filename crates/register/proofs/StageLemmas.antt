-- What is due and what has been done in a count when a stage or a lot is added.
use Rattle.std.proofs.Common.{◌≡◌, ℕ, zero, suc, ◌+◌, ◌<◌, ◌≤◌, Bool, true, false, cond, ◌==◌, nat_eq, List, ◌∷◌, length, Option, Some, None, refl, sym, ap, ◌∙◌, arith}
use Rattle.std.specs.List.{list_any}
use Rattle.std.proofs.lemmas.Bool.{ne_eqb}
use Rattle.count.specs.Law.Contest.{Contest, History}
use Rattle.count.specs.Law.Due.{due_after, lot_for, next_action, drawn, action_on}
use Rattle.count.specs.Law.Count.{stage_of, with_stage, with_next, stages_to, due_or, due_by}
use Rattle.count.specs.declared.stages.Action.{Action}
use Rattle.count.specs.declared.stages.TiedFor.{TiedFor}
use Rattle.count.specs.declared.stages.Due.{Due}
use Rattle.count.specs.declared.stages.Due.TheVariants.{Act, Lot, Finished}
use Rattle.register.specs.Elections.{is_finished, is_tied}

-- ---- what is due given the lots

-- if an action is due given the lots, it is the next action
pub acted : (contest : Contest) (lots : List (ℕ × ℕ)) (stages : History) (action : Action) → due_by contest lots stages ≡ Act action → next_action contest lots stages ≡ Some action
acted contest lots stages action is = go (due_after contest stages) (lot_for lots (length stages + 1)) is
  where
    one : (a b : Action) → Act a ≡ Act b → Some a ≡ Some b
    one a b same = cc

    named : (stage : ℕ) (kind : TiedFor) (tied : List ℕ) (c : ℕ) (b : Bool) → due_or (Lot stage kind tied) (cond b (Some (action_on contest stages kind c)) None) ≡ Act action
        → cond b (Some (action_on contest stages kind c)) None ≡ Some action
    named stage kind tied c true is = one (action_on contest stages kind c) action is
    named stage kind tied c false is = absurd (cc)

    go : (due : Due) (lot : Option ℕ) → due_or due (drawn contest stages lot due) ≡ Act action → drawn contest stages lot due ≡ Some action
    go (Act a) None is = one a action is
    go (Act a) (Some c) is = one a action is
    go (Lot stage kind tied) None is = absurd (cc)
    go (Lot stage kind tied) (Some c) is = named stage kind tied c (list_any (nat_eq c) tied) is
    go Finished None is = absurd (cc)
    go Finished (Some c) is = absurd (cc)

-- if nothing is due given the lots, nothing is due after the stages
pub ended : (contest : Contest) (lots : List (ℕ × ℕ)) (stages : History) → is_finished (due_by contest lots stages) ≡ true → is_finished (due_after contest stages) ≡ true
ended contest lots stages is = go (due_after contest stages) (next_action contest lots stages) is
  where
    go : (due : Due) (next : Option Action) → is_finished (due_or due next) ≡ true → is_finished due ≡ true
    go due None is = is
    go due (Some action) is = absurd (cc)

-- the count is waiting for a lot: a lot is due, and no recorded lot names one of the tied candidates
pub record IsWaitedFor (contest : Contest) (lots : List (ℕ × ℕ)) (stages : History) (stage : ℕ) (kind : TiedFor) (tied : List ℕ) : Type 0 where
  pub due : due_after contest stages ≡ Lot stage kind tied
  pub undrawn : (c : ℕ) → lot_for lots (length stages + 1) ≡ Some c → is_tied (due_after contest stages) c ≡ false

pub waited_for : (contest : Contest) (lots : List (ℕ × ℕ)) (stages : History) (stage : ℕ) (kind : TiedFor) (tied : List ℕ) → due_by contest lots stages ≡ Lot stage kind tied
    → IsWaitedFor contest lots stages stage kind tied
waited_for contest lots stages stage kind tied is =
    record {
      due = due (due_after contest stages) (next_action contest lots stages) is;
      undrawn = λ c named. undrawn c (due_after contest stages)
          (ap (λ (lot : Option ℕ). due_or (due_after contest stages) (drawn contest stages lot (due_after contest stages))) (sym named) ∙ is);
    }
  where
    due : (d : Due) (next : Option Action) → due_or d next ≡ Lot stage kind tied → d ≡ Lot stage kind tied
    due d None is = is
    due d (Some action) is = absurd (cc)

    missed : (k : ℕ) (other : TiedFor) (among : List ℕ) (c : ℕ) (b : Bool) → due_or (Lot k other among) (cond b (Some (action_on contest stages other c)) None) ≡ Lot stage kind tied → b ≡ false
    missed k other among c true is = absurd (cc)
    missed k other among c false is = refl

    undrawn : (c : ℕ) (d : Due) → due_or d (drawn contest stages (Some c) d) ≡ Lot stage kind tied → is_tied d c ≡ false
    undrawn c (Act a) is = refl
    undrawn c (Lot k other among) is = missed k other among c (list_any (nat_eq c) among) is
    undrawn c Finished is = refl

-- ---- the stages counted so far

-- there are at most as many stages as requested
pub stages_within : (contest : Contest) (lots : List (ℕ × ℕ)) (k : ℕ) → length (stages_to contest lots k) ≤ k
unfolding stages_to
stages_within contest lots zero = omega arith
stages_within contest lots (suc k) = go (next_action contest lots (stages_to contest lots k)) (stages_within contest lots k)
  where
    go : (next : Option Action) → length (stages_to contest lots k) ≤ k → length (with_stage contest (stages_to contest lots k) next) ≤ suc k
    go None low = omega (arith, low)
    go (Some action) low = omega (arith, low)

-- if an action is next, there is another stage
pub stage_added : (contest : Contest) (lots : List (ℕ × ℕ)) (k : ℕ) (action : Action) → next_action contest lots (stages_to contest lots k) ≡ Some action
    → stages_to contest lots (k + 1) ≡ stage_of contest (stages_to contest lots k) action ∷ stages_to contest lots k
unfolding stages_to
stage_added contest lots k action next = let more : k + 1 ≡ suc k = omega arith in ap (stages_to contest lots) more ∙ ap (with_stage contest (stages_to contest lots k)) next

pub stage_more : (contest : Contest) (lots : List (ℕ × ℕ)) (k : ℕ) (action : Action) → next_action contest lots (stages_to contest lots k) ≡ Some action
    → length (stages_to contest lots (k + 1)) ≡ length (stages_to contest lots k) + 1
stage_more contest lots k action next =
    ap (λ (s : History). length s) (stage_added contest lots k action next) ∙ (let one : suc (length (stages_to contest lots k)) ≡ length (stages_to contest lots k) + 1 = omega arith in one)

-- lots that agree for all stages but one lead to the same stages before that one
pub same_stages : (contest : Contest) (lots others : List (ℕ × ℕ)) (stage : ℕ) → ((k : ℕ) → (stage == k) ≡ false → lot_for others k ≡ lot_for lots k) → (k : ℕ) → k < stage
    → stages_to contest others k ≡ stages_to contest lots k
unfolding stages_to
same_stages contest lots others stage agree zero low = refl
same_stages contest lots others stage agree (suc k) low =
    let before : stages_to contest others k ≡ stages_to contest lots k = same_stages contest lots others stage agree k (omega (arith, low)) in
    let within = stages_within contest lots k in
    let apart : (stage == length (stages_to contest lots k) + 1) ≡ false = ne_eqb stage (length (stages_to contest lots k) + 1) (λ same. omega (arith, same, within, low)) in
    ap (with_next contest others) before
    ∙ ap (λ (lot : Option ℕ). with_stage contest (stages_to contest lots k) (drawn contest (stages_to contest lots k) lot (due_after contest (stages_to contest lots k))))
    (agree (length (stages_to contest lots k) + 1) apart)
