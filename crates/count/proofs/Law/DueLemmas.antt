-- What is due, case by case.
use Rattle.std.proofs.Common.{◌≡◌, ℕ, ◌+◌, ◌≢◌, Bool, true, false, cond, nat_lt, List, [], ◌∷◌, length, slice_index, refl, sym, ap, subst, arith, Option}
use Rattle.std.specs.List.{filter}
use Rattle.std.proofs.lemmas.Bool.{eq-eqb, ne_eqb}
use Rattle.count.specs.Law.Contest.{Contest, History, votes_at}
use Rattle.count.specs.Law.Due.{due_after, due_for, among, with_surplus, action_on, lowest, highest}
use Rattle.count.specs.Law.Elected.{vacancies_after, continuing_after, elected_after}
use Rattle.count.specs.Advance.{Advances}
use Rattle.count.specs.declared.stages.Stage.{Stage}
use Rattle.count.specs.declared.stages.Due.TheVariants.{Act, Lot, Finished}
use Rattle.count.specs.declared.stages.TiedFor.{TiedFor}
use Rattle.count.specs.declared.stages.TiedFor.TheVariants.{Surplus as of_surplus, Exclusion as of_exclusion}
use Rattle.count.specs.declared.stages.Action.{Action}

stage-among : (contest : Contest) (stages : History) (kind : TiedFor) (group : List ℕ) (n : ℕ) (k : TiedFor) (tied : List ℕ) →
    among contest stages kind group ≡ Lot n k tied → n ≡ length stages + 1
stage-among contest stages kind [] n k tied h = cc
stage-among contest stages kind (c ∷ []) n k tied h = cc
stage-among contest stages kind (c ∷ d ∷ rest) n k tied h = cc

stage-due_for : (contest : Contest) (stages : History) (group : List ℕ) (n : ℕ) (k : TiedFor) (tied : List ℕ) →
    due_for contest stages group ≡ Lot n k tied → n ≡ length stages + 1
stage-due_for contest stages [] n k tied h = stage-among contest stages of_exclusion _ n k tied h
stage-due_for contest stages (c ∷ cs) n k tied h = stage-among contest stages of_surplus _ n k tied h

stage-choice : (contest : Contest) (stages : History) (b : Bool) (group : List ℕ) (n : ℕ) (k : TiedFor) (tied : List ℕ) →
    cond b Finished (due_for contest stages group) ≡ Lot n k tied → n ≡ length stages + 1
stage-choice contest stages true group n k tied h = cc
stage-choice contest stages false group n k tied h = stage-due_for contest stages group n k tied h

-- a lot is for the stage after the completed ones
pub stage-due : (contest : Contest) (stages : History) (n : ℕ) (k : TiedFor) (tied : List ℕ) →
    due_after contest stages ≡ Lot n k tied → n ≡ length stages + 1
stage-due contest [] n k tied h = cc
stage-due contest (s ∷ before) n k tied h = stage-choice contest (s ∷ before) _ _ n k tied h

-- a lot makes no difference if none is needed
pub any_lot : (contest : Contest) (old new : History) (action : Action) (lot lot' : Option ℕ) →
    due_after contest old ≡ Act action → Advances contest old lot new → Advances contest old lot' new
any_lot contest old new action lot lot' is_act h =
    record {
      stage = h.stage;
      one_more = h.one_more;
      next = record {
        was_due = rw is_act (rw is_act at h.next.was_due);
        tells = h.next.tells;
      };
    }

pub ruleset due_lot = (stage-due, any_lot)

-- the action on a group, by its size
pub among-one : (contest : Contest) (stages : History) (kind : TiedFor) (group : List ℕ) → length group ≡ 1 →
    Act (action_on contest stages kind (slice_index group 0)) ≡ among contest stages kind group
among-one contest stages kind [] h = absurd (omega (arith, h))
among-one contest stages kind (c ∷ []) h = refl
among-one contest stages kind (c ∷ d ∷ rest) h = absurd (omega (arith, h))

pub among-more : (contest : Contest) (stages : History) (kind : TiedFor) (group : List ℕ) → length group ≢ 1 → Lot (length stages + 1) kind group ≡ among contest stages kind group
among-more contest stages kind [] k = refl
among-more contest stages kind (c ∷ []) k = absurd (k refl)
among-more contest stages kind (c ∷ d ∷ rest) k = refl

pub ruleset among_sizes = (among-one, among-more)

pub due-none : (contest : Contest) (stages : History) (group : List ℕ) → length group ≡ 0 →
    among contest stages of_exclusion (lowest stages (continuing_after contest stages)) ≡ due_for contest stages group
due-none contest stages [] h = refl
due-none contest stages (c ∷ rest) h = absurd (omega (arith, h))

pub due-some : (contest : Contest) (stages : History) (group : List ℕ) → length group ≢ 0 → among contest stages of_surplus (highest stages group) ≡ due_for contest stages group
due-some contest stages [] h = absurd (h refl)
due-some contest stages (c ∷ rest) h = refl

pub ruleset due_sizes = (due-none, due-some)

-- what is due after the newest stage, depending on whether a vacancy remains
pub due-ended : (contest : Contest) (stages before : History) (s : Stage) → stages ≡ s ∷ before → vacancies_after contest stages ≡ 0 → Finished ≡ due_after contest stages
due-ended contest stages before s is none =
    subst (λ x. vacancies_after contest x ≡ 0 → Finished ≡ due_after contest x) (sym is)
    (λ v. sym (ap (λ b. cond b Finished (due_for contest (s ∷ before) (with_surplus contest (s ∷ before)))) (eq-eqb _ _ v))) none

pub due-open : (contest : Contest) (stages before : History) (s : Stage) → stages ≡ s ∷ before → vacancies_after contest stages ≢ 0 →
    due_for contest stages (filter (λ c. nat_lt contest.quota (votes_at s c)) (elected_after contest stages)) ≡ due_after contest stages
due-open contest stages before s is some =
    subst (λ x. vacancies_after contest x ≢ 0 → due_for contest x (filter (λ c. nat_lt contest.quota (votes_at s c)) (elected_after contest x)) ≡ due_after contest x) (sym is)
    (λ v. sym (ap (λ b. cond b Finished (due_for contest (s ∷ before) (with_surplus contest (s ∷ before)))) (ne_eqb _ _ v))) some
