-- What precedes each stage, and what it records.
use Rattle.std.proofs.Common.{◌≡◌, ℕ, ◌-◌, ◌<◌, ◌==◌, ◌||◌, ◌&&◌, ◌⊎◌, inl, inr, Bool, true, false, not, cond, nat_lt, List, [], ◌∷◌, Option, Some, refl, sym, ap, ◌∙◌, arith, slice_index}
use Rattle.std.proofs.lemmas.Bool.{ltb-true}
use Rattle.count.specs.Law.Contest.{Contest, History, newest_votes, In}
use Rattle.count.specs.Law.Right.{Tells}
use Rattle.count.specs.Law.Due.{due_after, due_for, drawn, with_surplus, exclusion}
use Rattle.count.specs.Law.Elected.{elected_after, vacancies_after, is_transferred, is_excluded, is_elected, has_reached, undecided_fill}
use Rattle.count.specs.Law.Figures.{votes_after}
use Rattle.count.specs.declared.stages.Stage.{Stage}
use Rattle.count.specs.declared.stages.Action.{Action}
use Rattle.count.specs.declared.stages.Action.TheVariants.{First, Surplus}
use Rattle.count.specs.declared.stages.Due.TheVariants.{Finished}
use Rattle.count.proofs.Law.ActionLemmas.{in-filter, drawn-due, at_number}
use Rattle.count.proofs.Law.ValueLemmas.{held}
use Rattle.paper.specs.Columns.{IsColumn}
use Rattle.count.proofs.ChoiceLemmas.{and_true, not_true}

-- an action on an elected candidate with more than the quota
pub record IsSurplus (contest : Contest) (stages : History) (action : Action) : Type 0 where
  pub c : ℕ
  pub is_candidate : In c contest.candidates
  pub is : action ≡ Surplus c
  pub elected : is_elected contest stages c ≡ true
  pub above : contest.quota < newest_votes stages c

-- an action on a continuing candidate
pub record IsExclusion (contest : Contest) (stages : History) (action : Action) : Type 0 where
  pub c : ℕ
  pub is_candidate : In c contest.candidates
  pub is : action ≡ exclusion contest stages c
  pub not_elected : is_elected contest stages c ≡ false
  pub not_excluded : is_excluded stages c ≡ false

-- each stage is followed by the surplus of an elected candidate or the exclusion of a continuing one
pub step-is : (contest : Contest) (s : Stage) (before : History) (lot : Option ℕ) (action : Action) →
    drawn contest (s ∷ before) lot (due_after contest (s ∷ before)) ≡ Some action → IsSurplus contest (s ∷ before) action ⊎ IsExclusion contest (s ∷ before) action
step-is contest s before lot action h =
    let stages = s ∷ before in
    elim (drawn-due contest s before lot action h) [
      | inl on ↦
          let surplus = in-filter on.candidate (λ c. nat_lt contest.quota (newest_votes stages c)) (elected_after contest stages) on.in_group in
          let chosen = in-filter on.candidate (is_elected contest stages) contest.candidates surplus.1 in
          inl (record { c = on.candidate; is_candidate = chosen.1; is = on.is; elected = chosen.0; above = ltb-true _ _ surplus.0 })
      | inr on ↦
          let chosen = in-filter on.candidate (λ c. not (is_elected contest stages c) && not (is_excluded stages c)) contest.candidates on.in_group in
          let both = and_true (not (is_elected contest stages on.candidate)) (not (is_excluded stages on.candidate)) chosen.0 in
          inr (record { c = on.candidate; is_candidate = chosen.1; is = on.is; not_elected = not_true _ both.0; not_excluded = not_true _ both.1 })
    ]

vacant_choice : (contest : Contest) (stages : History) (lot : Option ℕ) (group : List ℕ) (action : Action) (b : Bool) →
    drawn contest stages lot (cond b Finished (due_for contest stages group)) ≡ Some action → b ≡ false
vacant_choice contest stages lot group action true h = cc
vacant_choice contest stages lot group action false h = refl

-- an action follows only if a vacancy remains
pub step-vacant : (contest : Contest) (s : Stage) (before : History) (lot : Option ℕ) (action : Action) →
    drawn contest (s ∷ before) lot (due_after contest (s ∷ before)) ≡ Some action → (vacancies_after contest (s ∷ before) == 0) ≡ false
step-vacant contest s before lot action h = vacant_choice contest (s ∷ before) lot (with_surplus contest (s ∷ before)) action _ h

-- the first action
pub step-first : (contest : Contest) (lot : Option ℕ) (action : Action) → drawn contest [] lot (due_after contest []) ≡ Some action → action ≡ First
step-first contest lot action h = cc

-- what a stage records for a candidate
pub told-votes : (contest : Contest) (s : Stage) (before : History) (c : ℕ) → Tells contest before s → IsColumn c → newest_votes (s ∷ before) c ≡ votes_after contest (s ∷ before) c
told-votes contest s before c tells column = ap (λ vs. slice_index vs (c - 1)) tells.votes_told ∙ at_number (votes_after contest (s ∷ before)) c column

-- a candidate who has reached the quota is elected
pub reached-elected : (contest : Contest) (stages : History) (c : ℕ) → has_reached contest stages c ≡ true → is_elected contest stages c ≡ true
reached-elected contest stages c h = ap (λ b. b || (undecided_fill contest stages && not (is_excluded stages c))) h

-- the votes of a candidate whose surplus is transferred, and of any other candidate
pub votes-transferred : (contest : Contest) (stages : History) (c : ℕ) → is_transferred stages c ≡ true → votes_after contest stages c ≡ contest.quota
votes-transferred contest stages c h = ap (λ b. cond b contest.quota (held contest stages c)) h

pub votes-held : (contest : Contest) (stages : History) (c : ℕ) → is_transferred stages c ≡ false → votes_after contest stages c ≡ held contest stages c
votes-held contest stages c h = ap (λ b. cond b contest.quota (held contest stages c)) h

fresh_choice : (contest : Contest) (s : Stage) (before : History) (c : ℕ) (b : Bool) →
    Tells contest before s → IsColumn c → is_transferred (s ∷ before) c ≡ b → contest.quota < newest_votes (s ∷ before) c → b ≡ false
fresh_choice contest s before c true tells column gone more =
    absurd (omega (arith, more, told-votes contest s before c tells column, votes-transferred contest (s ∷ before) c gone))
fresh_choice contest s before c false tells column gone more = refl

-- if a candidate has more than the quota, the surplus hasn't been transferred, and the candidate holds what was recorded
pub surplus-fresh : (contest : Contest) (s : Stage) (before : History) (c : ℕ) → Tells contest before s → IsColumn c → contest.quota < newest_votes (s ∷ before) c →
    is_transferred (s ∷ before) c ≡ false
surplus-fresh contest s before c tells column more = fresh_choice contest s before c _ tells column refl more

pub surplus-held : (contest : Contest) (s : Stage) (before : History) (c : ℕ) → Tells contest before s → IsColumn c → contest.quota < newest_votes (s ∷ before) c →
    held contest (s ∷ before) c ≡ newest_votes (s ∷ before) c
surplus-held contest s before c tells column more =
    sym (told-votes contest s before c tells column ∙ votes-held contest (s ∷ before) c (surplus-fresh contest s before c tells column more))
