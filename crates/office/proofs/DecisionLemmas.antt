-- The effect of an accepted decision.
use Rattle.std.proofs.Common.{◌≡◌, sym, subst}
use Rattle.register.specs.declared.decision.Decision.{Decision}
use Rattle.register.specs.declared.decision.Decision.TheVariants.{Accepted, Kept, Refused}
use Rattle.register.specs.Offices.{OfficeState}
use Rattle.register.specs.StateConditions.{IsState}
use Rattle.register.specs.Machine.{Outcome, state_after}
use Rattle.register.specs.Tabulated.{AddsWhatIsCounted}
use Rattle.register.specs.Views.{outcome_of}
use Rattle.office.specs.Decisions.{LeadsToState}

-- the machine's step leads to a state and adds everything that is counted in it
pub leads_on : (s : OfficeState) (decision : Decision) (outcome : Outcome) → outcome_of s decision ≡ outcome → IsState (state_after s outcome) → AddsWhatIsCounted s decision → LeadsToState s decision
leads_on s (Accepted change reply) outcome same is adds = (adds, subst (λ (o : Outcome). IsState (state_after s o)) (sym same) is)
leads_on s (Kept reply) outcome same is adds = tt
leads_on s (Refused why) outcome same is adds = tt
