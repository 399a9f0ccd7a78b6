-- The effect of an accepted decision.
use Rattle.std.specs.Prelude.{⊤}
use Rattle.register.specs.declared.decision.Decision.{Decision}
use Rattle.register.specs.declared.decision.Decision.TheVariants.{Accepted, Kept, Refused}
use Rattle.register.specs.Offices.{OfficeState}
use Rattle.register.specs.StateConditions.{IsState}
use Rattle.register.specs.Effects.{change_entry, with_change}
use Rattle.register.specs.Tabulated.{IsTabulated}

-- an accepted decision in the given state leads to another state and adds everything that is counted in it
abbrev pub LeadsToState : OfficeState → Decision → Type 0
LeadsToState s (Accepted change reply) = IsTabulated s change × IsState (with_change (change_entry change) s)
LeadsToState s (Kept reply) = ⊤
LeadsToState s (Refused why) = ⊤
