-- Proof that `is_past_keying` meets its contract.
use Rattle.std.proofs.Common.{◌∙◌, refl}
use Rattle.register.specs.declared.phase.Phase.TheVariants.{Sealed, Declared}
use Rattle.laws.proofs.SealedLemmas.{phase_stays}
use Rattle.laws.proofs.sealed.is_past_keying.Goals as goal

pub returns-in-Sealed-clause-stay : goal.returns-in-Sealed-clause-stay
returns-in-Sealed-clause-stay c past s w requests is there at = phase_stays Sealed refl s w requests is there (at ∙ c.in-Sealed.is)

pub returns-in-Declared-clause-stay : goal.returns-in-Declared-clause-stay
returns-in-Declared-clause-stay c past s w requests is there at = phase_stays Declared refl s w requests is there (at ∙ c.in-Declared.is)
