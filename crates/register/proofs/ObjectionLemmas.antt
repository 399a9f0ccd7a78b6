-- If there is no objection to a command, all of its conditions are met.
use Rattle.std.proofs.Common.{◌≡◌, ◌==◌, ℕ, zero, suc, Bool, true, false, not, List, [], ◌∷◌, get_or, Option, Some, None, is_some, is_none, refl}
use Rattle.register.specs.declared.phase.Phase.{Phase}
use Rattle.register.specs.declared.phase.Phase.TheVariants.{Nominations, Keying, Sealed, Declared}
use Rattle.register.specs.declared.refusal.Reason.{Reason}
use Rattle.register.specs.Phases.{phase_number}
use Rattle.register.specs.Reasons.{objection, first_reason}
use Rattle.register.specs.Offices.{WardEntry}
use Rattle.register.specs.CommandInputs.{is_in_phase}

-- if there is no first objection, there is no objection anywhere in the list
pub no_objection : (os : List (Option Reason)) → first_reason os ≡ None → (place : ℕ) → get_or os place None ≡ None
no_objection [] none place = refl
no_objection (None ∷ os) none zero = refl
no_objection (None ∷ os) none (suc place) = no_objection os none place
no_objection (Some why ∷ os) none place = absurd (cc)

-- a required condition is met if there is no objection to its absence
pub asked : (b : Bool) (why : Reason) → objection (not b) why ≡ None → b ≡ true
asked true why none = refl
asked false why none = absurd (cc)

-- an entry that must be absent is absent if there is no objection to its presence
pub absent : {X : Type 0} (o : Option X) (why : Reason) → objection (is_some o) why ≡ None → o ≡ None
absent (Some x) why none = absurd (cc)
absent None why none = refl

-- two phases with the same number are equal
one_phase : (p q : Phase) → (phase_number p == phase_number q) ≡ true → p ≡ q
one_phase Nominations Nominations same = refl
one_phase Keying Keying same = refl
one_phase Sealed Sealed same = refl
one_phase Declared Declared same = refl
one_phase p q same = absurd (cc)

-- a ward was found and is in the given phase
pub record IsThere (phase : Phase) (found : Option WardEntry) : Type 0 where
  pub ward : WardEntry
  pub is : found ≡ Some ward
  pub phased : ward.phase ≡ phase

-- the ward that a command requires to be in the given phase exists, if there is no objection to its absence or
-- its phase
pub there : (phase : Phase) (found : Option WardEntry) (why : Reason) → objection (not (is_in_phase phase found)) why ≡ None → IsThere phase found
there phase None why none = absurd (cc)
there phase (Some w) why none = record { ward = w; is = refl; phased = one_phase w.phase phase (asked (is_in_phase phase (Some w)) why none) }

-- a forbidden condition isn't met if there is no objection to it
pub unasked : (b : Bool) (why : Reason) → objection b why ≡ None → b ≡ false
unasked true why none = absurd (cc)
unasked false why none = refl

-- a required entry was found
pub record IsFound {X : Type 0} (found : Option X) : Type 0 where
  pub it : X
  pub is : found ≡ Some it

-- a required entry exists if there is no objection to its absence
pub present : {X : Type 0} (o : Option X) (why : Reason) → objection (is_none o) why ≡ None → IsFound o
present None why none = absurd (cc)
present (Some x) why none = record { it = x; is = refl }
