-- What holds if there is no objection to a command.
use Rattle.std.proofs.Common.{◌≡◌, ℕ, zero, suc, Bool, true, false, not, ◌==◌, List, [], ◌∷◌, get_or, Option, Some, None, is_some, refl}
use Rattle.register.specs.declared.phase.Phase.{Phase}
use Rattle.register.specs.declared.phase.Phase.TheVariants.{Nominations, Keying, Sealed, Declared}
use Rattle.register.specs.declared.refusal.Reason.{Reason}
use Rattle.register.specs.Phases.{phase_number}
use Rattle.register.specs.Reasons.{first_reason, objection}
use Rattle.register.specs.Offices.{BatchEntry, OfficeState, WardEntry, batch_at}
use Rattle.register.specs.Offices.{ward_at}
use Rattle.register.specs.CommandInputs.{is_in_phase}
use Rattle.register.specs.Batches.{ward_for}

-- if there is no first objection, there is no objection anywhere in the list
pub no_objection : (os : List (Option Reason)) → first_reason os ≡ None → (place : ℕ) → get_or os place None ≡ None
no_objection [] none place = refl
no_objection (None ∷ os) none zero = refl
no_objection (None ∷ os) none (suc place) = no_objection os none place
no_objection (Some why ∷ os) none place = absurd (cc)

pub absent : {X : Type 0} (o : Option X) (why : Reason) → objection (is_some o) why ≡ None → o ≡ None
absent (Some x) why none = absurd (cc)
absent None why none = refl

-- two phases with the same number are equal
one_phase : (p q : Phase) → (phase_number p == phase_number q) ≡ true → p ≡ q
one_phase Nominations Nominations same = refl
one_phase Keying Keying same = refl
one_phase Sealed Sealed same = refl
one_phase Declared Declared same = refl
one_phase p q same = absurd (cc)

-- a ward was found and is in the given phase
pub record IsThere (phase : Phase) (found : Option WardEntry) : Type 0 where
  pub ward : WardEntry
  pub is : found ≡ Some ward
  pub phased : ward.phase ≡ phase

pub there : (phase : Phase) (found : Option WardEntry) (why : Reason) → objection (not (is_in_phase phase found)) why ≡ None → IsThere phase found
there phase None why none = absurd (cc)
there phase (Some w) why none = record { ward = w; is = refl; phased = one_phase w.phase phase (go (is_in_phase phase (Some w)) none) }
  where
    go : (b : Bool) → objection (not b) why ≡ None → b ≡ true
    go true none = refl
    go false none = absurd (cc)

-- a batch exists, and its ward exists and is in the given phase
pub record IsBatchIn (s : OfficeState) (phase : Phase) (n : ℕ) : Type 0 where
  pub batch : BatchEntry
  pub found : batch_at s n ≡ Some batch
  pub its : IsThere phase (ward_at s batch.ward)

pub batch_in : (s : OfficeState) (phase : Phase) (n : ℕ) → IsThere phase (ward_for s (batch_at s n)) → IsBatchIn s phase n
batch_in s phase n = go (batch_at s n) refl
  where
    go : (o : Option BatchEntry) → batch_at s n ≡ o → IsThere phase (ward_for s o) → IsBatchIn s phase n
    go None found its = absurd (let none = its.is in cc)
    go (Some b) found its = record { batch = b; found = found; its = its }
