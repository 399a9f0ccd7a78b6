-- The content of an answer, and what it implies for the office.
use Rattle.std.specs.Prelude.{◌≡◌, ◌⊎◌, ℕ, Bool, true, false, List, [], string_bytes, Result, Ok, Err}
use Rattle.sqlite.specs.Held.{Held}
use Rattle.sqlite.specs.State.{State, HasCleanDisk}
use Rattle.register.specs.declared.refusal.Reason.{Reason}
use Rattle.register.specs.Offices.{OfficeState}
use Rattle.register.specs.Machine.{Outcome, accepted, kept, refused, state_after, is_accepted}
use Rattle.tables.specs.declared.fault.Fault.{Fault}
use Rattle.tables.specs.declared.fault.Fault.TheVariants.{Memory, Store}
use Rattle.store.specs.declared.copying.CopyFault.{CopyFault}
use Rattle.store.specs.declared.copying.CopyFault.TheVariants.{Office, Taken, Copy}
use Rattle.store.specs.StateTables.{IsAt, LeavesState}
use Rattle.office.specs.declared.answers.Answer.{Answer}
use Rattle.office.specs.declared.answers.Answer.TheVariants.{Done, Kept, Refused}
use Rattle.office.specs.Values.{OfficeValue}

-- the outcome as the actor sees it: the reply to a request that was accepted just now or earlier, or the reason for a refusal
pub data Told : Type 0 where
  done : List ℕ → Told
  again : List ℕ → Told
  no : Reason → Told

-- the content of an answer
abbrev pub told : Answer → Told
told (Done reply) = done (string_bytes reply)
told (Kept reply) = again (string_bytes reply)
told (Refused why) = no why

-- the content of the machine's answer
abbrev pub told_of : Outcome → Told
told_of (accepted next reply) = done reply
told_of (kept reply) = again reply
told_of (refused why) = no why

-- whether this is the answer to a request that was accepted just now
abbrev pub is_done : Told → Bool
is_done (done reply) = true
is_done (again reply) = false
is_done (no why) = false

-- the reply to a request that was accepted just now or earlier
abbrev pub reply_of : Outcome → List ℕ
reply_of (accepted next reply) = reply
reply_of (kept reply) = reply
reply_of (refused why) = []

-- A guarantee for an office that was open in some state, on a clean disk. Whether the disk is clean is determined at the end of the call.
abbrev pub WhenOpenAt : {S : Type 0} → (Held S → State) → OfficeValue S → OfficeValue S → (OfficeState → Type 0) → Type 0
WhenOpenAt state_of old new P = HasCleanDisk (state_of new.held) → old.closed ≡ false → (s : OfficeState) → IsAt s (state_of old.held) → P s

-- an allocation or the store failed
abbrev pub IsMemoryOrStore : Fault → Type 0
IsMemoryOrStore f = (f ≡ Memory) ⊎ (f ≡ Store)

-- the office is open and has this state
pub record IsOpenAt (s : OfficeState) (closed : Bool) (st : State) : Type 0 where
  pub is_open : closed ≡ false
  pub at : IsAt s st

-- A fault closed the office; after a stop, the state is either the one before the request or the one after it. A failed allocation closes the office only inside the
-- transaction of an accepted request.
pub record IsClosedIn (s : OfficeState) (outcome : Outcome) (f : Fault) (closed : Bool) (st : State) : Type 0 where
  pub is_closed : closed ≡ true
  pub fault : IsMemoryOrStore f
  pub inside : f ≡ Memory → is_accepted outcome ≡ true
  pub leaves : LeavesState st (λ x. (x ≡ s) ⊎ (x ≡ state_after s outcome))

-- a fault occurred before the transaction, which can only be a failed allocation; nothing is changed, and the office stays open
pub record IsKeptOpen (s : OfficeState) (f : Fault) (closed : Bool) (st : State) : Type 0 where
  pub memory : f ≡ Memory
  pub open_at : IsOpenAt s closed st

-- The effect of an order that only reads, whether or not it could be completed. Either the office is open in its state, or its store failed, which closed it. A stop
-- leaves the state unchanged.
abbrev pub IsReadAt : OfficeState → Bool → State → Type 0
IsReadAt s closed st = IsOpenAt s closed st ⊎ ((closed ≡ true) × LeavesState st (λ x. x ≡ s))

-- any fault but a failed allocation closed the office; a failed allocation left it open
abbrev pub ClosedBy : Bool → Fault → Type 0
ClosedBy closed f = (f ≡ Memory → closed ≡ false) × ((f ≡ Memory) ⊎ (closed ≡ true))

-- the same for an office that was copied, where a fault of the copy leaves the office open
abbrev pub ClosedInCopying : Bool → CopyFault → Type 0
ClosedInCopying closed (Office f) = ClosedBy closed f
ClosedInCopying closed Taken = closed ≡ false
ClosedInCopying closed (Copy f) = closed ≡ false

-- The result and the effect of handling a request. With an answer, the state is the one after the machine's step, which is the unchanged state unless the request
-- was accepted. With a fault, the state is unchanged or, if the fault closed the office, possibly the one after the step.
abbrev pub Handled : OfficeState → Outcome → Result Answer Fault → Bool → State → Type 0
Handled s outcome (Ok answer) closed st = (told answer ≡ told_of outcome) × IsOpenAt (state_after s outcome) closed st
Handled s outcome (Err f) closed st = IsKeptOpen s f closed st ⊎ IsClosedIn s outcome f closed st

-- The result and the effect of repeating a request that was accepted but met a fault, in an office that was reopened in the state after it. The request is kept,
-- with the reply that it would have had, and nothing changes. (If the office was reopened in the state before it, the request is handled as if for the first time.)
abbrev pub HandledAgain : OfficeState → Outcome → Result Answer Fault → Bool → State → Type 0
HandledAgain s outcome (Ok answer) closed st = (told answer ≡ again (reply_of outcome)) × IsOpenAt (state_after s outcome) closed st
HandledAgain s outcome (Err f) closed st = IsKeptOpen (state_after s outcome) f closed st ⊎ (closed ≡ true)
