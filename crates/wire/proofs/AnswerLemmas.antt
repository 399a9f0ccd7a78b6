-- What a response that is ready contains, and which state the request leaves.
use Rattle.std.proofs.Common.{◌≡◌, ◌∙◌, ℕ, Bool, None, Some, Result, Ok, Err, inl, inr, ap, false, refl, subst, sym, true, true≢false}
use Rattle.sqlite.specs.State.{State}
use Rattle.register.specs.Machine.{Outcome, accepted, is_accepted, kept, refused, state_after, step_of}
use Rattle.register.specs.Offices.{OfficeState}
use Rattle.register.specs.declared.command.Request.{Request}
use Rattle.register.specs.declared.refusal.Reason.{Reason}
use Rattle.tables.specs.Faults.{fault_number}
use Rattle.tables.specs.declared.fault.Fault.{Fault}
use Rattle.office.specs.Answers.{Handled, IsOpenAt, is_done, told, told_of}
use Rattle.office.specs.Reads.{Read}
use Rattle.office.specs.declared.answers.Answer.{Answer}
use Rattle.office.specs.declared.answers.ReadError.{ReadError}
use Rattle.office.specs.declared.answers.ReadError.TheVariants.{Refused, Fault as Failed}
use Rattle.wire.proofs.OutcomeLemmas.{IsOutcome-handed}
use Rattle.wire.specs.Requests.{HttpRequestEntry, keying, reading}
use Rattle.wire.specs.Bodies.{KeyingEntry}
use Rattle.wire.specs.Responses.{ResponseEntry, fault_response}
use Rattle.wire.specs.Serving.{AcceptsKeying, IsHandedOn, IsReadTold, Readies, read_response, reading_response, told_response}
use Rattle.wire.specs.Told.{IsTold}
use Rattle.wire.specs.declared.response.Response.{Response}
use Rattle.wire.specs.declared.target.Resource.{Resource}

-- the office answered a keying
pub Readies-answered : (s : OfficeState) (clerk batch : ℕ) (entry : KeyingEntry) (request : Request) (a : Answer) (response : Response) (closed : Bool) (st : State)
    → IsHandedOn clerk batch entry request
    → Handled s (step_of s request) (Ok a) closed st → IsTold (told_response (told a)) response → Readies s (keying clerk batch entry) response closed st
Readies-answered s clerk batch entry request a response closed st is handled tells =
    let outcome = step_of s request in (
      told_response (told_of outcome),
      subst (λ t. IsTold (told_response t) response) handled.0 tells,
      inl (record { next = state_after s outcome; is = (outcome, IsOutcome-handed s clerk batch entry request is, refl, refl); open_at = handled.1 }),
    )

-- the office returned a fault for a keying
pub Readies-faulted : (s : OfficeState) (clerk batch : ℕ) (entry : KeyingEntry) (request : Request) (f : Fault) (response : Response) (closed : Bool) (st : State)
    → IsHandedOn clerk batch entry request
    → Handled s (step_of s request) (Err f) closed st → IsTold (fault_response (fault_number f)) response → Readies s (keying clerk batch entry) response closed st
Readies-faulted s clerk batch entry request f response closed st is handled tells =
    (fault_response (fault_number f), tells, inr (f, refl, (step_of s request, IsOutcome-handed s clerk batch entry request is, handled)))

-- an outcome is an answer to a request that was accepted just now, or the state is unchanged
done-accepted : (outcome : Outcome) → is_done (told_of outcome) ≡ is_accepted outcome
done-accepted (accepted next reply) = refl
done-accepted (kept reply) = refl
done-accepted (refused why) = refl

pub unaccepted-same : (s : OfficeState) (outcome : Outcome) → is_accepted outcome ≡ false → state_after s outcome ≡ s
unaccepted-same s (accepted next reply) is = absurd (true≢false is)
unaccepted-same s (kept reply) is = refl
unaccepted-same s (refused why) is = refl

answer-accepted : (outcome : Outcome) (a : Answer) (b : Bool) → told a ≡ told_of outcome → is_done (told a) ≡ b → is_accepted outcome ≡ b
answer-accepted outcome a b same is = sym (done-accepted outcome) ∙ ap is_done (sym same) ∙ is

-- the office accepted the keying just now
pub AcceptsKeying-done : (s : OfficeState) (clerk batch : ℕ) (entry : KeyingEntry) (request : Request) (a : Answer) (response : Response) (closed : Bool) (st : State)
    → IsHandedOn clerk batch entry request → is_done (told a) ≡ true
    → Handled s (step_of s request) (Ok a) closed st → IsTold (told_response (told a)) response → AcceptsKeying s clerk batch entry response (Some request) closed st
AcceptsKeying-done s clerk batch entry request a response closed st is done handled tells =
    (is, answer-accepted (step_of s request) a true handled.0 done, subst (λ t. IsTold (told_response t) response) handled.0 tells, handled.1)

-- the office accepted the keying earlier, or refused it
pub AcceptsKeying-none : (s : OfficeState) (clerk batch : ℕ) (entry : KeyingEntry) (request : Request) (a : Answer) (response : Response) (closed : Bool) (st : State)
    → IsHandedOn clerk batch entry request → is_done (told a) ≡ false
    → Handled s (step_of s request) (Ok a) closed st → IsTold (told_response (told a)) response → AcceptsKeying s clerk batch entry response None closed st
AcceptsKeying-none s clerk batch entry request a response closed st is other handled tells =
    let unaccepted = answer-accepted (step_of s request) a false handled.0 other in (
      request,
      is,
      inl (
        unaccepted,
        subst (λ t. IsTold (told_response t) response) handled.0 tells,
        subst (λ (x : OfficeState). IsOpenAt x closed st) (unaccepted-same s (step_of s request) unaccepted) handled.1,
      ),
    )

-- the office returned a fault
pub AcceptsKeying-faulted : (s : OfficeState) (clerk batch : ℕ) (entry : KeyingEntry) (request : Request) (f : Fault) (response : Response) (closed : Bool) (st : State)
    → IsHandedOn clerk batch entry request
    → Handled s (step_of s request) (Err f) closed st → IsTold (fault_response (fault_number f)) response → AcceptsKeying s clerk batch entry response None closed st
AcceptsKeying-faulted s clerk batch entry request f response closed st is handled tells = (request, is, inr (f, tells, handled))

-- a resource was read
pub Readies-read : {X Y : Type 0} (s : OfficeState) (what : Resource) (entry : X → ResponseEntry) (view : Y → X) (reads : Result X Reason) (r : Result Y ReadError)
    (response : Response) (closed : Bool) (st : State)
    → reading_response s what ≡ read_response entry reads → Read view s reads r closed st → IsReadTold entry view r response → Readies s (reading what) response closed st
Readies-read s what entry view reads (Ok y) response closed st same read tells = (
  entry (view y),
  tells,
  inl (record { next = s; is = (refl, sym (ap (read_response entry) read.0) ∙ sym same); open_at = read.1 }),
)
Readies-read s what entry view reads (Err (Refused why)) response closed st same read tells = (
  read_response entry (Err why),
  tells,
  inl (record { next = s; is = (refl, sym (ap (read_response entry) read.0) ∙ sym same); open_at = read.1 }),
)
Readies-read s what entry view reads (Err (Failed f)) response closed st same read tells = (fault_response (fault_number f), tells, inr (f, refl, read))

-- a response that is ready for one request is ready for any equal request
pub Readies-same : (s : OfficeState) (one other : HttpRequestEntry) (response : Response) (closed : Bool) (st : State) → one ≡ other → Readies s one response closed st
    → Readies s other response closed st
Readies-same s one other response closed st same ready = subst (λ asked. Readies s asked response closed st) same ready
