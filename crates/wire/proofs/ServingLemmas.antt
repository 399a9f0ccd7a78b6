-- What a connection is sent, and the state that it leaves.
use Rattle.std.proofs.Common.{◌≡◌, ℕ, Bool, List, Option, inl, inr, refl, subst}
use Rattle.std.specs.Prelude.{IfSome}
use Rattle.sqlite.specs.State.{State}
use Rattle.register.specs.Offices.{OfficeState}
use Rattle.wire.specs.Requests.{HttpRequestEntry, Asks, ShowEntry}
use Rattle.office.specs.Answers.{IsOpenAt}
use Rattle.wire.specs.Gates.{HttpSettingsEntry}
use Rattle.wire.specs.Responses.{fault_response}
use Rattle.wire.specs.Serving.{EndsWith, IsConsoleAlike, IsDeniedAlike, IsPut, IsServed, IsShownAlike, OnAnswered, OnReadFailed}
use Rattle.wire.specs.Serving.{OnWriteFailed, Readies, ReadiesClosed, ReadiesFor, Serves, ServesClosed, closed_response}
use Rattle.wire.specs.Told.{IsTold, IsWritten}
use Rattle.wire.specs.declared.request_error.RequestError.{RequestError}
use Rattle.wire.specs.declared.response.Response.{Response}
use Rattle.wire.specs.declared.serving.Served.{Served}
use Rattle.wire.specs.declared.serving.Served.TheVariants.{Answered, ReadFailed, WriteFailed}

-- a rejected request is answered without looking at the state
pub IsDeniedAlike-all : (why : RequestError) → IsDeniedAlike why
IsDeniedAlike-all why s t next answer is = (is.0, (refl, is.1), is.1)

-- and so is a request for a page that is shown
pub IsShownAlike-all : (show : ShowEntry) → IsShownAlike show
IsShownAlike-all show clerk s t next answer is = (is.0, (refl, is.1), is.1)

pub IsConsoleAlike-all : (show : ShowEntry) → IsConsoleAlike show
IsConsoleAlike-all show s t next answer is = (is.0, (refl, is.1), is.1)

-- a response was written
pub IsServed-put : (IsReady : Response → Type 0) (old new : Option (List ℕ)) (response : Response) (served : Served) → IsReady response → IsPut old new response served
    → IsServed IsReady old new served
IsServed-put IsReady old new response served ready put = record { response = response; ready = ready; put = put }

-- if a response was written, the reader didn't fail
pub put-apart : (old new : Option (List ℕ)) (response : Response) (served : Served) → IsPut old new response served → served ≡ ReadFailed → ⊥
put-apart old new response served put is = subst (λ (e : Served). IsPut old new response e) is put

pub unread : (served : Served) (P : Type 0) → (served ≡ ReadFailed → ⊥) → OnReadFailed served P
unread (Answered status) P apart = tt
unread ReadFailed P apart = absurd (apart refl)
unread WriteFailed P apart = tt

-- a response that was ready in one sense is ready in another
ready-too : (P Q : Response → Type 0) (old new : Option (List ℕ)) (served : Served) → ((response : Response) → P response → Q response) → IsServed P old new served → IsServed Q old new served
ready-too P Q old new served so it = record { response = it.response; ready = so it.response it.ready; put = it.put }

-- a response that was ready was written
ends-put : (IsReady : Response → Type 0) (ReadFailure : Type 0) (old new : Option (List ℕ)) (served : Served) → IsServed IsReady old new served → EndsWith IsReady ReadFailure old new served
ends-put IsReady ReadFailure old new (Answered status) it = it
ends-put IsReady ReadFailure old new ReadFailed it = absurd it.put
ends-put IsReady ReadFailure old new WriteFailed it = it

-- a request was answered
pub Serves-asked : (settings : HttpSettingsEntry) (bytes old new : Option (List ℕ)) (s : OfficeState) (asked : HttpRequestEntry) (served : Served) (closed : Bool) (st : State)
    → IfSome bytes (λ xs. Asks settings xs asked)
    → IsServed (λ response. Readies s asked response closed st) old new served → Serves settings bytes old new s served closed st
Serves-asked settings bytes old new s asked served closed st asks it =
    ends-put _ _ old new served
    (ready-too (λ response. Readies s asked response closed st) (λ response. ReadiesFor settings bytes s response closed st) old new served
    (λ response ready. inl (record { asked = asked; asks = asks; readies = ready })) it)

-- an allocation failed for the request
pub Serves-memory : (settings : HttpSettingsEntry) (bytes old new : Option (List ℕ)) (s : OfficeState) (served : Served) (closed : Bool) (st : State) → IsOpenAt s closed st
    → IsServed (IsWritten (fault_response 101)) old new served → Serves settings bytes old new s served closed st
Serves-memory settings bytes old new s served closed st open_at it =
    ends-put _ _ old new served
    (ready-too (IsWritten (fault_response 101)) (λ response. ReadiesFor settings bytes s response closed st) old new served (λ response ready. inr (ready, open_at)) it)

-- a request was answered by a closed office
pub ServesClosed-asked : (settings : HttpSettingsEntry) (bytes old new : Option (List ℕ)) (asked : HttpRequestEntry) (served : Served) → IfSome bytes (λ xs. Asks settings xs asked)
    → IsServed (IsTold (closed_response asked)) old new served → ServesClosed settings bytes old new served
ServesClosed-asked settings bytes old new asked served asks it =
    ends-put _ _ old new served
    (ready-too (IsTold (closed_response asked)) (ReadiesClosed settings bytes) old new served (λ response ready. inl (record { asked = asked; asks = asks; tells = ready })) it)

pub ServesClosed-memory : (settings : HttpSettingsEntry) (bytes old new : Option (List ℕ)) (served : Served) → IsServed (IsWritten (fault_response 101)) old new served
    → ServesClosed settings bytes old new served
ServesClosed-memory settings bytes old new served it =
    ends-put _ _ old new served (ready-too (IsWritten (fault_response 101)) (ReadiesClosed settings bytes) old new served (λ response ready. inr ready) it)

-- what holds however the write ended, together with what holds if the response was written completely
pub OnAnswered-both : (served : Served) (P Q : Type 0) → P → OnAnswered served Q → OnAnswered served (P × Q)
OnAnswered-both (Answered status) P Q always own = (always, own)
OnAnswered-both ReadFailed P Q always own = tt
OnAnswered-both WriteFailed P Q always own = tt

-- what holds however the write ended, together with what holds if the writer failed
pub OnWriteFailed-both : (served : Served) (P Q : Type 0) → P → OnWriteFailed served Q → OnWriteFailed served (P × Q)
OnWriteFailed-both (Answered status) P Q always own = tt
OnWriteFailed-both ReadFailed P Q always own = tt
OnWriteFailed-both WriteFailed P Q always own = (always, own)
