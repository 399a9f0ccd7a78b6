-- Responses to reads: what each says, and what is cached.
use Rattle.std.proofs.Common.{◌≡◌, ◌∙◌, ◌⊎◌, ◌∷◌, ◌++◌, Bool, false, true, true≢false, ℕ, List, [], None, Option, Some, arith, inl, inr, refl, subst, suc, sym}
use Rattle.std.specs.Prelude.{IfSome}
use Rattle.std.specs.List.{Contains}
use Rattle.std.proofs.lemmas.List.Elements.{All-push}
use Rattle.sqlite.specs.Held.{Held}
use Rattle.sqlite.specs.State.{HasCleanDisk, State}
use Rattle.register.specs.Offices.{OfficeState}
use Rattle.register.specs.declared.command.Request.{Request}
use Rattle.codes.specs.RateLimits.{LimitEntry}
use Rattle.desk.specs.Records.{Records}
use Rattle.store.specs.StateTables.{IsAt}
use Rattle.office.specs.Answers.{IsOpenAt, IsReadAt, WhenOpenAt}
use Rattle.office.specs.Values.{OfficeValue}
use Rattle.connections.specs.Clients.{IsSent}
use Rattle.connections.specs.Streams.{HasTaken, Stream}
use Rattle.connections.specs.declared.client.Listener.TheVariants.{Clients}
use Rattle.tables.specs.Faults.{fault_number}
use Rattle.tables.specs.declared.fault.Fault.{Fault}
use Rattle.wire.specs.Requests.{HttpRequestEntry, Asks, console, denied, keying, order, public, reading, shown}
use Rattle.wire.specs.Gates.{HttpSettingsEntry}
use Rattle.wire.specs.Responses.{ResponseEntry, fault_response}
use Rattle.wire.specs.Bodies.{KeyingEntry}
use Rattle.wire.specs.Serving.{AcceptsKeying, FaultLeaves, IsAnswered, IsHandedOn, IsPut, IsServed, Readies, ReadiesFor, closed_response, reading_response}
use Rattle.wire.specs.Told.{IsTold, IsWritten}
use Rattle.wire.specs.declared.response.Response.{Response}
use Rattle.wire.specs.declared.serving.Served.{Served}
use Rattle.wire.specs.declared.serving.Served.TheVariants.{Answered, ReadFailed, WriteFailed}
use Rattle.wire.specs.declared.target.Resource.{Resource}
use Rattle.server.specs.Reads.{AreReadAt, ServedOffice, IsRead, MemoryEntry, ReadEntry, IsNoFault, served_office}
use Rattle.server.specs.Endings.{EndsIn}
use Rattle.server.specs.Exchanges.{ChangesNothing, EndsSo, HasAnswered, IsKeyingUnrecorded, IsUnrecordedResponse, KeepsReads, KeepsRecord, RecordsAccepted, ServesClient, Exchange}
use Rattle.server.specs.RecordChanges.{ServedView}
use Rattle.server.specs.Settings.{ServerSettingsEntry}

-- ---- what a response says

-- a fault has a distinct status
told_fault : (number status : ℕ) (old new : Option (List ℕ)) (response : _) → IsTold (fault_response number) response → IsPut old new response (Answered status) → status ≡ 503
told_fault number status old new response (inl is) put = put.0 ∙ is.status
told_fault number status old new response (inr is) put = put.0 ∙ is.status

-- a request that changes nothing was answered, and the office is in the same state
answered_still : (s : OfficeState) (asked : HttpRequestEntry) (answer : ResponseEntry) (closed : Bool) (st : State) → ChangesNothing asked → IsAnswered s asked answer closed st → IsOpenAt s closed st
answered_still s (denied why) answer closed st still it = subst (λ (x : OfficeState). IsOpenAt x closed st) it.is.0 it.open_at
answered_still s (shown clerk show) answer closed st still it = subst (λ (x : OfficeState). IsOpenAt x closed st) it.is.0 it.open_at
answered_still s (reading what) answer closed st still it = subst (λ (x : OfficeState). IsOpenAt x closed st) it.is.0 it.open_at
answered_still s (keying clerk batch entry) answer closed st still it = absurd still
answered_still s (console show) answer closed st still it = subst (λ (x : OfficeState). IsOpenAt x closed st) it.is.0 it.open_at
answered_still s (order entry) answer closed st still it = absurd still
answered_still s (public its what) answer closed st still it = subst (λ (x : OfficeState). IsOpenAt x closed st) it.is.0 it.open_at

-- the office had a fault, and was only read
failed_still : (s : OfficeState) (asked : HttpRequestEntry) (f : Fault) (closed : Bool) (st : State) → ChangesNothing asked → FaultLeaves s asked f closed st → IsReadAt s closed st
failed_still s (denied why) f closed st still leaves = absurd leaves
failed_still s (shown clerk show) f closed st still leaves = absurd leaves
failed_still s (reading what) f closed st still (inl stays) = inl stays.open_at
failed_still s (reading what) f closed st still (inr shut) = inr (shut.is_closed, shut.leaves)
failed_still s (keying clerk batch entry) f closed st still leaves = absurd still
failed_still s (console show) f closed st still leaves = absurd leaves
failed_still s (order entry) f closed st still leaves = absurd still
failed_still s (public its what) f closed st still (inl stays) = inl stays.open_at
failed_still s (public its what) f closed st still (inr shut) = inr (shut.is_closed, shut.leaves)

pub only_read : (s : OfficeState) (asked : HttpRequestEntry) (response : _) (closed : Bool) (st : State) → ChangesNothing asked → Readies s asked response closed st → IsReadAt s closed st
only_read s asked response closed st still (entry, tells, inl answered) = inl (answered_still s asked entry closed st still answered)
only_read s asked response closed st still (entry, tells, inr (fault, told, more)) = failed_still s asked fault closed st still more

-- a response that doesn't report a fault is the response to the read
no_fault : (s : OfficeState) (what : Resource) (status : ℕ) (old new : Option (List ℕ)) (response : _) (closed : Bool) (st : State) → Readies s (reading what) response closed st
    → IsPut old new response (Answered status) → (status ≡ 503 → ⊥) → IsTold (reading_response s what) response
no_fault s what status old new response closed st (entry, tells, inl answered) put other = subst (λ (e : ResponseEntry). IsTold e response) answered.is.1 tells
no_fault s what status old new response closed st (entry, tells, inr (fault, told, more)) put other =
    absurd (other (told_fault (fault_number fault) status old new response (subst (λ (e : ResponseEntry). IsTold e response) told tells) put))

-- ---- one call

module _ {S : Type 0} (state_of : Held S → State) (old new : OfficeValue S) (asked : HttpRequestEntry) (before after answer : List ℕ) (served : Served)
    (is_before : before ≡ []) (is_answer : answer ≡ after) where
  these : (IsReady : _) → IsServed IsReady (Some before) (Some after) served → IsServed IsReady (Some []) (Some answer) served
  these IsReady it =
      subst (λ (a : List ℕ). IsServed IsReady (Some []) (Some a) served) (sym is_answer) (subst (λ (b : List ℕ). IsServed IsReady (Some b) (Some after) served) is_before it)

  pub call_answers : (HasCleanDisk (state_of new.held) → old.closed ≡ false → (s : OfficeState) → IsAt s (state_of old.held)
      → IsServed (λ response. Readies s asked response new.closed (state_of new.held)) (Some before) (Some after) served)
      → (old.closed ≡ true → IsServed (IsTold (closed_response asked)) (Some before) (Some after) served) → (old.closed ≡ true → new ≡ old)
      → (HasCleanDisk (state_of new.held) → HasCleanDisk (state_of old.held)) → HasAnswered state_of old asked answer new
  call_answers serves away stays clean = record {
    serves = λ clean is_open s at. (served, these (λ response. Readies s asked response new.closed (state_of new.held)) (serves clean is_open s at));
    turned_away = λ was. ((served, these (IsTold (closed_response asked)) (away was)), stays was);
    clean = clean;
  }

  read_told : (s : OfficeState) (what : Resource) (ending : Served) → IsNoFault ending → asked ≡ reading what
      → IsServed (λ response. Readies s asked response new.closed (state_of new.held)) (Some []) (Some answer) ending → IsRead s what answer
  read_told s what (Answered status) other same it = record {
    status = status;
    told = record {
      response = it.response;
      ready = no_fault s what status (Some []) (Some answer) it.response new.closed (state_of new.held)
          (subst (λ (a : HttpRequestEntry). Readies s a it.response new.closed (state_of new.held)) same it.ready) it.put other;
      put = it.put;
    };
  }
  read_told s what ReadFailed other same it = absurd other
  read_told s what WriteFailed other same it = absurd other

  -- the response that was sent is the response to the read
  pub call_read : IsNoFault served → (HasCleanDisk (state_of new.held) → old.closed ≡ false → (s : OfficeState) → IsAt s (state_of old.held)
      → IsServed (λ response. Readies s asked response new.closed (state_of new.held)) (Some before) (Some after) served)
      → WhenOpenAt state_of old new (λ s. (what : Resource) → asked ≡ reading what → IsRead s what answer)
  call_read well serves = λ clean is_open s at what same.
      read_told s what served well same (these (λ response. Readies s asked response new.closed (state_of new.held)) (serves clean is_open s at))

  -- the office was only read
  pub call_only : (HasCleanDisk (state_of new.held) → old.closed ≡ false → (s : OfficeState) → IsAt s (state_of old.held)
      → IsServed (λ response. Readies s asked response new.closed (state_of new.held)) (Some before) (Some after) served)
      → ChangesNothing asked → WhenOpenAt state_of old new (λ s. IsReadAt s new.closed (state_of new.held))
  call_only serves still = λ clean is_open s at. let it = serves clean is_open s at in only_read s asked it.response new.closed (state_of new.held) still it.ready

-- ---- a response that was written

pub put_first : (response : Response) (answer before after : List ℕ) (served : Served) → before ≡ [] → answer ≡ after → IsPut (Some before) (Some after) response served
    → EndsIn answer (λ old new ending. IsPut old new response ending)
put_first response answer before after served is_before is_answer it = (
  served,
  subst (λ (a : List ℕ). IsPut (Some []) (Some a) response served) (sym is_answer) (subst (λ (b : List ℕ). IsPut (Some b) (Some after) response served) is_before it),
)

-- it was the response to the request
pub put_answers : {S : Type 0} (state_of : Held S → State) (old new : OfficeValue S) (asked : HttpRequestEntry) (answer : List ℕ) (response : Response)
    → EndsIn answer (λ before after ending. IsPut before after response ending)
    → (HasCleanDisk (state_of new.held) → old.closed ≡ false → (s : OfficeState) → IsAt s (state_of old.held) → Readies s asked response new.closed (state_of new.held))
    → (old.closed ≡ true → IsTold (closed_response asked) response) → (old.closed ≡ true → new ≡ old) → (HasCleanDisk (state_of new.held) → HasCleanDisk (state_of old.held))
    → HasAnswered state_of old asked answer new
put_answers state_of old new asked answer response (served, put) answers told stays clean = record {
  serves = λ honest is_open s at. (served, record { response = response; ready = answers honest is_open s at; put = put });
  turned_away = λ was. ((served, record { response = response; ready = told was; put = put }), stays was);
  clean = clean;
}

-- ---- a client was served

some_not_none : {X : Type 0} (x : X) → Some x ≡ None → ⊥
some_not_none x is = cc is

not_closed : (b : Bool) → (b ≡ true → ⊥) → b ≡ false
not_closed false not = refl
not_closed true not = absurd (not refl)

module _ {S R : Type 0} (settings : HttpSettingsEntry) (view : ServedView S R) where
  -- a client's request, which changes nothing, was answered by the office
  pub served_anew : (old new : OfficeValue S) (kept later : MemoryEntry R) (number moment : ℕ) (got : List ℕ) (asked : HttpRequestEntry) (answer : List ℕ) → Asks settings got asked
      → ChangesNothing asked → HasAnswered view.state_of old asked answer new → KeepsReads settings view.state_of (served_office old kept) got (served_office new later)
      → later.recorder ≡ kept.recorder
      → ServesClient settings view (served_office old kept) (record { listener = Clients; number = number; moment = moment; got = got; answer = answer }) (served_office new later)
  served_anew old new kept later number moment got asked answer asks still has keeps same = record {
    serves = λ clean is_open s at right.
        let (served, it) = has.serves clean is_open s at in
        (served, record { response = it.response; ready = inl (record { asked = asked; asks = asks; readies = it.ready }); put = it.put });
    keeps = keeps;
    turned_away = λ was.
        let ((served, it), stays) = has.turned_away was in
        ((served, record { response = it.response; ready = inl (record { asked = asked; asks = asks; tells = it.ready }); put = it.put }), stays);
    clean = has.clean;
    record_kept = inl (same, inl (asked, asks, still));
  }

  -- an allocation failed while the request was parsed, and the cache is empty
  pub served_none : (office : OfficeValue S) (kept later : MemoryEntry R) (number moment : ℕ) (got answer : List ℕ) → later.reads ≡ [] → later.recorder ≡ kept.recorder
      → EndsIn answer (IsServed (IsWritten (fault_response 101)))
      → ServesClient settings view (served_office office kept) (record { listener = Clients; number = number; moment = moment; got = got; answer = answer }) (served_office office later)
  served_none office kept later number moment got answer none same (served, it) = record {
    serves = λ clean is_open s at right. (served, record { response = it.response; ready = inr (it.ready, record { is_open = is_open; at = at }); put = it.put });
    keeps = inl none;
    turned_away = λ was. ((served, record { response = it.response; ready = inr it.ready; put = it.put }), refl);
    clean = λ clean. clean;
    record_kept = inl (same, inr ((served, it), refl));
  }

  kept_at : (s : OfficeState) (reads : List ReadEntry) (entry : ReadEntry) → Contains reads entry → AreReadAt s reads → IsRead s entry.what entry.answer
  kept_at s reads entry (place, within, is) right = subst (λ (r : ReadEntry). IsRead s r.what r.answer) is (right place entry within)

  told_from : (s : OfficeState) (what : Resource) (got answer : List ℕ) (closed : Bool) (st : State) (number moment : ℕ) → Asks settings got (reading what)
      → IsRead s what answer → IsOpenAt s closed st
      → EndsSo (record { listener = Clients; number = number; moment = moment; got = got; answer = answer }) (IsServed (λ response. ReadiesFor settings (Some got) s response closed st))
  told_from s what got answer closed st number moment asks it open_at = (
    Answered it.status,
    record {
      response = it.told.response;
      ready = inl (record {
        asked = reading what;
        asks = asks;
        readies = (reading_response s what, it.told.ready, inl (record { next = s; is = (refl, refl); open_at = open_at }));
      });
      put = it.told.put;
    },
  )

  -- the client was served from the cache
  pub served_again : (office : OfficeValue S) (kept : MemoryEntry R) (number moment : ℕ) (got : List ℕ) (what : Resource) (answer : List ℕ) (entry : ReadEntry)
      → office.closed ≡ false → Asks settings got (reading what)
      → Contains kept.reads entry → entry.what ≡ what → entry.answer ≡ answer
      → ServesClient settings view (served_office office kept) (record { listener = Clients; number = number; moment = moment; got = got; answer = answer }) (served_office office kept)
  served_again office kept number moment got what answer entry is_open asks there same told = record {
    serves = λ clean was s at right.
        let it = kept_at s kept.reads entry there right in
        let belongs = subst (λ (w : Resource). IsRead s w answer) same (subst (λ (a : List ℕ). IsRead s entry.what a) told it) in
        told_from s what got answer office.closed (view.state_of office.held) number moment asks belongs (record { is_open = is_open; at = at });
    keeps = inr ((reading what, asks, tt), λ clean was s at right. (right, inl (record { is_open = is_open; at = at })));
    turned_away = λ closed. absurd (true≢false (sym closed ∙ is_open));
    clean = λ clean. clean;
    record_kept = inl (refl, inl (reading what, asks, tt));
  }

  -- then a wrong code is counted
  pub noted_still : (old : ServedOffice S R) (exchange : Exchange) (new : OfficeValue S) (kept : MemoryEntry R) (limit : LimitEntry)
      → ServesClient settings view old exchange (served_office new kept)
      → ServesClient settings view old exchange (served_office new (record { reads = kept.reads; limit = limit; recorder = kept.recorder }))
  noted_still old exchange new kept limit it = record {
    serves = it.serves;
    keeps = it.keeps;
    turned_away = it.turned_away;
    clean = it.clean;
    record_kept = by it.record_kept;
  }
    where
      by : KeepsRecord settings view old exchange (served_office new kept)
          → KeepsRecord settings view old exchange (served_office new (record { reads = kept.reads; limit = limit; recorder = kept.recorder }))
      by (inl (same, inl nothing)) = inl (same, inl nothing)
      by (inl (same, inr nothing)) = inl (same, inr nothing)
      by (inr sent) = inr (record {
        clerk = sent.clerk;
        batch = sent.batch;
        entry = sent.entry;
        asks = sent.asks;
        accepted = sent.accepted;
        answered = sent.answered;
        none_closed = sent.none_closed;
        had_not_failed = sent.had_not_failed;
        recorded = sent.recorded;
      })

  -- ---- what is cached

  behind : (s : OfficeState) (gone kept : List ReadEntry) → AreReadAt s (gone ++ kept) → AreReadAt s kept
  behind s [] kept right = right
  behind s (one ∷ gone) kept right = behind s gone kept (λ place entry within. right (suc place) entry (omega (arith, within)))

  -- nothing else is cached
  pub keeps_same : (old new : OfficeValue S) (kept : MemoryEntry R) (got : List ℕ) (asked : HttpRequestEntry) → Asks settings got asked → ChangesNothing asked
      → WhenOpenAt view.state_of old new (λ s. IsReadAt s new.closed (view.state_of new.held)) → KeepsReads settings view.state_of (served_office old kept) got (served_office new kept)
  keeps_same old new kept got asked asks still only = inr ((asked, asks, still), λ clean is_open s at right. (right, only clean is_open s at))

  -- the response may have been cached too, and the oldest ones were removed
  pub keeps_more : (old new : OfficeValue S) (kept later : MemoryEntry R) (got : List ℕ) (what : Resource) (answer told : List ℕ) → told ≡ answer → Asks settings got (reading what)
      → WhenOpenAt view.state_of old new (λ s. IsRead s what answer) → WhenOpenAt view.state_of old new (λ s. IsReadAt s new.closed (view.state_of new.held))
      → (gone left : List ReadEntry) × (kept.reads ≡ gone ++ left) × ((later.reads ≡ left) ⊎ (later.reads ≡ left ++ record { what = what; answer = told } ∷ []))
      → KeepsReads settings view.state_of (served_office old kept) got (served_office new later)
  keeps_more old new kept later got what answer told same_told asks read only (gone, left, is, now) = inr (
    (reading what, asks, tt),
    λ clean is_open s at right. (
      let still = behind s gone left (subst (λ (rs : List ReadEntry). AreReadAt s rs) is right) in
          elim now [
            | inl same ↦ subst (λ (rs : List ReadEntry). AreReadAt s rs) (sym same) still
            | inr more ↦
                subst (λ (rs : List ReadEntry). AreReadAt s rs) (sym more)
                (All-push (λ (r : ReadEntry). IsRead s r.what r.answer) left (record { what = what; answer = told }) still
                (subst (λ (a : List ℕ). IsRead s what a) (sym same_told) (read clean is_open s at)))
          ],
      only clean is_open s at,
    ),
  )

  -- ---- a clerk's keying

  -- a keying was sent to the office, and recorded if the office accepted it
  pub served_keyed : (old new : OfficeValue S) (kept later : MemoryEntry R) (number moment : ℕ) (got : List ℕ) (clerk batch : ℕ) (entry : KeyingEntry) (response : Response)
      (accepted : Option Request) (answer : List ℕ) → Asks settings got (keying clerk batch entry) → HasAnswered view.state_of old (keying clerk batch entry) answer new → later.reads ≡ []
      → view.failed kept.recorder ≡ false
      → (HasCleanDisk (view.state_of new.held) → old.closed ≡ false → (s : OfficeState) → IsAt s (view.state_of old.held)
      → AcceptsKeying s clerk batch entry response accepted new.closed (view.state_of new.held))
      → (old.closed ≡ true → accepted ≡ None) → EndsIn answer (λ before after ending. IsPut before after response ending)
      → RecordsAccepted view kept.recorder later.recorder accepted
      → ServesClient settings view (served_office old kept) (record { listener = Clients; number = number; moment = moment; got = got; answer = answer }) (served_office new later)
  served_keyed old new kept later number moment got clerk batch entry response accepted answer asks has emptied unfailed accepts none_closed (ending, put) recorded = record {
    serves = λ clean is_open s at right.
        let (served, it) = has.serves clean is_open s at in
        (served, record { response = it.response; ready = inl (record { asked = keying clerk batch entry; asks = asks; readies = it.ready }); put = it.put });
    keeps = inl emptied;
    turned_away = λ was.
        let ((served, it), stays) = has.turned_away was in
        ((served, record { response = it.response; ready = inl (record { asked = keying clerk batch entry; asks = asks; tells = it.ready }); put = it.put }), stays);
    clean = has.clean;
    record_kept = inr (record {
      clerk = clerk;
      batch = batch;
      entry = entry;
      asks = asks;
      accepted = accepted;
      answered = λ clean is_open s at. (ending, record { response = response; ready = accepts clean is_open s at; put = put });
      none_closed = none_closed;
      had_not_failed = unfailed;
      recorded = recorded;
    });
  }

-- a request was accepted, but recording it failed
pub keyed_unrecorded : {S R : Type 0} (settings : ServerSettingsEntry) (view : ServedView S R) (old new : OfficeValue S) (kept later : MemoryEntry R) (exchange : Exchange) (clerk batch : ℕ)
    (entry : KeyingEntry) (response : Response) (accepted : Option Request) (request : Request) → accepted ≡ Some request → Asks settings.clients exchange.got (keying clerk batch entry)
    → view.failed kept.recorder ≡ false
    → (HasCleanDisk (view.state_of new.held) → old.closed ≡ false → (s : OfficeState) → IsAt s (view.state_of old.held)
    → AcceptsKeying s clerk batch entry response accepted new.closed (view.state_of new.held))
    → IfSome accepted (λ r. IsHandedOn clerk batch entry r) → (old.closed ≡ true → accepted ≡ None)
    → view.failed later.recorder ≡ true → settings.recorded ≡ true → Records request (view.found kept.recorder) (view.found later.recorder) (view.failed later.recorder)
    → IsUnrecordedResponse exchange → (HasCleanDisk (view.state_of new.held) → HasCleanDisk (view.state_of old.held))
    → IsKeyingUnrecorded settings view (served_office old kept) exchange (served_office new later)
keyed_unrecorded settings view old new kept later exchange clerk batch entry response accepted request some asks unfailed accepts handed none_closed failed recorded records told clean = record {
  clerk = clerk;
  batch = batch;
  entry = entry;
  request = request;
  asks = asks;
  handed = subst (λ (o : Option Request). IfSome o (λ r. IsHandedOn clerk batch entry r)) some handed;
  was_open = not_closed old.closed (λ closed. some_not_none request (sym some ∙ none_closed closed));
  accepted = λ clean is_open s at.
      let it = subst (λ (o : Option Request). AcceptsKeying s clerk batch entry response o new.closed (view.state_of new.held)) some (accepts clean is_open s at) in
      (it.1, it.3);
  had_not_failed = unfailed;
  failed = failed;
  recorded = recorded;
  leaves = records;
  told = told;
  clean = clean;
}

-- nothing has been sent yet
pub told_zero : {L : Type 0} (stream : Stream L) (now : L) (answer : List ℕ) (sent : ℕ) → sent ≡ 0 → HasTaken (stream.taken now) [] → IsSent stream now answer sent
told_zero {L} stream now answer sent none fresh = subst (λ (n : ℕ). IsSent stream now answer n) (sym none) (record { within = omega arith; took = fresh })
