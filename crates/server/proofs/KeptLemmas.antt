-- What clients and orders, processed one after another, leave of an office.
use Rattle.std.proofs.Common.{◌≡◌, ◌≤◌, ◌+◌, ◌∙◌, ◌⊎◌, ◌∷◌, ◌++◌, append_assoc, drop, true, true≢false, ℕ, Bool, List, [], None, Option, Some, zero}
use Rattle.std.proofs.Common.{arith, inl, inr, length, length-append, refl, sym, subst, suc, take, ap}
use Rattle.std.specs.Prelude.{false}
use Rattle.std.specs.List.{FoldsTo}
use Rattle.std.proofs.Math.Seq.{take-add, take-append_seam, take-length}
use Rattle.std.proofs.lemmas.List.{length-take}
use Rattle.std.proofs.lemmas.List.Elements.{All-nil}
use Rattle.std.proofs.lemmas.List.Sums.{fold-append}
use Rattle.clap.specs.Words.{Text}
use Rattle.sqlite.specs.Held.{Held}
use Rattle.sqlite.specs.State.{HasCleanDisk, State}
use Rattle.register.specs.Machine.{after, after_one, state_after, step_of}
use Rattle.register.specs.Offices.{OfficeState, empty_office}
use Rattle.register.specs.declared.command.Request.{Request}
use Rattle.tables.specs.Faults.{fault_number}
use Rattle.tables.specs.declared.fault.Fault.{Fault}
use Rattle.tables.specs.declared.fault.Fault.TheVariants.{Memory}
use Rattle.store.specs.StateTables.{IsAt, LeavesState}
use Rattle.office.specs.Answers.{IsMemoryOrStore, IsOpenAt, IsReadAt, told_of}
use Rattle.office.specs.Values.{OfficeValue}
use Rattle.office.proofs.RunLemmas.{beginning}
use Rattle.wire.specs.Requests.{HttpRequestEntry, Asks, console, denied, keying, order, public, reading, shown}
use Rattle.wire.specs.Responses.{ResponseEntry, fault_response}
use Rattle.wire.specs.Bodies.{KeyingEntry}
use Rattle.wire.specs.Serving.{AcceptsKeying, FaultLeaves, IsAnswered, IsServed, ReadiesFor, TellsAsked, TellsFault, TellsFor, told_response}
use Rattle.wire.specs.Told.{IsTold, IsWritten}
use Rattle.wire.proofs.AnswerLemmas.{unaccepted-same}
use Rattle.wire.proofs.RequestLemmas.{AsksOneThing-all}
use Rattle.connections.specs.declared.client.Listener.{Listener}
use Rattle.connections.specs.declared.client.Listener.TheVariants.{Clients, Orders}
use Rattle.desk.specs.Folders.{Folder}
use Rattle.desk.specs.Headline.{Course, IsDoneBy}
use Rattle.desk.specs.Pages.{Cut, Page}
use Rattle.desk.proofs.KeptLemmas.{Kept, kept_done_by}
use Rattle.desk.proofs.OpenLemmas.{after_next}
use Rattle.desk.specs.Records.{IsAfterAnswered, IsRecordOf, IsRecorded, LeavesRecord, Records}
use Rattle.desk.proofs.RecordedEnds.{done_recorded, open_done_by}
use Rattle.server.specs.RecordChanges.{RecordChange, ServedView, change_in, change_of}
use Rattle.server.specs.ServedOrders.{AgreesWithRecord, IsOrderOutcome, IsFramed, OrderPrints, PrintsAt, folder_of}
use Rattle.server.specs.ConsoleOrders.{FollowsConsole, IsInResponse, ConsolePrints}
use Rattle.wire.specs.Gates.{HttpSettingsEntry}
use Rattle.server.specs.Reads.{AreReadAt, ServedOffice, IsRead, ReadEntry, with_none_kept}
use Rattle.server.specs.Settings.{ServerSettingsEntry}
use Rattle.server.specs.Exchanges.{AnswersInTurn, AreRefusedClosed, AsksNoOrder, ChangesNothing, EndsSo, IsAfterLast, IsAnsweredAt, IsKeyingSent, IsOpenIn, IsUnacknowledgedAt}
use Rattle.server.specs.Exchanges.{KeepsExchanges, KeepsInRecord, KeepsRecord, IsRateLimited, IsLastFor, IsStoppedAt, RecordsAccepted, SendsNothing}
use Rattle.server.specs.Exchanges.{GetsClosedResponse, IsRejected, IsWithoutFile, KeepsReads, ServesAsked, ServesAt, ServesClient, ServesExchange, Exchange}
use Rattle.desk.specs.declared.orders.Job.{Job}
use Rattle.server.specs.declared.served_order.ServedOrder.{ServedOrder}
use Rattle.server.specs.declared.served_order.ServedOrder.TheVariants as asked

-- the state after the first requests: those that were answered, and at most one other
abbrev pub IsAfterSome : OfficeState → List Request → ℕ → OfficeState → Type 0
IsAfterSome s rs n x = (k : ℕ) × (n ≤ k) × (k ≤ n + 1) × (k ≤ length rs) × (x ≡ after s (take k rs))

-- ---- a client in an open office

leaves_as : (st : State) (P Q : OfficeState → Type 0) → ((x : OfficeState) → P x → Q x) → LeavesState st P → LeavesState st Q
leaves_as st P Q turns leaves trees may = let it = leaves trees may in (it.0, turns it.0 it.1, it.2)

-- a fault closed the office: a stop leaves the state before, or the state after the last request
abbrev ClosesAt : OfficeState → List Request → Bool → State → Type 0
ClosesAt s last closed st = (closed ≡ true) × LeavesState st (IsAfterSome s last 0)

-- what a request leaves once its response is ready: the given requests were sent to the office for it; or the response reports a fault that closed the office
abbrev ReadyLeaves : HttpSettingsEntry → List ℕ → OfficeState → (List Request → Type 0) → Type 0 → Bool → State → Type 0
ReadyLeaves settings bytes s Tells Fails closed st =
    ((sent : List Request) × Tells sent × IsOpenAt (after s sent) closed st) ⊎ ((last : List Request) × Fails × IsLastFor settings bytes last × ClosesAt s last closed st)

before_last : (s : OfficeState) (last : List Request) (x : OfficeState) → x ≡ s → IsAfterSome s last 0 x
before_last s last x is = (0, omega arith, omega arith, omega arith, is)

ready_answered : (settings : HttpSettingsEntry) (bytes : List ℕ) (s : OfficeState) (asked : HttpRequestEntry) (answer : ResponseEntry) (response : _) (closed : Bool) (st : State)
    → Asks settings bytes asked
    → IsTold answer response → IsAnswered s asked answer closed st → ReadyLeaves settings bytes s (λ sent. TellsFor settings (Some bytes) s sent response) (TellsFault response) closed st
ready_answered settings bytes s (denied why) answer response closed st asks tells it =
    inl ([], inl (denied why, asks, (subst (λ a. IsTold a response) it.is.1 tells, refl)), subst (λ x. IsOpenAt x closed st) it.is.0 it.open_at)
ready_answered settings bytes s (shown clerk show) answer response closed st asks tells it =
    inl ([], inl (shown clerk show, asks, (subst (λ a. IsTold a response) it.is.1 tells, refl)), subst (λ x. IsOpenAt x closed st) it.is.0 it.open_at)
ready_answered settings bytes s (reading what) answer response closed st asks tells it =
    inl ([], inl (reading what, asks, (subst (λ a. IsTold a response) it.is.1 tells, refl)), subst (λ x. IsOpenAt x closed st) it.is.0 it.open_at)
ready_answered settings bytes s (console show) answer response closed st asks tells it =
    inl ([], inl (console show, asks, (subst (λ a. IsTold a response) it.is.1 tells, refl)), subst (λ x. IsOpenAt x closed st) it.is.0 it.open_at)
ready_answered settings bytes s (public its what) answer response closed st asks tells it =
    inl ([], inl (public its what, asks, (subst (λ a. IsTold a response) it.is.1 tells, refl)), subst (λ x. IsOpenAt x closed st) it.is.0 it.open_at)
ready_answered settings bytes s (order entry) answer response closed st asks tells it =
    inl ([], inl (order entry, asks, (subst (λ a. IsTold a response) it.is.1 tells, refl)), subst (λ x. IsOpenAt x closed st) it.is.0 it.open_at)
ready_answered settings bytes s (keying clerk batch entry) answer response closed st asks tells it =
    let (outcome, is, next, told) = it.is in
    let same = is.each is.request is.is in
    inl (
      is.request ∷ [],
      inl (keying clerk batch entry, asks, (is.request, is.is, subst (λ a. IsTold a response) (told ∙ ap (λ o. told_response (told_of o)) same) tells, refl)),
      subst (λ x. IsOpenAt x closed st) (next ∙ ap (state_after s) same) it.open_at,
    )

-- a failed allocation is reported as such
tells_memory : (fault : Fault) (response : _) → fault ≡ Memory → IsTold (fault_response (fault_number fault)) response → IsWritten (fault_response 101) response
tells_memory fault response is tells = by (subst (λ (f : Fault). IsTold (fault_response (fault_number f)) response) is tells)
  where
    by : IsTold (fault_response 101) response → IsWritten (fault_response 101) response
    by (inl written) = written
    by (inr written) = written

-- and a failed allocation or a fault of the store is reported under its number
tells_fault : (fault : Fault) (response : _) → IsMemoryOrStore fault → IsTold (fault_response (fault_number fault)) response → TellsFault response
tells_fault fault response (inl memory) tells = inr (tells_memory fault response memory tells)
tells_fault fault response (inr store) tells = subst (λ (f : Fault). IsTold (fault_response (fault_number f)) response) store tells

ready_failed : (settings : HttpSettingsEntry) (bytes : List ℕ) (s : OfficeState) (asked : HttpRequestEntry) (fault : Fault) (response : _) (closed : Bool) (st : State)
    → Asks settings bytes asked
    → IsTold (fault_response (fault_number fault)) response → FaultLeaves s asked fault closed st
    → ReadyLeaves settings bytes s (λ sent. TellsFor settings (Some bytes) s sent response) (TellsFault response) closed st
ready_failed settings bytes s (denied why) fault response closed st asks tells leaves = absurd leaves
ready_failed settings bytes s (shown clerk show) fault response closed st asks tells leaves = absurd leaves
ready_failed settings bytes s (console show) fault response closed st asks tells leaves = absurd leaves
ready_failed settings bytes s (order entry) fault response closed st asks tells leaves = absurd leaves
ready_failed settings bytes s (reading what) fault response closed st asks tells (inl kept) = inl ([], inr (tells_memory fault response kept.memory tells, refl), kept.open_at)
ready_failed settings bytes s (reading what) fault response closed st asks tells (inr shut) = inr (
  [],
  tells_fault fault response (inr shut.fault) tells,
  inl refl,
  (shut.is_closed, leaves_as st _ _ (before_last s []) shut.leaves),
)
ready_failed settings bytes s (public its what) fault response closed st asks tells (inl kept) = inl ([], inr (tells_memory fault response kept.memory tells, refl), kept.open_at)
ready_failed settings bytes s (public its what) fault response closed st asks tells (inr shut) = inr (
  [],
  tells_fault fault response (inr shut.fault) tells,
  inl refl,
  (shut.is_closed, leaves_as st _ _ (before_last s []) shut.leaves),
)
ready_failed settings bytes s (keying clerk batch entry) fault response closed st asks tells (outcome, is, inl kept) = inl ([], inr (tells_memory fault response kept.memory tells, refl), kept.open_at)
ready_failed settings bytes s (keying clerk batch entry) fault response closed st asks tells (outcome, is, inr shut) =
    let last = is.request ∷ [] in
    let same = is.each is.request is.is in
    inr (
      last,
      tells_fault fault response shut.fault tells,
      inr (clerk, batch, entry, is.request, asks, is.is, refl),
      (
        shut.is_closed,
        leaves_as st _ _ (λ x. elim [
          | inl before ↦ before_last s last x before
          | inr next ↦ (1, omega arith, omega arith, omega arith, next ∙ ap (state_after s) same)
        ]) shut.leaves,
      ),
    )

ready_leaves : (settings : HttpSettingsEntry) (bytes : List ℕ) (s : OfficeState) (response : _) (closed : Bool) (st : State) → ReadiesFor settings (Some bytes) s response closed st
    → ReadyLeaves settings bytes s (λ sent. TellsFor settings (Some bytes) s sent response) (TellsFault response) closed st
ready_leaves settings bytes s response closed st (inr wanting) = inl ([], inr (wanting.0, refl), wanting.1)
ready_leaves settings bytes s response closed st (inl ready) =
    let (answer, tells, leaves) = ready.readies in
    elim leaves [
      | inl answered ↦ ready_answered settings bytes s ready.asked answer response closed st ready.asks tells answered
      | inr failed ↦ ready_failed settings bytes s ready.asked failed.0 response closed st ready.asks (subst (λ a. IsTold a response) failed.1 tells) failed.2
    ]

-- what a served client leaves
abbrev ClientLeaves : HttpSettingsEntry → OfficeState → Exchange → Bool → State → Type 0
ClientLeaves settings s exchange closed st =
    ((sent : List Request) × EndsSo exchange (IsServed (TellsFor settings (Some exchange.got) s sent)) × IsOpenAt (after s sent) closed st)
    ⊎ ((last : List Request) × EndsSo exchange (IsServed TellsFault) × IsLastFor settings exchange.got last × ClosesAt s last closed st)

client_leaves : (settings : HttpSettingsEntry) (s : OfficeState) (exchange : Exchange) (closed : Bool) (st : State)
    → EndsSo exchange (IsServed (λ response. ReadiesFor settings (Some exchange.got) s response closed st))
    → ClientLeaves settings s exchange closed st
client_leaves settings s exchange closed st (served, it) = elim (ready_leaves settings exchange.got s it.response closed st it.ready) [
  | inl (sent, tells, open_at) ↦ inl (sent, (served, record { response = it.response; ready = tells; put = it.put }), open_at)
  | inr (last, fails, is_last, closes) ↦ inr (last, (served, record { response = it.response; ready = fails; put = it.put }), is_last, closes)
]

-- ---- the record

record_as : (found : Text → Type 0) (P Q : OfficeState → Type 0) → ((x : OfficeState) → P x → Q x) → LeavesRecord found P → LeavesRecord found Q
record_as found P Q turns leaves text is = let it = leaves text is in (it.0, turns it.0 it.1, it.2)

-- the record leads to the state before, which is one of those after some requests
record_before : (found : Text → Type 0) (s : OfficeState) (last : List Request) → IsRecordOf found s → LeavesRecord found (IsAfterSome s last 0)
record_before found s last it = record_as found _ _ (before_last s last) it.leads

-- a record of one state is one of an equal state
record_at : (found : Text → Type 0) (s t : OfficeState) → s ≡ t → IsRecordOf found s → IsRecordOf found t
record_at found s t same it = subst (λ (x : OfficeState). IsRecordOf found x) same it

module _ {R : Type 0} (found : R → Text → Type 0) where
  -- the record is unchanged
  record_same : (old new : R) (s : OfficeState) → new ≡ old → IsRecordOf (found old) s → IsRecordOf (found new) s
  record_same old new s same it = subst (λ (r : R). IsRecordOf (found r) s) (sym same) it

  leaves_same : (old new : R) (P : OfficeState → Type 0) → new ≡ old → LeavesRecord (found old) P → LeavesRecord (found new) P
  leaves_same old new P same it = subst (λ (r : R). LeavesRecord (found r) P) (sym same) it

-- ---- an order in an open office

-- at most one request follows the answered ones
few_next : (requests : List Request) (n : ℕ) → length (take 1 (drop n requests)) ≤ 1
few_next requests n = let it = length-take 1 (drop n requests) in omega (arith, it)

-- the state after the answered requests and the next one
after_both : (s : OfficeState) (requests : List Request) (n : ℕ) → after s (take (n + 1) requests) ≡ after s (take n requests ++ take 1 (drop n requests))
after_both s requests n = ap (after s) (take-add n 1 requests)

-- What an order that was carried out leaves, if the record hadn't failed before. The office is open in the state after what was answered, and so is the record. Or the
-- office is closed, and a stop leaves that state or the state after the next request. Or the record failed.
abbrev OrderLeaves : {S : Type 0} → (Held S → State) → Bool → Folder → OfficeState → ServedOrder → Cut → Page → RecordChange → Bool → State → Type 0
OrderLeaves state_of recorded folder s what cut page change closed st =
    ((sent : List Request) × (last : List Request) × PrintsAt state_of recorded folder s what cut page sent last × IsOpenAt (after s sent) closed st
    × (IsRecordOf change.old s → IsRecordOf change.new (after s sent)))
    ⊎ (((sent : List Request) × (last : List Request) × PrintsAt state_of recorded folder s what cut page sent last × (closed ≡ true)
    × LeavesState st (IsAfterSome s (sent ++ last) (length sent)) × (IsRecordOf change.old s → LeavesRecord change.new (IsAfterSome s (sent ++ last) (length sent))))
    ⊎ ((sent : List Request) × (last : List Request) × PrintsAt state_of recorded folder s what cut page sent last × (change.has_failed ≡ true) × (length last ≤ 1)
    × ((next : OfficeState) × IsAfterLast s sent last next × IsOpenAt next closed st) × (IsRecordOf change.old s → LeavesRecord change.new (IsAfterSome s (sent ++ last) (length sent)))))

module _ {S R : Type 0} (state_of : Held S → State) (found : R → Text → Type 0) (failed : R → Bool) (before later : R) (recorded : Bool) (folder : Folder) (s : OfficeState) where
  -- nothing was sent, and the office is open in the same state, or its store failed
  none_sent : (what : ServedOrder) (cut : Cut) (page : Page) (closed : Bool) (st : State) → PrintsAt state_of recorded folder s what cut page [] [] → IsReadAt s closed st → later ≡ before
      → OrderLeaves state_of recorded folder s what cut page (change_of found failed before later) closed st
  none_sent what cut page closed st tells (inl open_at) same = inl ([], [], tells, open_at, λ it. record_same found before later s same it)
  none_sent what cut page closed st tells (inr (is_closed, leaves)) same =
      inr (inl ([], [], tells, is_closed, leaves_as st _ _ (before_last s []) leaves, λ it. leaves_same found before later _ same (record_before (found before) s [] it)))

  -- what a stop leaves of the record, in terms of the requests that were answered, and the next one
  record_next : (course : Course) → course.answered ≤ length course.requests → (x : OfficeState) → IsAfterAnswered s course.requests course.answered x
      → IsAfterSome s (take course.answered course.requests ++ take 1 (drop course.answered course.requests)) (length (take course.answered course.requests)) x
  record_next course within x it = after_next s course x within (it.count, it.all_answered, it.one_more, it.within, it.is)

  -- a job was carried out
  job_leaves : (old new : OfficeValue S) (job : Job) (cut : Cut) (page : Page) (requests : List Request) (answered : ℕ)
      → IsDoneBy (failed later) (state_of old.held) new.closed (state_of new.held) folder s job (record { requests = requests; answered = answered; page = page; cut = cut })
      → IsRecorded s requests answered (found before) (found later) (failed later) → (failed later ≡ true → recorded ≡ true)
      → OrderLeaves state_of recorded folder s (asked.Do job) cut page (change_of found failed before later) new.closed (state_of new.held)
  job_leaves old new job cut page requests answered done record_kept fails = by new.closed refl (failed later) refl
    where
      course : Course
      course = record { requests = requests; answered = answered; page = page; cut = cut }

      kept : Kept s course (state_of new.held)
      kept = kept_done_by (failed later) (state_of old.held) new.closed (state_of new.held) folder s job course done

      tells : PrintsAt state_of recorded folder s (asked.Do job) cut page (take answered requests) (take 1 (drop answered requests))
      tells = (old, new, (requests, answered, (done_recorded (failed later) recorded fails (state_of old.held) new.closed (state_of new.held) folder s job course done, (refl, refl))))

      leaves : LeavesState (state_of new.held) (IsAfterSome s (take answered requests ++ take 1 (drop answered requests)) (length (take answered requests)))
      leaves = leaves_as (state_of new.held) _ _ (λ x some. after_next s course x kept.within some) kept.leaves

      record_leaves : IsRecordOf (found before) s → LeavesRecord (found later) (IsAfterSome s (take answered requests ++ take 1 (drop answered requests)) (length (take answered requests)))
      record_leaves it = record_as (found later) _ _ (record_next course kept.within) (record_kept.leaves it)

      open_at : new.closed ≡ false
          → IsOpenAt (after s (take answered requests)) new.closed (state_of new.held) ⊎ ((failed later ≡ true) × IsOpenAt (after s (take (answered + 1) requests)) new.closed (state_of new.held))
      open_at is_open = open_done_by (failed later) (state_of old.held) new.closed (state_of new.held) folder s job course done is_open

      next_open : IsOpenAt (after s (take answered requests)) new.closed (state_of new.held) ⊎
          ((failed later ≡ true) × IsOpenAt (after s (take (answered + 1) requests)) new.closed (state_of new.held))
          → (next : OfficeState) × IsAfterLast s (take answered requests) (take 1 (drop answered requests)) next × IsOpenAt next new.closed (state_of new.held)
      next_open (inl here) = (after s (take answered requests), inl refl, here)
      next_open (inr (failing, here)) = (after s (take (answered + 1) requests), inr (after_both s requests answered), here)

      answered_open : failed later ≡ false
          → IsOpenAt (after s (take answered requests)) new.closed (state_of new.held) ⊎ ((failed later ≡ true) × IsOpenAt (after s (take (answered + 1) requests)) new.closed (state_of new.held))
          → IsOpenAt (after s (take answered requests)) new.closed (state_of new.held)
      answered_open well (inl here) = here
      answered_open well (inr (failing, here)) = absurd (true≢false (sym failing ∙ well))

      by : (c : Bool) → new.closed ≡ c → (f : Bool) → failed later ≡ f
          → OrderLeaves state_of recorded folder s (asked.Do job) cut page (change_of found failed before later) new.closed (state_of new.held)
      by true closed f is = inr (inl (take answered requests, take 1 (drop answered requests), tells, closed, leaves, record_leaves))
      by false still false well =
          inl (take answered requests, take 1 (drop answered requests), tells, answered_open well (open_at still), record_kept.whole well)
      by false still true failing =
          inr (inr (take answered requests, take 1 (drop answered requests), tells, failing, few_next requests answered, next_open (open_at still), record_leaves))

  order_leaves : (old new : OfficeValue S) (what : ServedOrder) (cut : Cut) (page : Page) → failed before ≡ false → (failed later ≡ true → recorded ≡ true)
      → IsOrderOutcome (change_of found failed before later) (state_of old.held) new.closed (state_of new.held) folder s what cut page
      → OrderLeaves state_of recorded folder s what cut page (change_of found failed before later) new.closed (state_of new.held)
  order_leaves old new (asked.Do job) cut page unfailed fails (requests, answered, done, record_kept) =
      job_leaves old new job cut page requests answered done (record_kept unfailed) fails
  order_leaves old new (asked.Copy path) cut page unfailed fails it = none_sent (asked.Copy path) cut page new.closed (state_of new.held) (it.0, refl, refl) it.1 it.2
  order_leaves old new asked.Journal cut page unfailed fails it = none_sent asked.Journal cut page new.closed (state_of new.held) (it.0, refl, refl) it.1 it.2
  order_leaves old new (asked.Mend mending) cut page unfailed fails it = none_sent (asked.Mend mending) cut page new.closed (state_of new.held) (it.0, refl, refl) it.1 it.2
  order_leaves old new (asked.Second path) cut page unfailed fails it = none_sent (asked.Second path) cut page new.closed (state_of new.held) (it.0, refl, refl) it.1 it.2
  order_leaves old new asked.Record cut page unfailed fails it =
      none_sent asked.Record cut page new.closed (state_of new.held) ((failed before, it.0), refl, refl) (inl it.1) it.2
  order_leaves old new (asked.Publish publishing) cut page unfailed fails it = none_sent (asked.Publish publishing) cut page new.closed (state_of new.held) (it.0, refl, refl) it.1 it.2
  order_leaves old new (asked.Refused failure) cut page unfailed fails it = none_sent (asked.Refused failure) cut page new.closed (state_of new.held) (it.0, refl, refl) (inl it.1) it.2
  order_leaves old new (asked.Misread fault) cut page unfailed fails it = none_sent (asked.Misread fault) cut page new.closed (state_of new.held) (it.0, refl, refl) (inl it.1) it.2

  -- once the record has failed, no job is carried out, and nothing is sent
  order_still : (old new : OfficeValue S) (what : ServedOrder) (cut : Cut) (page : Page) → failed before ≡ true → AgreesWithRecord (failed before) what
      → IsOrderOutcome (change_of found failed before later) (state_of old.held) new.closed (state_of new.held) folder s what cut page
      → PrintsAt state_of recorded folder s what cut page [] [] × IsReadAt s new.closed (state_of new.held) × (later ≡ before)
  order_still old new (asked.Do job) cut page was agrees it = absurd (true≢false (sym was ∙ agrees))
  order_still old new (asked.Copy path) cut page was agrees it = ((it.0, refl, refl), it.1, it.2)
  order_still old new asked.Journal cut page was agrees it = ((it.0, refl, refl), it.1, it.2)
  order_still old new (asked.Mend mending) cut page was agrees it = ((it.0, refl, refl), it.1, it.2)
  order_still old new (asked.Second path) cut page was agrees it = ((it.0, refl, refl), it.1, it.2)
  order_still old new asked.Record cut page was agrees it = (((failed before, it.0), refl, refl), inl it.1, it.2)
  order_still old new (asked.Publish publishing) cut page was agrees it = ((it.0, refl, refl), it.1, it.2)
  order_still old new (asked.Refused failure) cut page was agrees it = ((it.0, refl, refl), inl it.1, it.2)
  order_still old new (asked.Misread fault) cut page was agrees it = ((it.0, refl, refl), inl it.1, it.2)

-- ---- one request after another

-- What a processed request leaves, if the record hadn't failed before. Its response, and the office, still open, with cached responses that are correct in its state,
-- and with a record of that state; or a fault closed the office; or the record failed.
abbrev TurnLeaves : {S R : Type 0} → Listener → ServedView S R → ServerSettingsEntry → OfficeState → Exchange → ServedOffice S R → ServedOffice S R → Type 0
TurnLeaves listener view settings s exchange old new =
    ((sent : List Request) × IsAnsweredAt listener view.state_of settings s exchange sent × AreReadAt (after s sent) new.kept.reads
    × IsOpenAt (after s sent) new.office.closed (view.state_of new.office.held)
    × (IsRecordOf (view.found old.kept.recorder) s → IsRecordOf (view.found new.kept.recorder) (after s sent)))
    ⊎ (((answered : List Request) × (last : List Request) × IsStoppedAt listener view.state_of settings s exchange answered last × (new.office.closed ≡ true)
    × LeavesState (view.state_of new.office.held) (IsAfterSome s (answered ++ last) (length answered))
    × (IsRecordOf (view.found old.kept.recorder) s → LeavesRecord (view.found new.kept.recorder) (IsAfterSome s (answered ++ last) (length answered))))
    ⊎ ((answered : List Request) × (last : List Request) × (settings.recorded ≡ true) × IsUnacknowledgedAt listener view.state_of settings s exchange answered last
    × (view.failed new.kept.recorder ≡ true) × (length last ≤ 1)
    × ((next : OfficeState) × IsAfterLast s answered last next × AreReadAt next new.kept.reads × IsOpenAt next new.office.closed (view.state_of new.office.held))
    × (IsRecordOf (view.found old.kept.recorder) s → LeavesRecord (view.found new.kept.recorder) (IsAfterSome s (answered ++ last) (length answered)))))

-- What it leaves once the record has failed: nothing was sent, and the record is unchanged.
abbrev TurnStill : {S R : Type 0} → Listener → ServedView S R → ServerSettingsEntry → OfficeState → Exchange → ServedOffice S R → ServedOffice S R → Type 0
TurnStill listener view settings s exchange old new =
    (new.kept.recorder ≡ old.kept.recorder)
    × ((IsAnsweredAt listener view.state_of settings s exchange [] × AreReadAt s new.kept.reads × IsOpenAt s new.office.closed (view.state_of new.office.held))
    ⊎ (IsStoppedAt listener view.state_of settings s exchange [] [] × (new.office.closed ≡ true) × LeavesState (view.state_of new.office.held) (λ x. x ≡ s)))

-- ---- cached reads

none_read : (s : OfficeState) (reads : List ReadEntry) → reads ≡ [] → AreReadAt s reads
none_read s reads none = subst (λ (rs : List ReadEntry). AreReadAt s rs) (sym none) (All-nil (λ (r : ReadEntry). IsRead s r.what r.answer))

-- nothing is sent to the office for a request that changes nothing
nothing_sent : (settings : HttpSettingsEntry) (s : OfficeState) (exchange : Exchange) (asked : HttpRequestEntry) (sent : List Request) → Asks settings exchange.got asked → ChangesNothing asked
    → EndsSo exchange (IsServed (TellsFor settings (Some exchange.got) s sent)) → sent ≡ []
nothing_sent settings s exchange asked sent asks still (served, it) = by it.ready
  where
    of : (other : HttpRequestEntry) → other ≡ asked → TellsAsked s other it.response sent → sent ≡ []
    of (reading what) is tells = tells.1
    of (denied why) is tells = tells.1
    of (shown clerk show) is tells = tells.1
    of (keying clerk batch entry) is tells = absurd (subst ChangesNothing (sym is) still)
    of (console show) is tells = tells.1
    of (public its what) is tells = tells.1
    of (order entry) is tells = absurd (subst ChangesNothing (sym is) still)

    by : TellsFor settings (Some exchange.got) s sent it.response → sent ≡ []
    by (inl (other, so, tells)) = of other (AsksOneThing-all settings exchange.got other asked so asks) tells
    by (inr (fault, none)) = none

-- and its last request is none
nothing_last : (settings : HttpSettingsEntry) (bytes : List ℕ) (asked : HttpRequestEntry) (last : List Request) → Asks settings bytes asked → ChangesNothing asked → IsLastFor settings bytes last
    → last ≡ []
nothing_last settings bytes asked last asks still (inl none) = none
nothing_last settings bytes asked last asks still (inr (clerk, batch, entry, request, so, handed, is)) =
    absurd (subst ChangesNothing (AsksOneThing-all settings bytes asked (keying clerk batch entry) asks so) still)

-- no request, so no state but the one before
none_taken : (n : ℕ) (rs : List Request) → rs ≡ [] → take n rs ≡ rs
none_taken zero [] is = refl
none_taken (suc n) [] is = refl
none_taken n (r ∷ rs) is = absurd (cc is)

after_none : (s x : OfficeState) → IsAfterSome s [] 0 x → x ≡ s
after_none s x (k, low, high, within, is) = is ∙ ap (after s) (none_taken k [] refl)

module _ {S R : Type 0} (settings : ServerSettingsEntry) (view : ServedView S R) where
  -- a client that must wait leaves everything unchanged
  stays_clean : (old new : ServedOffice S R) → new ≡ old → HasCleanDisk (view.state_of new.office.held) → HasCleanDisk (view.state_of old.office.held)
  stays_clean old new stays clean = subst (λ (d : ServedOffice S R). HasCleanDisk (view.state_of d.office.held)) stays clean

  -- a client that is turned away gets a response saying so, and everything is unchanged
  turned_back : (exchange : Exchange) (old new : ServedOffice S R) → IsRateLimited settings.clients old exchange new ⊎ IsWithoutFile settings old exchange new
      → IsRejected settings exchange × (new ≡ old)
  turned_back exchange old new (inl waits) = (inl waits.told, waits.stays)
  turned_back exchange old new (inr gone) = (inr (inl (gone.told, gone.unknown)), gone.stays)

  asked_clean : (exchange : Exchange) (old new : ServedOffice S R) → ServesAsked settings view old exchange new
      → HasCleanDisk (view.state_of new.office.held) → HasCleanDisk (view.state_of old.office.held)
  asked_clean exchange old new (inl (inl (free, it))) clean = it.clean clean
  asked_clean exchange old new (inl (inr (it, emptied))) clean = it.follows.tells.clean clean
  asked_clean exchange old new (inr (inl it, emptied)) clean = subst (λ (o : OfficeValue S). HasCleanDisk (view.state_of o.held)) it.stays clean
  asked_clean exchange old new (inr (inr it, emptied)) clean = it.clean clean

  -- a closed office accepts no keying
  closed_record : (exchange : Exchange) (old new : ServedOffice S R) → KeepsRecord settings.clients view old exchange new → old.office.closed ≡ true → new.kept.recorder ≡ old.kept.recorder
  closed_record exchange old new (inl (same, nothing)) closed = same
  closed_record exchange old new (inr sent) closed =
      subst (λ (o : Option Request). RecordsAccepted view old.kept.recorder new.kept.recorder o) (sent.none_closed closed) sent.recorded

  -- a client that is admitted finds the office closed
  asked_away : (exchange : Exchange) (old new : ServedOffice S R) → ServesAsked settings view old exchange new
      → old.office.closed ≡ true → GetsClosedResponse Clients settings exchange × (new.office ≡ old.office) × (new.kept.recorder ≡ old.kept.recorder)
  asked_away exchange old new (inl (inl (free, it))) closed =
      let (told, stays) = it.turned_away closed in (inl (inr (free, told)), stays, closed_record exchange old new it.record_kept closed)
  asked_away exchange old new (inl (inr (it, emptied))) closed =
      let had = it.follows.tells in
      let (page, stays, same) = had.turned_away closed in (
        inr (record {
          entry = it.entry;
          asks = it.asks;
          files = it.follows.files;
          asked = it.follows.asked;
          is = it.follows.is;
          cut = had.cut;
          told = subst (λ (p : Page). IsInResponse had.cut p exchange.answer) page had.told;
        }),
        stays,
        same,
      )
  asked_away exchange old new (inr (inl it, emptied)) closed = (inl (inl (inr (inr (it.told, it.recorded)))), it.stays, it.same)
  asked_away exchange old new (inr (inr it, emptied)) closed = absurd (true≢false (sym closed ∙ it.was_open))

  clean_at : (listener : Listener) (exchange : Exchange) (old new : ServedOffice S R) → ServesAt listener settings view old exchange new
      → HasCleanDisk (view.state_of new.office.held) → HasCleanDisk (view.state_of old.office.held)
  clean_at Clients exchange old new (inl it) clean = stays_clean old new (turned_back exchange old new it).1 clean
  clean_at Clients exchange old new (inr it) clean = asked_clean exchange old new it.serves clean
  clean_at Orders exchange old new it clean = it.0.tells.clean clean

  away_at : (listener : Listener) (exchange : Exchange) (old new : ServedOffice S R) → ServesAt listener settings view old exchange new
      → old.office.closed ≡ true → GetsClosedResponse listener settings exchange × (new.office ≡ old.office) × (new.kept.recorder ≡ old.kept.recorder)
  away_at Clients exchange old new (inl it) closed =
      let back = turned_back exchange old new it in
      (inl (inl back.0), ap (λ (d : ServedOffice S R). d.office) back.1, ap (λ (d : ServedOffice S R). d.kept.recorder) back.1)
  away_at Clients exchange old new (inr it) closed = asked_away exchange old new it.serves closed
  away_at Orders exchange old new (it, emptied, limit) closed =
      let (page, stays, same) = it.tells.turned_away closed in (
        record { files = it.files; asked = it.asked; is = it.is; cut = it.tells.cut; told = subst (λ (p : Page). IsFramed it.tells.cut p exchange.answer) page it.tells.told },
        stays,
        same,
      )

  -- what is cached after a client has been served is correct in the state that its request leaves
  kept_right : (s : OfficeState) (exchange : Exchange) (old new : ServedOffice S R) → ServesClient settings.clients view old exchange new
      → HasCleanDisk (view.state_of new.office.held) → old.office.closed ≡ false
      → IsAt s (view.state_of old.office.held) → AreReadAt s old.kept.reads → (sent : List Request) → EndsSo exchange (IsServed (TellsFor settings.clients (Some exchange.got) s sent))
      → AreReadAt (after s sent) new.kept.reads
  kept_right s exchange old new it clean is_open at right sent told = by it.keeps
    where
      by : KeepsReads settings.clients view.state_of old exchange.got new → AreReadAt (after s sent) new.kept.reads
      by (inl none) = none_read (after s sent) new.kept.reads none
      by (inr ((asked, asks, nothing), keeps)) =
          let still = keeps clean is_open s at right in
          subst (λ (rs : List Request). AreReadAt (after s rs) new.kept.reads) (sym (nothing_sent settings.clients s exchange asked sent asks nothing told)) still.0

  -- a client was served, and no keying was sent to the office
  still_leaves : (s : OfficeState) (exchange : Exchange) (old new : ServedOffice S R) → AsksNoOrder settings.clients exchange.got → ServesClient settings.clients view old exchange new
      → SendsNothing settings.clients old exchange new → HasCleanDisk (view.state_of new.office.held) → old.office.closed ≡ false
      → IsAt s (view.state_of old.office.held) → AreReadAt s old.kept.reads
      → (IsAnsweredAt Clients view.state_of settings s exchange [] × AreReadAt s new.kept.reads × IsOpenAt s new.office.closed (view.state_of new.office.held))
      ⊎ (IsStoppedAt Clients view.state_of settings s exchange [] [] × (new.office.closed ≡ true) × LeavesState (view.state_of new.office.held) (λ x. x ≡ s))
  still_leaves s exchange old new free it (inl (asked, asks, nothing)) clean is_open at right =
      elim (client_leaves settings.clients s exchange new.office.closed (view.state_of new.office.held) (it.serves clean is_open s at right)) [
        | inl (sent, told, open_at) ↦
            let none = nothing_sent settings.clients s exchange asked sent asks nothing told in
            let told_none = subst (λ (rs : List Request). EndsSo exchange (IsServed (TellsFor settings.clients (Some exchange.got) s rs))) none told in
            inl (
              inl (inr (free, told_none)),
              kept_right s exchange old new it clean is_open at right [] told_none,
              subst (λ (rs : List Request). IsOpenAt (after s rs) new.office.closed (view.state_of new.office.held)) none open_at,
            )
        | inr (last, ends, is_last, (is_closed, leaves)) ↦
            let none = nothing_last settings.clients exchange.got asked last asks nothing is_last in
            inr (
              inl (record { no_order = free; told = ends; none = refl; is_last = inl refl }),
              is_closed,
              leaves_as (view.state_of new.office.held) _ _ (after_none s)
                  (subst (λ (rs : List Request). LeavesState (view.state_of new.office.held) (IsAfterSome s rs 0)) none leaves),
            )
      ]
  still_leaves s exchange old new free it (inr ((served, told), stays)) clean is_open at right =
      let told_none : EndsSo exchange (IsServed (TellsFor settings.clients (Some exchange.got) s [])) =
      (served, record { response = told.response; ready = inr (told.ready, refl); put = told.put }) in
      inl (
        inl (inr (free, told_none)),
        kept_right s exchange old new it clean is_open at right [] told_none,
        subst (λ (o : OfficeValue S). IsOpenAt s o.closed (view.state_of o.held)) (sym stays) (record { is_open = is_open; at = at }),
      )

  -- a clerk's keying was sent to the office, which accepted no request
  unaccepted_leaves : (s : OfficeState) (exchange : Exchange) (old new : ServedOffice S R) → AsksNoOrder settings.clients exchange.got → ServesClient settings.clients view old exchange new
      → (clerk batch : ℕ) (entry : KeyingEntry) → Asks settings.clients exchange.got (keying clerk batch entry)
      → EndsSo exchange (IsServed (λ response. AcceptsKeying s clerk batch entry response None new.office.closed (view.state_of new.office.held))) → new.kept.recorder ≡ old.kept.recorder
      → HasCleanDisk (view.state_of new.office.held) → old.office.closed ≡ false → IsAt s (view.state_of old.office.held) → AreReadAt s old.kept.reads
      → TurnLeaves Clients view settings s exchange old new
  unaccepted_leaves s exchange old new free it clerk batch entry asks (served, told) same clean is_open at right = by told.ready
    where
      recorder : IsRecordOf (view.found old.kept.recorder) s → IsRecordOf (view.found new.kept.recorder) s
      recorder was = record_same view.found old.kept.recorder new.kept.recorder s same was

      by : AcceptsKeying s clerk batch entry told.response None new.office.closed (view.state_of new.office.held) → TurnLeaves Clients view settings s exchange old new
      by (request, handed, inl (unaccepted, tells, open_at)) =
          let stays : after s (request ∷ []) ≡ s = unaccepted-same s (step_of s request) unaccepted in
          let ends : EndsSo exchange (IsServed (TellsFor settings.clients (Some exchange.got) s (request ∷ []))) =
          (served, record { response = told.response; ready = inl (keying clerk batch entry, asks, (request, handed, tells, refl)); put = told.put }) in
          inl (
            request ∷ [],
            inl (inr (free, ends)),
            kept_right s exchange old new it clean is_open at right (request ∷ []) ends,
            subst (λ (x : OfficeState). IsOpenAt x new.office.closed (view.state_of new.office.held)) (sym stays) open_at,
            λ was. record_at (view.found new.kept.recorder) s (after s (request ∷ [])) (sym stays) (recorder was),
          )
      by (request, handed, inr (fault, tells, inl kept)) =
          let ends : EndsSo exchange (IsServed (TellsFor settings.clients (Some exchange.got) s [])) =
          (served, record { response = told.response; ready = inr (tells_memory fault told.response kept.memory tells, refl); put = told.put }) in
          inl ([], inl (inr (free, ends)), kept_right s exchange old new it clean is_open at right [] ends, kept.open_at, recorder)
      by (request, handed, inr (fault, tells, inr shut)) =
          let last = request ∷ [] in
          inr (inl (
            [],
            last,
            inl (record {
              no_order = free;
              told = (served, record { response = told.response; ready = tells_fault fault told.response shut.fault tells; put = told.put });
              none = refl;
              is_last = inr (clerk, batch, entry, request, asks, handed, refl);
            }),
            shut.is_closed,
            leaves_as (view.state_of new.office.held) _ _ (λ x. elim [
              | inl before ↦ before_last s last x before
              | inr next ↦ (1, omega arith, omega arith, omega arith, next)
            ]) shut.leaves,
            λ was. record_before (view.found new.kept.recorder) s last (recorder was),
          ))

  -- a clerk's keying was sent to the office, and a request was accepted and recorded
  accepted_leaves : (s : OfficeState) (exchange : Exchange) (old new : ServedOffice S R) → AsksNoOrder settings.clients exchange.got → ServesClient settings.clients view old exchange new
      → (clerk batch : ℕ) (entry : KeyingEntry) (request : Request) → Asks settings.clients exchange.got (keying clerk batch entry)
      → EndsSo exchange (IsServed (λ response. AcceptsKeying s clerk batch entry response (Some request) new.office.closed (view.state_of new.office.held)))
      → view.failed new.kept.recorder ≡ false → Records request (view.found old.kept.recorder) (view.found new.kept.recorder) (view.failed new.kept.recorder)
      → HasCleanDisk (view.state_of new.office.held) → old.office.closed ≡ false → IsAt s (view.state_of old.office.held) → AreReadAt s old.kept.reads
      → TurnLeaves Clients view settings s exchange old new
  accepted_leaves s exchange old new free it clerk batch entry request asks (served, told) well records clean is_open at right =
      let (handed, accepted, tells, open_at) = told.ready in
      let ends : EndsSo exchange (IsServed (TellsFor settings.clients (Some exchange.got) s (request ∷ []))) =
      (served, record { response = told.response; ready = inl (keying clerk batch entry, asks, (request, handed, tells, refl)); put = told.put }) in
      inl (
        request ∷ [],
        inl (inr (free, ends)),
        kept_right s exchange old new it clean is_open at right (request ∷ []) ends,
        open_at,
        λ was. records.whole well s accepted was,
      )

  -- a client that sends no order was served
  served_leaves : (s : OfficeState) (exchange : Exchange) (old new : ServedOffice S R) → AsksNoOrder settings.clients exchange.got → ServesClient settings.clients view old exchange new
      → HasCleanDisk (view.state_of new.office.held) → old.office.closed ≡ false
      → IsAt s (view.state_of old.office.held) → AreReadAt s old.kept.reads → TurnLeaves Clients view settings s exchange old new
  served_leaves s exchange old new free it clean is_open at right = by it.record_kept
    where
      none : new.kept.recorder ≡ old.kept.recorder
          → (IsAnsweredAt Clients view.state_of settings s exchange [] × AreReadAt s new.kept.reads × IsOpenAt s new.office.closed (view.state_of new.office.held))
          ⊎ (IsStoppedAt Clients view.state_of settings s exchange [] [] × (new.office.closed ≡ true) × LeavesState (view.state_of new.office.held) (λ x. x ≡ s))
          → TurnLeaves Clients view settings s exchange old new
      none same (inl (told, kept, open_at)) = inl ([], told, kept, open_at, λ was. record_same view.found old.kept.recorder new.kept.recorder s same was)
      none same (inr (stopped, is_closed, leaves)) = inr (inl (
        [],
        [],
        stopped,
        is_closed,
        leaves_as (view.state_of new.office.held) _ _ (before_last s []) leaves,
        λ was. record_before (view.found new.kept.recorder) s [] (record_same view.found old.kept.recorder new.kept.recorder s same was),
      ))

      sent_as : (sent : IsKeyingSent settings.clients view old exchange new) (accepted : Option Request) → sent.accepted ≡ accepted → TurnLeaves Clients view settings s exchange old new
      sent_as sent None is =
          unaccepted_leaves s exchange old new free it sent.clerk sent.batch sent.entry sent.asks
          (subst (λ (o : Option Request). EndsSo exchange (IsServed (λ response. AcceptsKeying s sent.clerk sent.batch sent.entry response o new.office.closed (view.state_of new.office.held)))) is
          (sent.answered clean is_open s at))
          (subst (λ (o : Option Request). RecordsAccepted view old.kept.recorder new.kept.recorder o) is sent.recorded) clean is_open at right
      sent_as sent (Some request) is =
          let recorded = subst (λ (o : Option Request). RecordsAccepted view old.kept.recorder new.kept.recorder o) is sent.recorded in
          accepted_leaves s exchange old new free it sent.clerk sent.batch sent.entry request sent.asks
          (subst (λ (o : Option Request). EndsSo exchange (IsServed (λ response. AcceptsKeying s sent.clerk sent.batch sent.entry response o new.office.closed (view.state_of new.office.held)))) is
          (sent.answered clean is_open s at))
          recorded.0 recorded.1 clean is_open at right

      by : KeepsRecord settings.clients view old exchange new → TurnLeaves Clients view settings s exchange old new
      by (inl (same, nothing)) = none same (still_leaves s exchange old new free it nothing clean is_open at right)
      by (inr sent) = sent_as sent sent.accepted refl

  -- an order from the console, as its response says
  console_tells : (s : OfficeState) (exchange : Exchange) (old new : ServedOffice S R)
      → (it : FollowsConsole settings view.state_of (change_in view old.kept.recorder new.kept.recorder) old.office exchange.got exchange.answer new.office) (sent last : List Request)
      → PrintsAt view.state_of settings.recorded (folder_of it.follows.files) s it.follows.asked it.follows.tells.cut it.follows.tells.page sent last
      → ConsolePrints view.state_of settings s exchange.got exchange.answer sent last
  console_tells s exchange old new it sent last so = record {
    entry = it.entry;
    asks = it.asks;
    files = it.follows.files;
    asked = it.follows.asked;
    is = it.follows.is;
    cut = it.follows.tells.cut;
    page = it.follows.tells.page;
    told = it.follows.tells.told;
    tells = so;
  }

  -- such a client was served, or a client's order was carried out, or its keying wasn't recorded
  asked_leaves : (s : OfficeState) (exchange : Exchange) (old new : ServedOffice S R) → ServesAsked settings view old exchange new → view.failed old.kept.recorder ≡ false
      → HasCleanDisk (view.state_of new.office.held) → old.office.closed ≡ false
      → IsAt s (view.state_of old.office.held) → AreReadAt s old.kept.reads → TurnLeaves Clients view settings s exchange old new
  asked_leaves s exchange old new (inl (inl (free, it))) unfailed clean is_open at right = served_leaves s exchange old new free it clean is_open at right
  asked_leaves s exchange old new (inl (inr (it, emptied))) unfailed clean is_open at right =
      by (order_leaves view.state_of view.found view.failed old.kept.recorder new.kept.recorder settings.recorded (folder_of it.follows.files) s old.office new.office it.follows.asked
      it.follows.tells.cut it.follows.tells.page unfailed (it.follows.fails unfailed) (it.follows.tells.does clean is_open s at))
    where
      by : OrderLeaves view.state_of settings.recorded (folder_of it.follows.files) s it.follows.asked it.follows.tells.cut it.follows.tells.page
          (change_in view old.kept.recorder new.kept.recorder) new.office.closed (view.state_of new.office.held) → TurnLeaves Clients view settings s exchange old new
      by (inl (sent, last, so, open_at, recorded)) =
          inl (sent, inr (last, console_tells s exchange old new it sent last so), none_read (after s sent) new.kept.reads emptied, open_at, recorded)
      by (inr (inl (sent, last, so, is_closed, leaves, recorded))) =
          inr (inl (sent, last, inr (console_tells s exchange old new it sent last so), is_closed, leaves, recorded))
      by (inr (inr (sent, last, so, failing, few, (next, is_next, open_at), recorded))) = inr (inr (
        sent,
        last,
        it.follows.fails unfailed failing,
        inr (console_tells s exchange old new it sent last so),
        failing,
        few,
        (next, is_next, none_read next new.kept.reads emptied, open_at),
        recorded,
      ))
  asked_leaves s exchange old new (inr (inl it, emptied)) unfailed clean is_open at right = absurd (true≢false (sym it.failed ∙ unfailed))
  asked_leaves s exchange old new (inr (inr it, emptied)) unfailed clean is_open at right =
      let last = it.request ∷ [] in
      let (accepted, open_at) = it.accepted clean is_open s at in
      inr (inr (
        [],
        last,
        it.recorded,
        inl (record { clerk = it.clerk; batch = it.batch; entry = it.entry; request = it.request; asks = it.asks; handed = it.handed; told = it.told; none = refl; is_last = refl }),
        it.failed,
        omega arith,
        (after s last, inr refl, none_read (after s last) new.kept.reads emptied, open_at),
        λ was. record_as (view.found new.kept.recorder) _ _ (λ x. elim [
          | inl before ↦ before_last s last x before
          | inr next ↦ (1, omega arith, omega arith, omega arith, next)
        ]) (it.leaves.leaves s accepted was),
      ))

  turn_leaves : (listener : Listener) (s : OfficeState) (exchange : Exchange) (old new : ServedOffice S R) → ServesAt listener settings view old exchange new
      → view.failed old.kept.recorder ≡ false → HasCleanDisk (view.state_of new.office.held) → old.office.closed ≡ false
      → IsAt s (view.state_of old.office.held) → AreReadAt s old.kept.reads → TurnLeaves listener view settings s exchange old new
  turn_leaves Clients s exchange old new (inl it) unfailed clean is_open at right =
      let back = turned_back exchange old new it in
      subst (λ (d : ServedOffice S R). TurnLeaves Clients view settings s exchange old d) (sym back.1)
      (inl ([], inl (inl (back.0, refl)), right, record { is_open = is_open; at = at }, λ was. was))
  turn_leaves Clients s exchange old new (inr it) unfailed clean is_open at right = asked_leaves s exchange old new it.serves unfailed clean is_open at right
  turn_leaves Orders s exchange old new (it, emptied, limit) unfailed clean is_open at right =
      by (order_leaves view.state_of view.found view.failed old.kept.recorder new.kept.recorder settings.recorded (folder_of it.files) s old.office new.office it.asked it.tells.cut it.tells.page
      unfailed (it.fails unfailed) (it.tells.does clean is_open s at))
    where
      tells : (sent last : List Request) → PrintsAt view.state_of settings.recorded (folder_of it.files) s it.asked it.tells.cut it.tells.page sent last
          → OrderPrints view.state_of settings s exchange.got exchange.answer sent last
      tells sent last so = record { files = it.files; asked = it.asked; is = it.is; cut = it.tells.cut; page = it.tells.page; told = it.tells.told; tells = so }

      by : OrderLeaves view.state_of settings.recorded (folder_of it.files) s it.asked it.tells.cut it.tells.page
          (change_in view old.kept.recorder new.kept.recorder) new.office.closed (view.state_of new.office.held) → TurnLeaves Orders view settings s exchange old new
      by (inl (sent, last, so, open_at, recorded)) = inl (sent, (last, tells sent last so), none_read (after s sent) new.kept.reads emptied, open_at, recorded)
      by (inr (inl (sent, last, so, is_closed, leaves, recorded))) = inr (inl (sent, last, tells sent last so, is_closed, leaves, recorded))
      by (inr (inr (sent, last, so, failing, few, (next, is_next, open_at), recorded))) = inr (inr (
        sent,
        last,
        it.fails unfailed failing,
        tells sent last so,
        failing,
        few,
        (next, is_next, none_read next new.kept.reads emptied, open_at),
        recorded,
      ))

  -- an order was processed once the record had failed
  read_still : {X : Type 0} (s : OfficeState) (new : ServedOffice S R) (Told Stops : Type 0) → X → (X → Told) → (X → Stops) → new.kept.reads ≡ []
      → IsReadAt s new.office.closed (view.state_of new.office.held)
      → (Told × AreReadAt s new.kept.reads × IsOpenAt s new.office.closed (view.state_of new.office.held))
      ⊎ (Stops × (new.office.closed ≡ true) × LeavesState (view.state_of new.office.held) (λ x. x ≡ s))
  read_still s new Told Stops x told stops emptied (inl open_at) = inl (told x, none_read s new.kept.reads emptied, open_at)
  read_still s new Told Stops x told stops emptied (inr (is_closed, leaves)) = inr (stops x, is_closed, leaves)

  asked_still : (s : OfficeState) (exchange : Exchange) (old new : ServedOffice S R) → ServesAsked settings view old exchange new → view.failed old.kept.recorder ≡ true
      → HasCleanDisk (view.state_of new.office.held) → old.office.closed ≡ false
      → IsAt s (view.state_of old.office.held) → AreReadAt s old.kept.reads → TurnStill Clients view settings s exchange old new
  asked_still s exchange old new (inl (inl (free, it))) failed clean is_open at right = by it.record_kept
    where
      by : KeepsRecord settings.clients view old exchange new → TurnStill Clients view settings s exchange old new
      by (inl (same, nothing)) = (same, still_leaves s exchange old new free it nothing clean is_open at right)
      by (inr sent) = absurd (true≢false (sym failed ∙ sent.had_not_failed))
  asked_still s exchange old new (inl (inr (it, emptied))) failed clean is_open at right =
      let had = it.follows in
      let told = had.tells in
      let (so, reads, same) = order_still view.state_of view.found view.failed old.kept.recorder new.kept.recorder settings.recorded (folder_of had.files) s old.office new.office had.asked
      told.cut told.page failed had.agrees (told.does clean is_open s at) in (
        same,
        read_still s new (IsAnsweredAt Clients view.state_of settings s exchange []) (IsStoppedAt Clients view.state_of settings s exchange [] []) (console_tells s exchange old new it [] [] so)
            (λ prints. inr ([], prints)) (λ prints. inr prints) emptied reads,
      )
  asked_still s exchange old new (inr (inl it, emptied)) failed clean is_open at right = (
    it.same,
    inl (
      inl (inl (inr (inr (it.told, it.recorded)), refl)),
      none_read s new.kept.reads emptied,
      subst (λ (o : OfficeValue S). IsOpenAt s o.closed (view.state_of o.held)) (sym it.stays) (record { is_open = is_open; at = at }),
    ),
  )
  asked_still s exchange old new (inr (inr it, emptied)) failed clean is_open at right = absurd (true≢false (sym failed ∙ it.had_not_failed))

  turn_still : (listener : Listener) (s : OfficeState) (exchange : Exchange) (old new : ServedOffice S R) → ServesAt listener settings view old exchange new
      → view.failed old.kept.recorder ≡ true → HasCleanDisk (view.state_of new.office.held) → old.office.closed ≡ false
      → IsAt s (view.state_of old.office.held) → AreReadAt s old.kept.reads → TurnStill listener view settings s exchange old new
  turn_still Clients s exchange old new (inl it) failed clean is_open at right =
      let back = turned_back exchange old new it in
      subst (λ (d : ServedOffice S R). TurnStill Clients view settings s exchange old d) (sym back.1)
      (refl, inl (inl (inl (back.0, refl)), right, record { is_open = is_open; at = at }))
  turn_still Clients s exchange old new (inr it) failed clean is_open at right = asked_still s exchange old new it.serves failed clean is_open at right
  turn_still Orders s exchange old new (it, emptied, limit) failed clean is_open at right =
      let told = it.tells in
      let (so, reads, same) = order_still view.state_of view.found view.failed old.kept.recorder new.kept.recorder settings.recorded (folder_of it.files) s old.office new.office it.asked
      told.cut told.page failed it.agrees (told.does clean is_open s at) in
      let prints : OrderPrints view.state_of settings s exchange.got exchange.answer [] [] =
      record { files = it.files; asked = it.asked; is = it.is; cut = told.cut; page = told.page; told = told.told; tells = so } in (
        same,
        read_still s new (IsAnsweredAt Orders view.state_of settings s exchange []) (IsStoppedAt Orders view.state_of settings s exchange [] []) prints (λ p. ([], p)) (λ p. p) emptied reads,
      )

  pub cleans : (exchanges : List Exchange) (old new : ServedOffice S R) → FoldsTo (ServesExchange settings view) old exchanges new
      → HasCleanDisk (view.state_of new.office.held) → HasCleanDisk (view.state_of old.office.held)
  cleans [] old new same clean = subst (λ (o : ServedOffice S R). HasCleanDisk (view.state_of o.office.held)) (sym same) clean
  cleans (exchange ∷ exchanges) old new (mid, step, rest) clean = clean_at exchange.listener exchange old mid step (cleans exchanges mid new rest clean)

  pub turned_away : (exchanges : List Exchange) (old new : ServedOffice S R) → FoldsTo (ServesExchange settings view) old exchanges new
      → old.office.closed ≡ true → AreRefusedClosed settings exchanges × (new.office ≡ old.office) × (new.kept.recorder ≡ old.kept.recorder)
  turned_away [] old new same closed = (tt, sym (ap (λ (o : ServedOffice S R). o.office) same), sym (ap (λ (o : ServedOffice S R). o.kept.recorder) same))
  turned_away (exchange ∷ exchanges) old new (mid, step, rest) closed =
      let (away, stays, kept) = away_at exchange.listener exchange old mid step closed in
      let others = turned_away exchanges mid new rest (ap (λ (o : OfficeValue S). o.closed) stays ∙ closed) in
      ((away, others.0), others.1 ∙ stays, others.2 ∙ kept)

  -- ---- once the record has failed

  -- nothing is sent for exchanges that are processed once the record has failed
  record KeepsStill (s : OfficeState) (exchanges : List Exchange) (new : ServedOffice S R) (recorder : R) : Type 0 where
    pub in_turn : AnswersInTurn view.state_of settings s exchanges [] []
    pub open_at : new.office.closed ≡ false → IsOpenAt s new.office.closed (view.state_of new.office.held)
    pub leaves : LeavesState (view.state_of new.office.held) (λ x. x ≡ s)
    pub same : new.kept.recorder ≡ recorder

  keeps_still : (s : OfficeState) (exchanges : List Exchange) (old new : ServedOffice S R) → FoldsTo (ServesExchange settings view) old exchanges new
      → view.failed old.kept.recorder ≡ true → HasCleanDisk (view.state_of new.office.held) → old.office.closed ≡ false
      → IsAt s (view.state_of old.office.held) → AreReadAt s old.kept.reads → KeepsStill s exchanges new old.kept.recorder
  keeps_still s [] old new same failed clean is_open at right =
      subst (λ (o : ServedOffice S R). KeepsStill s [] o old.kept.recorder) same
      (record { in_turn = (refl, refl); open_at = λ was. record { is_open = was; at = at }; leaves = at.leaves; same = refl })
  keeps_still s (exchange ∷ exchanges) old new (mid, step, rest) failed clean is_open at right =
      let honest = cleans exchanges mid new rest clean in
      let (kept, turn) = turn_still exchange.listener s exchange old mid step failed honest is_open at right in
      elim turn [
        | inl (told, reads, open_at) ↦
            let others = keeps_still s exchanges mid new rest (ap view.failed kept ∙ failed) clean open_at.is_open open_at.at reads in
            record { in_turn = inl ([], [], told, refl, others.in_turn); open_at = others.open_at; leaves = others.leaves; same = others.same ∙ kept }
        | inr (stopped, is_closed, leaves) ↦
            let away = turned_away exchanges mid new rest is_closed in record {
              in_turn = inr (inl (stopped, away.0));
              open_at = λ was. absurd (true≢false (sym (ap (λ (o : OfficeValue S). o.closed) away.1 ∙ is_closed) ∙ was));
              leaves = subst (λ (o : OfficeValue S). LeavesState (view.state_of o.held) (λ x. x ≡ s)) (sym away.1) leaves;
              same = away.2 ∙ kept;
            }
      ]

  -- ---- all exchanges

  -- what is kept of exchanges that are processed from a given state on
  record KeepsAll (s : OfficeState) (exchanges : List Exchange) (recorder : R) (new : ServedOffice S R) : Type 0 where
    pub answered : List Request
    pub last : List Request
    pub in_turn : AnswersInTurn view.state_of settings s exchanges answered last
    pub open_at : new.office.closed ≡ false → IsOpenIn settings.recorded (after s answered) (after s (answered ++ last)) new.office.closed (view.state_of new.office.held)
    pub leaves : LeavesState (view.state_of new.office.held) (IsAfterSome s (answered ++ last) (length answered))
    pub recorded : IsRecordOf (view.found recorder) s → LeavesRecord (view.found new.kept.recorder) (IsAfterSome s (answered ++ last) (length answered))
    pub whole : view.failed new.kept.recorder ≡ false → new.office.closed ≡ false → IsRecordOf (view.found recorder) s → IsRecordOf (view.found new.kept.recorder) (after s answered)

  -- the office is open in the state after what was answered, or after the last request too
  open_first : (recorded : Bool) (s next : OfficeState) (closed : Bool) (st : State) → IsOpenAt s closed st → IsOpenIn recorded s next closed st
  open_first false s next closed st it = it
  open_first true s next closed st it = inl it

  open_next : (recorded : Bool) (s : OfficeState) (answered last : List Request) (next : OfficeState) (closed : Bool) (st : State) → recorded ≡ true → IsAfterLast s answered last next
      → IsOpenAt next closed st → IsOpenIn recorded (after s answered) (after s (answered ++ last)) closed st
  open_next false s answered last next closed st is is_next it = absurd (true≢false (sym is))
  open_next true s answered last next closed st is (inl first) it = inl (subst (λ (x : OfficeState). IsOpenAt x closed st) first it)
  open_next true s answered last next closed st is (inr second) it = inr (subst (λ (x : OfficeState). IsOpenAt x closed st) second it)

  open_same : (recorded : Bool) (s t next next_too : OfficeState) (closed : Bool) (st : State) → s ≡ t → next ≡ next_too → IsOpenIn recorded s next closed st → IsOpenIn recorded t next_too closed st
  open_same recorded s t next next_too closed st same same_too it =
      subst (λ (x : OfficeState). IsOpenIn recorded x next_too closed st) same (subst (λ (x : OfficeState). IsOpenIn recorded s x closed st) same_too it)

  behind : (s : OfficeState) (sent rest : List Request) (n : ℕ) (x : OfficeState) → IsAfterSome (after s sent) rest n x → IsAfterSome s (sent ++ rest) (length sent + n) x
  behind s [] rest n x it = (it.0, omega (arith, it.1), omega (arith, it.2), it.3, it.4)
  behind s (r ∷ sent) rest n x it =
      let more = behind (after_one s r) sent rest n x it in
      (suc more.0, omega (arith, more.1), omega (arith, more.2), omega (arith, more.3), more.4)

  behind_all : (s : OfficeState) (sent answered last : List Request) (x : OfficeState) → IsAfterSome (after s sent) (answered ++ last) (length answered) x
      → IsAfterSome s ((sent ++ answered) ++ last) (length (sent ++ answered)) x
  behind_all s sent answered last x it =
      subst (λ rs. IsAfterSome s rs (length (sent ++ answered)) x) (sym (append_assoc sent answered last))
      (subst (λ n. IsAfterSome s (sent ++ (answered ++ last)) n x) (sym (length-append sent answered)) (behind s sent (answered ++ last) (length answered) x it))

  -- the state that is next is one of those after some requests
  some_next : (s : OfficeState) (answered last : List Request) (next x : OfficeState) → length last ≤ 1 → IsAfterLast s answered last next → x ≡ next
      → IsAfterSome s (answered ++ last) (length answered) x
  some_next s answered last next x few (inl first) is =
      let long = length-append answered last in
      (length answered, omega arith, omega arith, omega (arith, long), is ∙ first ∙ ap (after s) (sym (take-append_seam answered last)))
  some_next s answered last next x few (inr second) is =
      let long = length-append answered last in (
        length (answered ++ last),
        omega (arith, long),
        omega (arith, long, few),
        omega arith,
        is ∙ second ∙ ap (after s) (sym (take-length (answered ++ last))),
      )

  -- one exchange was answered, and the others follow
  goes_on : (s : OfficeState) (sent : List Request) (exchange : Exchange) (exchanges : List Exchange) (before mid : R) (new : ServedOffice S R)
      → (IsRecordOf (view.found before) s → IsRecordOf (view.found mid) (after s sent)) → (others : KeepsAll (after s sent) exchanges mid new)
      → AnswersInTurn view.state_of settings s (exchange ∷ exchanges) (sent ++ others.answered) others.last → KeepsAll s (exchange ∷ exchanges) before new
  goes_on s sent exchange exchanges before mid new recorded others in_turn = record {
    answered = sent ++ others.answered;
    last = others.last;
    in_turn = in_turn;
    open_at = λ was.
        open_same settings.recorded (after (after s sent) others.answered) (after s (sent ++ others.answered)) (after (after s sent) (others.answered ++ others.last))
        (after s ((sent ++ others.answered) ++ others.last)) new.office.closed (view.state_of new.office.held) (sym (fold-append after_one s sent others.answered))
        (sym (fold-append after_one s sent (others.answered ++ others.last)) ∙ ap (after s) (sym (append_assoc sent others.answered others.last))) (others.open_at was);
    leaves = leaves_as (view.state_of new.office.held) _ _ (behind_all s sent others.answered others.last) others.leaves;
    recorded = λ was. record_as (view.found new.kept.recorder) _ _ (behind_all s sent others.answered others.last) (others.recorded (recorded was));
    whole = λ well still was.
        record_at (view.found new.kept.recorder) (after (after s sent) others.answered) (after s (sent ++ others.answered)) (sym (fold-append after_one s sent others.answered))
        (others.whole well still (recorded was));
  }

  -- the record has failed since then
  went_unrecorded : (s : OfficeState) (exchange : Exchange) (exchanges : List Exchange) (answered last : List Request) (next : OfficeState) (before mid : R) (new : ServedOffice S R)
      → settings.recorded ≡ true → IsUnacknowledgedAt exchange.listener view.state_of settings s exchange answered last → view.failed mid ≡ true → length last ≤ 1 → IsAfterLast s answered last next
      → (IsRecordOf (view.found before) s → LeavesRecord (view.found mid) (IsAfterSome s (answered ++ last) (length answered))) → KeepsStill next exchanges new mid
      → KeepsAll s (exchange ∷ exchanges) before new
  went_unrecorded s exchange exchanges answered last next before mid new is stopped failing few is_next recorded still = record {
    answered = answered;
    last = last;
    in_turn = inr (inr (is, stopped, (next, is_next, still.in_turn)));
    open_at = λ was. open_next settings.recorded s answered last next new.office.closed (view.state_of new.office.held) is is_next (still.open_at was);
    leaves = leaves_as (view.state_of new.office.held) _ _ (λ x. some_next s answered last next x few is_next) still.leaves;
    recorded = λ was. leaves_same view.found mid new.kept.recorder _ still.same (recorded was);
    whole = λ well still_open was. absurd (true≢false (sym (ap view.failed still.same ∙ failing) ∙ well));
  }

  -- the first exchange, and then the others
  keeps_first : (s : OfficeState) (exchange : Exchange) (exchanges : List Exchange) (old mid new : ServedOffice S R) → ServesExchange settings view old exchange mid
      → FoldsTo (ServesExchange settings view) mid exchanges new
      → HasCleanDisk (view.state_of new.office.held) → old.office.closed ≡ false
      → IsAt s (view.state_of old.office.held) → AreReadAt s old.kept.reads → (f : Bool) → view.failed old.kept.recorder ≡ f
      → ((next : OfficeState) → IsOpenAt next mid.office.closed (view.state_of mid.office.held) → AreReadAt next mid.kept.reads → KeepsAll next exchanges mid.kept.recorder new)
      → KeepsAll s (exchange ∷ exchanges) old.kept.recorder new
  keeps_first s exchange exchanges old mid new step rest clean is_open at right true failed others =
      let still = keeps_still s (exchange ∷ exchanges) old new (mid, step, rest) failed clean is_open at right in record {
        answered = [];
        last = [];
        in_turn = still.in_turn;
        open_at = λ was. open_first settings.recorded s s new.office.closed (view.state_of new.office.held) (still.open_at was);
        leaves = leaves_as (view.state_of new.office.held) _ _ (before_last s []) still.leaves;
        recorded = λ was. record_before (view.found new.kept.recorder) s [] (record_same view.found old.kept.recorder new.kept.recorder s still.same was);
        whole = λ well still_open was. absurd (true≢false (sym (ap view.failed still.same ∙ failed) ∙ well));
      }
  keeps_first s exchange exchanges old mid new step rest clean is_open at right false unfailed others =
      by (turn_leaves exchange.listener s exchange old mid step unfailed (cleans exchanges mid new rest clean) is_open at right)
    where
      by : TurnLeaves exchange.listener view settings s exchange old mid → KeepsAll s (exchange ∷ exchanges) old.kept.recorder new
      by (inl (sent, told, kept, open_at, recorded)) =
          let more = others (after s sent) open_at kept in
          goes_on s sent exchange exchanges old.kept.recorder mid.kept.recorder new recorded more (inl (sent, more.answered, told, refl, more.in_turn))
      by (inr (inl (answered, last, stopped, is_closed, leaves, recorded))) =
          let away = turned_away exchanges mid new rest is_closed in record {
            answered = answered;
            last = last;
            in_turn = inr (inl (stopped, away.0));
            open_at = λ was. absurd (true≢false (sym (ap (λ (o : OfficeValue S). o.closed) away.1 ∙ is_closed) ∙ was));
            leaves = subst (λ (o : OfficeValue S). LeavesState (view.state_of o.held) (IsAfterSome s (answered ++ last) (length answered))) (sym away.1) leaves;
            recorded = λ was. leaves_same view.found mid.kept.recorder new.kept.recorder _ away.2 (recorded was);
            whole = λ well still was. absurd (true≢false (sym (ap (λ (o : OfficeValue S). o.closed) away.1 ∙ is_closed) ∙ still));
          }
      by (inr (inr (answered, last, is, stopped, failing, few, (next, is_next, kept, open_at), recorded))) =
          went_unrecorded s exchange exchanges answered last next old.kept.recorder mid.kept.recorder new is stopped failing few is_next recorded
          (keeps_still next exchanges mid new rest failing clean open_at.is_open open_at.at kept)

  keeps : (s : OfficeState) (exchanges : List Exchange) (old new : ServedOffice S R) → FoldsTo (ServesExchange settings view) old exchanges new
      → HasCleanDisk (view.state_of new.office.held) → old.office.closed ≡ false
      → IsAt s (view.state_of old.office.held) → AreReadAt s old.kept.reads → KeepsAll s exchanges old.kept.recorder new
  keeps s [] old new same clean is_open at right =
      subst (λ (o : ServedOffice S R). KeepsAll s [] old.kept.recorder o) same (record {
        answered = [];
        last = [];
        in_turn = (refl, refl);
        open_at = λ was. open_first settings.recorded s s old.office.closed (view.state_of old.office.held) (record { is_open = was; at = at });
        leaves = leaves_as (view.state_of old.office.held) _ _ (before_last s []) at.leaves;
        recorded = λ was. record_before (view.found old.kept.recorder) s [] was;
        whole = λ well still was. was;
      })
  keeps s (exchange ∷ exchanges) old new (mid, step, rest) clean is_open at right =
      keeps_first s exchange exchanges old mid new step rest clean is_open at right (view.failed old.kept.recorder) refl
      (λ next open_at kept. keeps next exchanges mid new rest clean open_at.is_open open_at.at kept)

  -- the same after earlier requests, with an empty cache, in the office and in its record
  pub record KeepsBoth (earlier : List Request) (exchanges : List Exchange) (recorder : R) (new : ServedOffice S R) : Type 0 where
    pub kept : KeepsExchanges view.state_of settings earlier exchanges new.office.closed (view.state_of new.office.held)
    pub recorded : KeepsInRecord (change_in view recorder new.kept.recorder) new.office.closed earlier kept.answered kept.last

  pub kept_of : (earlier : List Request) (exchanges : List Exchange) (old : OfficeValue S) (recorder : R) (new : ServedOffice S R)
      → FoldsTo (ServesExchange settings view) (with_none_kept old recorder) exchanges new
      → HasCleanDisk (view.state_of new.office.held) → old.closed ≡ false → IsAt (after empty_office earlier) (view.state_of old.held)
      → KeepsBoth earlier exchanges recorder new
  kept_of earlier exchanges old recorder new each clean is_open at =
      let it = keeps (after empty_office earlier) exchanges (with_none_kept old recorder) new each clean is_open at (none_read (after empty_office earlier) [] refl) in
      record {
        kept = record {
          answered = it.answered;
          last = it.last;
          in_turn = it.in_turn;
          open_at = λ was.
              open_same settings.recorded (after (after empty_office earlier) it.answered) (after empty_office (earlier ++ it.answered))
              (after (after empty_office earlier) (it.answered ++ it.last)) (after empty_office (earlier ++ (it.answered ++ it.last))) new.office.closed (view.state_of new.office.held)
              (sym (fold-append after_one empty_office earlier it.answered)) (sym (fold-append after_one empty_office earlier (it.answered ++ it.last))) (it.open_at was);
          keeps = leaves_as (view.state_of new.office.held) _ _
              (λ x some. beginning earlier (it.answered ++ it.last) (length it.answered) some.0 some.1 some.2 some.3 x some.4) it.leaves;
        };
        recorded = record {
          leaves = λ was.
              record_as (view.found new.kept.recorder) _ _ (λ x some. beginning earlier (it.answered ++ it.last) (length it.answered) some.0 some.1 some.2 some.3 x some.4) (it.recorded was);
          whole = λ well still was.
              record_at (view.found new.kept.recorder) (after (after empty_office earlier) it.answered) (after empty_office (earlier ++ it.answered))
              (sym (fold-append after_one empty_office earlier it.answered)) (it.whole well still was);
        };
      }
