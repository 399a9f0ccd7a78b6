-- How a client is serviced, step by step.
use Rattle.std.specs.Io.KnownBytes.{IsAtEnd}
use Rattle.std.proofs.Common.{◌≡◌, ◌≤◌, ◌∙◌, ◌∷◌, ◌++◌, ℕ, Bool, List, [], false, true, None, Option, Some, ap, inl, inr, is_some, length, map, option_map, refl, subst, sym, true≢false}
use Rattle.std.specs.Prelude.{Err, IfSome, Ok, Result, not}
use Rattle.streams.specs.declared.streams.Broken.{Broken as Failure}
use Rattle.connections.specs.Closing.{EndsFor}
use Rattle.connections.specs.Traces.{IsServiceOutcome, IsMomentOf}
use Rattle.connections.specs.Tables.{NetworkEntry, with_failure, with_moment}
use Rattle.connections.specs.declared.removed.CloseReason.{CloseReason}
use Rattle.connections.specs.declared.removed.CloseReason.TheVariants.{Broken, Closing, Done, Evicted, TimedOut, Unreadable}
use Rattle.server.specs.declared.servicing.Serviced.{Serviced}
use Rattle.server.specs.declared.servicing.Serviced.TheVariants.{Leaves, Served, Waits}
use Rattle.wire.specs.Responses.{ResponseEntry, fault_response, waits_response}
use Rattle.wire.specs.Serving.{IsServed}
use Rattle.wire.specs.Told.{IsWritten}
use Rattle.wire.specs.declared.serving.Served.{Served as Ending}
use Rattle.connections.specs.Streams.{Delivers, Receives, HasFailed, Stream}
use Rattle.connections.specs.Clients.{IsReceived, IsOf, IsServedSo, IsSent}
use Rattle.connections.specs.declared.client.PendingResponse.{PendingResponse}
use Rattle.connections.specs.declared.client.Client.{Client}
use Rattle.wire.specs.Gates.{HttpSettingsEntry}
use Rattle.wire.specs.Completeness.{IsCompletenessOf}
use Rattle.wire.specs.Parsing.{IsParsed}
use Rattle.wire.specs.declared.completeness.Completeness.{Completeness}
use Rattle.wire.specs.declared.completeness.Completeness.TheVariants.{Complete}
use Rattle.wire.specs.declared.parsed.Parsed.{Parsed}
use Rattle.connections.proofs.StreamLemmas.{heard_more, told_more, told_none}
use Rattle.server.specs.RecordChanges.{ServedView}
use Rattle.server.specs.Settings.{ServerSettingsEntry}
use Rattle.server.specs.Servicing.{Services, HasComeAt, HasResponded, HasExchanges, IsAtGate, IsCompleteFor, FailsOnlyAsLost}
use Rattle.server.specs.Servicing.{LooksAtGate, MayHaveResponded, WasServiced, answer_of, moment_of, response_at}
use Rattle.server.specs.Reads.{ServedOffice}
use Rattle.server.specs.Endings.{EndsIn}
use Rattle.server.specs.Exchanges.{IsGoneResponse, IsUnrecordedResponse, IsWaitResponse, ServesExchange, Exchange}

pub none_from : {X : Type 0} (found : Option X) → is_some found ≡ false → found ≡ None
none_from None is = refl
none_from (Some x) is = absurd (cc is)

-- the response is unchanged, but more of it may have been sent
pub same_answer : (old new : PendingResponse) (before : Option PendingResponse) → before ≡ Some old → new.bytes.items ≡ old.bytes.items
    → option_map (λ (a : PendingResponse). a.bytes.items) (Some new) ≡ option_map (λ (a : PendingResponse). a.bytes.items) before
same_answer old new before is same = ap Some same ∙ sym (ap (option_map (λ (a : PendingResponse). a.bytes.items)) is)

-- a request that lacks no bytes is complete
pub come_whole : (its : HttpSettingsEntry) (held : Option (List ℕ)) (got : List ℕ) (parsed : Parsed) (lacking : Completeness) (n : ℕ) → n ≡ length got → lacking ≡ Complete
    → ((settings : HttpSettingsEntry) (bytes : List ℕ) → length bytes ≡ n → IsParsed settings bytes parsed → IsCompletenessOf settings bytes lacking)
    → IsParsed its got parsed → IsCompleteFor its held got parsed
come_whole its held got parsed lacking n long nothing completeness_of is = (inl (subst (λ (l : Completeness). IsCompletenessOf its got l) nothing (completeness_of its got (sym long) is)), is)

-- so is the request of a client that sends nothing more
pub come_ended : (its : HttpSettingsEntry) (held : Option (List ℕ)) (got : List ℕ) (parsed : Parsed) → IsAtEnd held → IsParsed its got parsed → IsCompleteFor its held got parsed
come_ended its held got parsed ended is = (inr ended, is)

-- the parsed head remains correct as more bytes are received
pub parsed_on : {L : Type 0} (stream : Stream L) (its : HttpSettingsEntry) (parsed : Parsed) (old new : L) (before after : List ℕ) → Receives stream old new before after
    → ((more : List ℕ) → IsParsed its (before ++ more) parsed) → IsParsed its after parsed
parsed_on stream its parsed old new before after receives lasts = subst (λ (xs : List ℕ). IsParsed its xs parsed) (sym receives.is) (lasts receives.more)

-- the parsed head remains correct once there are as many bytes as a head may have
pub lasts_for : (its : HttpSettingsEntry) (seen got : List ℕ) (parsed : Parsed) → seen ≡ got → (8192 ≤ length seen → (more : List ℕ) → IsParsed its (seen ++ more) parsed) → 8192 ≤ length got
    → (more : List ℕ) → IsParsed its (got ++ more) parsed
lasts_for its seen got parsed same lasts full =
    subst (λ (xs : List ℕ). (more : List ℕ) → IsParsed its (xs ++ more) parsed) same (lasts (subst (λ (xs : List ℕ). 8192 ≤ length xs) (sym same) full))

-- neither of two clients has a response
pub no_answer : {L : Type 0} (old new : Client L) → old.answer ≡ None → new.answer ≡ None → answer_of new ≡ answer_of old
no_answer old new none still = ap (option_map (λ (a : PendingResponse). a.bytes.items)) (still ∙ sym none)

-- a response was sent, from the first byte on, according to the contract of the call that sent it
pub told_first : (response : ResponseEntry) (answer before after : List ℕ) (served : Ending) → before ≡ [] → answer ≡ after → IsServed (IsWritten response) (Some before) (Some after) served
    → EndsIn answer (IsServed (IsWritten response))
told_first response answer before after served is_before is_answer it = (
  served,
  subst (λ (a : List ℕ). IsServed (IsWritten response) (Some []) (Some a) served) (sym is_answer)
      (subst (λ (b : List ℕ). IsServed (IsWritten response) (Some b) (Some after) served) is_before it),
)

pub told_waiting : (exchange : Exchange) (before after : List ℕ) (served : Ending) → before ≡ [] → exchange.answer ≡ after
    → IsServed (IsWritten waits_response) (Some before) (Some after) served → IsWaitResponse exchange
told_waiting exchange before after served is_before is_answer it = told_first waits_response exchange.answer before after served is_before is_answer it

pub told_gone : (exchange : Exchange) (before after : List ℕ) (served : Ending) → before ≡ [] → exchange.answer ≡ after
    → IsServed (IsWritten (fault_response 113)) (Some before) (Some after) served → IsGoneResponse exchange
told_gone exchange before after served is_before is_answer it = told_first (fault_response 113) exchange.answer before after served is_before is_answer it

pub told_unrecorded : (exchange : Exchange) (before after : List ℕ) (served : Ending) → before ≡ [] → exchange.answer ≡ after
    → IsServed (IsWritten (fault_response 112)) (Some before) (Some after) served → IsUnrecordedResponse exchange
told_unrecorded exchange before after served is_before is_answer it = told_first (fault_response 112) exchange.answer before after served is_before is_answer it

-- if a file isn't whole, it isn't known to be whole
pub known_gone : (whole : Option Bool) (is_whole : Bool) → IfSome whole (λ (known : Bool). is_whole ≡ known) → is_whole ≡ false → whole ≡ Some true → ⊥
known_gone whole is_whole it gone known = let same : is_whole ≡ true = subst (λ (w : Option Bool). IfSome w (λ (k : Bool). is_whole ≡ k)) known it in true≢false (sym same ∙ gone)

pub untrue : (b : Bool) → not b ≡ true → b ≡ false
untrue true is = sym is
untrue false is = refl

-- a connection is closed for one reason
pub left_as : (was why : CloseReason) → Leaves was ≡ Leaves why → was ≡ why
left_as was why is = cc is

module _ {L : Type 0} (stream : Stream L) where
  -- bytes were received from a connection that has no response, and nothing was sent to it
  pub is_heard : (start : L) (client : Client L) → client.answer ≡ None → IsOf stream start client → IsReceived stream start client.stream client.got.items
  is_heard start client none of = subst (λ (a : Option PendingResponse). IsServedSo stream start client.stream client.got.items a) none of

  pub of_heard : (start : L) (client : Client L) → client.answer ≡ None → IsReceived stream start client.stream client.got.items → IsOf stream start client
  of_heard start client none received = subst (λ (a : Option PendingResponse). IsServedSo stream start client.stream client.got.items a) (sym none) received

  -- more of the connection's request was received
  pub heard_on : (start : L) (old new : Client L) → old.answer ≡ None → Receives stream old.stream new.stream old.got.items new.got.items → IsOf stream start old
      → IsReceived stream start new.stream new.got.items
  heard_on start old new none receives of = heard_more stream start old.stream new.stream old.got.items new.got.items (is_heard start old none of) receives

  -- more of the connection's response was sent
  pub told_on : (start old now : L) (got : List ℕ) (before : Option PendingResponse) (answer told : PendingResponse) → before ≡ Some answer
      → Delivers stream old now answer.bytes.items answer.sent told.sent
      → told.bytes.items ≡ answer.bytes.items → IsServedSo stream start old got before → IsServedSo stream start now got (Some told)
  told_on start old now got before answer told is delivers same of =
      let belongs = subst (λ (a : Option PendingResponse). IsServedSo stream start old got a) is of in
      subst (λ (bytes : List ℕ). IsSent stream now bytes told.sent) (sym same) (told_more stream old now answer.bytes.items answer.sent told.sent belongs delivers)

  -- the connection now has a response, none of which has been sent
  pub told_nothing : (start now : L) (got answer : List ℕ) (sent : ℕ) → sent ≡ 0 → IsReceived stream start now got → IsSent stream now answer sent
  told_nothing start now got answer sent none received = subst (λ (n : ℕ). IsSent stream now answer n) (sym none) (told_none stream start now got answer received)

  -- the connection's request, which is complete, is processed
  pub has_turn : {S R : Type 0} (settings : ServerSettingsEntry) (view : ServedView S R) (now : ℕ) (old mid new : Client L) (before later : ServedOffice S R) → old.answer ≡ None
      → Receives stream old.stream mid.stream old.got.items mid.got.items → mid.listener ≡ old.listener → mid.number ≡ old.number
      → HasComeAt old.listener settings (stream.held mid.stream) mid.got.items
      → (exchange : Exchange) × (exchange.listener ≡ mid.listener) × (exchange.number ≡ mid.number) × (exchange.moment ≡ now) × (exchange.got ≡ mid.got.items)
      × ServesExchange settings view before exchange later × (answer_of new ≡ Some exchange.answer)
      → HasResponded settings stream view now old new before later
  has_turn settings view now old mid new before later none receives listener number come (exchange, same, mine, at, got, served, belongs) = record {
    exchange = exchange;
    listener = same ∙ listener;
    number = mine ∙ number;
    moment = at;
    unanswered = none;
    received = mid.stream;
    own = subst (λ (bytes : List ℕ). Receives stream old.stream mid.stream old.got.items bytes) (sym got) receives;
    come = subst (λ (bytes : List ℕ). HasComeAt old.listener settings (stream.held mid.stream) bytes) (sym got) come;
    served = served;
    belongs = belongs;
  }

  -- the outcome for a connection whose request was processed, and for one whose request wasn't
  pub attends_turn : {S R : Type 0} (settings : ServerSettingsEntry) (view : ServedView S R) (now : ℕ) (serviced : Serviced) (old new : Client L) (before later : ServedOffice S R)
      → (serviced ≡ Waits → ⊥)
      → HasResponded settings stream view now old new before later → Services settings stream view now serviced old new before later
  attends_turn settings view now Waits old new before later apart turn = absurd (apart refl)
  attends_turn settings view now Served old new before later apart turn = turn
  attends_turn settings view now (Leaves why) old new before later apart turn = inl turn

  pub attends_none : {S R : Type 0} (settings : ServerSettingsEntry) (view : ServedView S R) (now : ℕ) (serviced : Serviced) (old new : Client L) (before later : ServedOffice S R)
      → (serviced ≡ Served → ⊥)
      → later ≡ before → answer_of new ≡ answer_of old → Services settings stream view now serviced old new before later
  attends_none settings view now Waits old new before later apart same answer = (same, answer)
  attends_none settings view now Served old new before later apart same answer = absurd (apart refl)
  attends_none settings view now (Leaves why) old new before later apart same answer = inr (same, answer)

  -- a connection that can't be read is closed as broken or unreadable
  pub ends_lost : {A : Type 0} (result : Result A CloseReason) (why : CloseReason) (client : Client L) → result ≡ Err why → FailsOnlyAsLost result
      → (result ≡ Err Broken → HasFailed (stream.failed client.stream)) → client.answer ≡ None
      → EndsFor stream why client
  ends_lost result Done client is lost broken none = absurd (lost.0 is)
  ends_lost result Broken client is lost broken none = broken is
  ends_lost result Unreadable client is lost broken none = none
  ends_lost result TimedOut client is lost broken none = absurd (lost.1 is)
  ends_lost result Evicted client is lost broken none = absurd (lost.2 is)
  ends_lost result Closing client is lost broken none = absurd (lost.3 is)

  -- the exchanges of a connection, given its outcome
  pub has_some : {S R : Type 0} (settings : ServerSettingsEntry) (view : ServedView S R) (now : ℕ) (old new : Client L) (before later : ServedOffice S R)
      → MayHaveResponded settings stream view now old new before later
      → (exchanges : List Exchange) × HasExchanges settings stream view now exchanges old new before later
  has_some settings view now old new before later (inl turn) = (turn.exchange ∷ [], (turn, refl))
  has_some settings view now old new before later (inr still) = ([], still)

  -- ---- the clock at the gate

  abbrev Comes : {S R : Type 0} → ServerSettingsEntry → ServedView S R → ℕ → Result (Option CloseReason) Failure → NetworkEntry L → NetworkEntry L
      → Client L → Client L → ServedOffice S R → ServedOffice S R → Type 0
  Comes settings view now result before later old new at behind =
      (exchanges : List Exchange) × HasExchanges settings stream view now exchanges old new at behind × IsServiceOutcome stream (map response_at exchanges) old new result before later

  -- the connection's request was processed, and its half minute starts again
  pub went_served : {S R : Type 0} (settings : ServerSettingsEntry) (view : ServedView S R) (now : ℕ) (serviced : Serviced) (old mid new : Client L)
      (at behind : ServedOffice S R) (before later : NetworkEntry L)
      → Services settings stream view now serviced old mid at behind → serviced ≡ Served → answer_of new ≡ answer_of mid → later ≡ with_moment before new.since
      → Comes settings view now (Ok None) before later old new at behind
  went_served settings view now serviced old mid new at behind before later attends is same shown =
      let turn : HasResponded settings stream view now old mid at behind = subst (λ (a : Serviced). Services settings stream view now a old mid at behind) is attends in
      let belongs : HasResponded settings stream view now old new at behind = record {
        exchange = turn.exchange;
        listener = turn.listener;
        number = turn.number;
        moment = turn.moment;
        unanswered = turn.unanswered;
        received = turn.received;
        own = turn.own;
        come = turn.come;
        served = turn.served;
        belongs = same ∙ turn.belongs;
      } in
      (turn.exchange ∷ [], (belongs, refl), inr ((response_at turn.exchange, refl), shown))

  -- the connection's request was processed, and then the clock failed
  pub went_stopped : {S R : Type 0} (settings : ServerSettingsEntry) (view : ServedView S R) (now : ℕ) (serviced : Serviced) (broken : Failure)
      (old new : Client L) (at behind : ServedOffice S R) (before later : NetworkEntry L)
      → Services settings stream view now serviced old new at behind → serviced ≡ Served → new.since ≡ old.since → later ≡ with_failure before
      → Comes settings view now (Err broken) before later old new at behind
  went_stopped settings view now serviced broken old new at behind before later attends is since failed =
      let turn : HasResponded settings stream view now old new at behind = subst (λ (a : Serviced). Services settings stream view now a old new at behind) is attends in
      (turn.exchange ∷ [], (turn, refl), (since, failed))

  -- the connection waits, and its request wasn't processed
  pub went_waits : {S R : Type 0} (settings : ServerSettingsEntry) (view : ServedView S R) (now : ℕ) (serviced : Serviced) (old new : Client L) (at behind : ServedOffice S R) (before : NetworkEntry L)
      → Services settings stream view now serviced old new at behind → serviced ≡ Waits → new.since ≡ old.since → Comes settings view now (Ok None) before before old new at behind
  went_waits settings view now serviced old new at behind before attends is since =
      ([], subst (λ (a : Serviced). Services settings stream view now a old new at behind) is attends, inl (refl, since, refl))

  -- the connection is closed, whether or not its request was processed
  pub went_away : {S R : Type 0} (settings : ServerSettingsEntry) (view : ServedView S R) (now : ℕ) (serviced : Serviced) (why : CloseReason)
      (old new : Client L) (at behind : ServedOffice S R) (before : NetworkEntry L)
      → Services settings stream view now serviced old new at behind → serviced ≡ Leaves why → new.since ≡ old.since → EndsFor stream why new
      → Comes settings view now (Ok (Some why)) before before old new at behind
  went_away settings view now serviced why old new at behind before attends is since ends =
      let (exchanges, had) = has_some settings view now old new at behind (subst (λ (a : Serviced). Services settings stream view now a old new at behind) is attends) in
      (exchanges, had, (since, ends, refl))

  -- the time of the exchanges that a connection had
  at_moment : {S R : Type 0} (settings : ServerSettingsEntry) (view : ServedView S R) (gated : Bool) (gate : Option ℕ) (exchanges : List Exchange)
      (old new : Client L) (at behind : ServedOffice S R) → ((moment : ℕ) → moment ≡ moment_of gate → IsMomentOf gated gate moment)
      → HasExchanges settings stream view (moment_of gate) exchanges old new at behind → IsAtGate gated gate exchanges
  at_moment settings view gated gate [] old new at behind is had = tt
  at_moment settings view gated gate (exchange ∷ []) old new at behind is (turn, one) = is exchange.moment (sym (ap (λ (v : Exchange). v.moment) one) ∙ turn.moment)
  at_moment settings view gated gate (exchange ∷ other ∷ more) old new at behind is never = absurd never

  pub went_at : {S R : Type 0} (gated : Bool) (settings : ServerSettingsEntry) (view : ServedView S R) (now : ℕ) (result : Result (Option CloseReason) Failure)
      (before ready later : NetworkEntry L) (old new : Client L) (at behind : ServedOffice S R)
      → LooksAtGate gated (Ok now) before ready → Comes settings view now result ready later old new at behind → WasServiced gated settings stream view result before later old new at behind
  went_at true settings view now result before ready later old new at behind looked (exchanges, had, comes) = record {
    gate = Some now;
    exchanges = exchanges;
    had = had;
    at_gate = at_moment settings view true (Some now) exchanges old new at behind (λ moment is. is) had;
    comes = subst (λ (d : NetworkEntry L). IsServiceOutcome stream (map response_at exchanges) old new result d later) looked comes;
  }
  went_at {S} false settings view now result before ready later old new at behind (none, still) comes =
      let zero : now ≡ 0 = cc none in
      let (exchanges, had, came) = subst (λ (n : ℕ). Comes settings view n result ready later old new at behind) zero comes in record {
        gate = None;
        exchanges = exchanges;
        had = had;
        at_gate = at_moment settings view false None exchanges old new at behind (λ moment is. is) had;
        comes = subst (λ (d : NetworkEntry L). IsServiceOutcome stream (map response_at exchanges) old new result d later) still came;
      }

  -- the clock failed at the gate, so the connection wasn't serviced
  pub went_nowhere : {S R : Type 0} (gated : Bool) (settings : ServerSettingsEntry) (view : ServedView S R) (broken : Failure) (before later : NetworkEntry L)
      (client : Client L) (at : ServedOffice S R)
      → LooksAtGate gated (Err broken) before later → WasServiced gated settings stream view (Err broken) before later client client at at
  went_nowhere true settings view broken before later client at looked = record { gate = None; exchanges = []; had = (refl, refl); at_gate = tt; comes = (refl, looked) }
  went_nowhere false settings view broken before later client at (none, still) = absurd (cc none)
