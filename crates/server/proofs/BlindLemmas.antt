-- What a clerk sees determines what the clerk is sent.
use Rattle.std.proofs.Common.{◌≡◌, ◌∙◌, ◌⊎◌, ◌∷◌, ◌++◌, ◌==◌, ◌&&◌, Bool, Err, List, [], Ok, Some, None, Option, ap, cond, false, inl, inr, refl, string_bytes, subst, sym, true, ℕ}
use Rattle.std.proofs.lemmas.Bool.{both_ways, eq-eqb, eqb-true}
use Rattle.std.specs.Str.{bytes_eq}
use Rattle.sqlite.specs.Held.{Held}
use Rattle.sqlite.specs.State.{State}
use Rattle.register.specs.StateConditions.{IsState}
use Rattle.register.specs.Machine.{Ruling, accepts, after, answered, decided, keeps, outcome_at, part_of, refuses, ruling_at, state_after, step, step_of, subject_of}
use Rattle.register.specs.Offices.{OfficeState, ReceiptEntry, receipt_at}
use Rattle.register.specs.Ranges.{is_batch_number, is_clerk, is_id, is_office}
use Rattle.register.specs.Seen.{seen_by}
use Rattle.register.specs.Status.{BallotPaperEntry, WorkEntry}
use Rattle.register.specs.declared.command.Command.{Command}
use Rattle.register.specs.declared.command.Command.TheVariants as command
use Rattle.register.specs.declared.command.Request.{Request}
use Rattle.register.specs.declared.keyings.KeyingCommand.{KeyingCommand}
use Rattle.register.specs.declared.refusal.Reason.TheVariants.{BadId, IdUsed, NotItsClerk, NumberOutOfRange}
use Rattle.laws.specs.Blindness.{AlikeOfficesAnswerAlike, SeenIsAlike, SeenIsObserved, asked as observes, observed_of, ruling_on, seen_after}
use Rattle.store.specs.EarlierKeyings.{KeyedRoundEntry}
use Rattle.store.proofs.EarlierLemmas.{earlier_seen}
use Rattle.office.specs.Answers.{Told, told_of}
use Rattle.office.specs.Reads.{found_or}
use Rattle.connections.specs.declared.client.Listener.{Listener}
use Rattle.connections.specs.declared.client.Listener.TheVariants.{Clients, Orders}
use Rattle.wire.specs.Requests.{HttpRequestEntry, Asks, clerk_asked, console, denied, keying, order, public, reading, shown}
use Rattle.wire.specs.Bodies.{KeyingEntry}
use Rattle.wire.specs.Gates.{HttpSettingsEntry}
use Rattle.wire.specs.Responses.{ResponseEntry}
use Rattle.wire.specs.Serving.{IsHandedOn, IsPut, TellsAsked, TellsFor, earlier_response, paper_response, read_response, reading_response, told_response, work_response}
use Rattle.wire.specs.Told.{IsTold}
use Rattle.wire.specs.declared.request_error.RequestError.{RequestError}
use Rattle.wire.specs.declared.serving.Served.{Served}
use Rattle.wire.specs.declared.target.Resource.{Resource}
use Rattle.wire.specs.declared.target.Resource.TheVariants.{Candidates, Declaration, Keyed, Office, Sheet, Work}
use Rattle.wire.proofs.RequestLemmas.{AsksOneThing-all}
use Rattle.server.specs.Blind.{AnswersAsSeen, RespondsBySeen, IsAnsweredBySeen, IsStoppedBySeen, IsUnacknowledgedBySeen, IsUnder, IsUnrecordedBySeen}
use Rattle.server.specs.Settings.{ServerSettingsEntry}
use Rattle.server.specs.Exchanges.{AnswersInTurn, AsksNoOrder, IsAfterLast, IsAnsweredAt, IsClientAnsweredAt, IsKeyingUnacknowledged, IsStoppedAt, IsUnacknowledgedAt, IsUnrecordedResponse, Exchange}
use Rattle.server.proofs.ConsoleLemmas.{asks_no_order}

-- ---- requests under a clerk's number

-- such a request isn't an order
pub under_no_order : (settings : HttpSettingsEntry) (clerk : ℕ) (bytes : List ℕ) → IsUnder settings clerk bytes → AsksNoOrder settings bytes
under_no_order settings clerk bytes under entry asks =
    let one : under.asked ≡ order entry = AsksOneThing-all settings bytes under.asked (order entry) under.asks asks in
    let bad : None ≡ Some clerk = sym (ap clerk_asked one) ∙ under.its in
    absurd (cc bad)

-- ---- how a request changes a view

-- the reply in an outcome doesn't depend on the state that the outcome applies to
told_anywhere : (s t : OfficeState) (ruling : Ruling) → told_of (outcome_at s ruling) ≡ told_of (outcome_at t ruling)
told_anywhere s t (accepts change reply) = refl
told_anywhere s t (keeps reply) = refl
told_anywhere s t (refuses why) = refl

-- a keying that isn't from a clerk changes nothing
none_keyed : (s : OfficeState) (actor : ℕ) (id : List ℕ) (c : KeyingCommand) → is_clerk actor ≡ false → state_after s (step s actor id (command.Keying c)) ≡ s
unfolding step decided
none_keyed s actor id c no_clerk = go (is_id id) (receipt_at s actor id)
  where
    go : (b : Bool) (o : Option ReceiptEntry) → state_after s (outcome_at s (cond b (answered actor id (command.Keying c) o (part_of s actor (command.Keying c))) (refuses BadId))) ≡ s
    go false o = refl
    go true (Some r) = elim (bytes_eq r.subject (subject_of (command.Keying c))) as (λ b. state_after s (outcome_at s (cond b (keeps r.reply) (refuses IdUsed))) ≡ s) [ true ↦ refl | false ↦ refl ]
    go true None = rw no_clerk refl

-- the office isn't a clerk
no_clerk : (actor : ℕ) → is_office actor ≡ true → is_clerk actor ≡ false
no_clerk actor office = ap is_clerk (eqb-true actor 0 office)

-- a clerk isn't the office
no_office : (actor : ℕ) → is_clerk actor ≡ true → is_office actor ≡ false
no_office actor is = go (is_office actor) refl
  where
    go : (b : Bool) → is_office actor ≡ b → is_office actor ≡ false
    go false other = other
    go true office = absurd (both_ways (is_clerk actor) (no_clerk actor office) is)

-- numbers that are equal as options are equal
some_same : (n m : ℕ) → Some n ≡ Some m → n ≡ m
some_same n m is = ap of is
  where
    of : Option ℕ → ℕ
    of None = n
    of (Some k) = k

module _ (itself : SeenIsAlike) (alike : AlikeOfficesAnswerAlike) (seen : SeenIsObserved) (clerk : ℕ) (is : is_clerk clerk ≡ true) where
  good : is_office clerk ≡ false
  good = no_office clerk is

  -- the response to the clerk's own request
  told_seen : (s : OfficeState) (r : Request) → r.actor ≡ clerk → told_of (step_of s r) ≡ told_of (step_of (seen_by clerk s) r)
  unfolding step
  told_seen s r its =
      let view = seen_by clerk s in
      let same : ruling_on s r ≡ ruling_on view r =
      subst (λ (n : ℕ). ruling_at s n (string_bytes r.id) r.command ≡ ruling_at view n (string_bytes r.id) r.command) (sym its)
      ((alike clerk s view good (itself clerk s)).decided (string_bytes r.id) r.command) in
      told_anywhere s view (ruling_on s r) ∙ ap (λ (ruling : Ruling). told_of (outcome_at view ruling)) same

  -- the clerk's own request leads to the next view
  own_seen : (s : OfficeState) (r : Request) → IsState s → r.actor ≡ clerk → seen_by clerk (after s (r ∷ [])) ≡ after (seen_by clerk s) (r ∷ [])
  own_seen s r state its =
      seen clerk s (r ∷ []) good state
      ∙ ap (λ (b : Bool). seen_after clerk (seen_by clerk s) (cond b (observes r ∷ []) (cond (is_office r.actor) (observed_of (ruling_on s r)) []) ++ [])) (eq-eqb r.actor clerk its)

  -- another clerk's keying leaves the view unchanged
  other_seen : (s : OfficeState) (r : Request) (c : KeyingCommand) → IsState s → r.command ≡ command.Keying c → (r.actor == clerk) ≡ false → seen_by clerk (after s (r ∷ [])) ≡ seen_by clerk s
  other_seen s r c state keys other = go (is_office r.actor) refl
    where
      go : (b : Bool) → is_office r.actor ≡ b → seen_by clerk (after s (r ∷ [])) ≡ seen_by clerk s
      go true office =
          ap (λ (its : Command). seen_by clerk (state_after s (step s r.actor (string_bytes r.id) its))) keys
          ∙ ap (seen_by clerk) (none_keyed s r.actor (string_bytes r.id) c (no_clerk r.actor office))
      go false clerks =
          seen clerk s (r ∷ []) good state
          ∙ ap (λ (b : Bool). seen_after clerk (seen_by clerk s) (cond b (observes r ∷ []) (cond (is_office r.actor) (observed_of (ruling_on s r)) []) ++ [])) other
          ∙ ap (λ (b : Bool). seen_after clerk (seen_by clerk s) (cond b (observed_of (ruling_on s r)) [] ++ [])) clerks

  -- ---- what is read

  work_seen : (s : OfficeState) → reading_response s (Work clerk) ≡ reading_response (seen_by clerk s) (Work clerk)
  work_seen s =
      ap (λ (work : List WorkEntry). read_response (work_response clerk) (cond (is_clerk clerk) (Ok work) (Err NumberOutOfRange))) (alike clerk s (seen_by clerk s) good (itself clerk s)).work

  paper_seen : (s : OfficeState) (batch : ℕ) → reading_response s (Candidates clerk batch) ≡ reading_response (seen_by clerk s) (Candidates clerk batch)
  paper_seen s batch =
      ap (λ (paper : Option BallotPaperEntry). read_response (paper_response batch) (cond (is_clerk clerk && is_batch_number batch) (found_or NotItsClerk paper) (Err NumberOutOfRange)))
      ((alike clerk s (seen_by clerk s) good (itself clerk s)).paper batch)

  keyed_seen : (s : OfficeState) (batch : ℕ) → reading_response s (Keyed clerk batch) ≡ reading_response (seen_by clerk s) (Keyed clerk batch)
  keyed_seen s batch =
      ap (λ (keyed : Option (Option KeyedRoundEntry)). read_response (earlier_response batch) (cond (is_clerk clerk && is_batch_number batch) (found_or NotItsClerk keyed) (Err NumberOutOfRange)))
      (sym (earlier_seen s clerk batch))

  -- a clerk reads only what the clerk sees
  read_seen : (s : OfficeState) (what : Resource) → clerk_asked (reading what) ≡ Some clerk → reading_response s what ≡ reading_response (seen_by clerk s) what
  read_seen s (Work n) its =
      let same : n ≡ clerk = some_same n clerk its in
      subst (λ (m : ℕ). reading_response s (Work m) ≡ reading_response (seen_by clerk s) (Work m)) (sym same) (work_seen s)
  read_seen s (Candidates n batch) its =
      let same : n ≡ clerk = some_same n clerk its in
      subst (λ (m : ℕ). reading_response s (Candidates m batch) ≡ reading_response (seen_by clerk s) (Candidates m batch)) (sym same) (paper_seen s batch)
  read_seen s (Keyed n batch) its =
      let same : n ≡ clerk = some_same n clerk its in
      subst (λ (m : ℕ). reading_response s (Keyed m batch) ≡ reading_response (seen_by clerk s) (Keyed m batch)) (sym same) (keyed_seen s batch)
  read_seen s (Sheet ward) its = absurd (cc its)
  read_seen s (Declaration ward) its = absurd (cc its)
  read_seen s (Office read) its = absurd (cc its)

  -- ---- one exchange

  module _ {S : Type 0} (state_of : Held S → State) (settings : ServerSettingsEntry) where
    -- nothing was sent to the office
    nothing_sent : (s : OfficeState) (exchange : Exchange) (sent : List Request) → sent ≡ []
        → (IsUnder settings.clients clerk exchange.got → IsClientAnsweredAt settings (seen_by clerk s) exchange [])
        → ((why : RequestError) → Asks settings.clients exchange.got (denied why) → IsClientAnsweredAt settings (seen_by clerk s) exchange [])
        → IsAnsweredBySeen settings clerk (seen_by clerk s) exchange (seen_by clerk (after s sent))
    nothing_sent s exchange sent none answers denies =
        let same : seen_by clerk (after s sent) ≡ seen_by clerk s = ap (λ (rs : List Request). seen_by clerk (after s rs)) none in
        record { own = λ under. ([], answers under, same); denied = denies; other = λ not. same }

    -- a keying was sent to the office, the clerk's own or another's
    keying_seen : (s : OfficeState) (exchange : Exchange) (served : Served) (n batch : ℕ) (entry : KeyingEntry) (request : Request) → IsState s → AsksNoOrder settings.clients exchange.got
        → Asks settings.clients exchange.got (keying n batch entry)
        → IsHandedOn n batch entry request → (response : _) → IsTold (told_response (told_of (step_of s request))) response → IsPut (Some []) (Some exchange.answer) response served
        → IsAnsweredBySeen settings clerk (seen_by clerk s) exchange (seen_by clerk (after s (request ∷ [])))
    keying_seen s exchange served n batch entry request state free asks handed response told put = go (n == clerk) refl
      where
        none_denied : (why : RequestError) → Asks settings.clients exchange.got (denied why) → IsClientAnsweredAt settings (seen_by clerk s) exchange []
        none_denied why denies = let bad : keying n batch entry ≡ denied why = AsksOneThing-all settings.clients exchange.got (keying n batch entry) (denied why) asks denies in absurd (cc bad)

        go : (b : Bool) → (n == clerk) ≡ b → IsAnsweredBySeen settings clerk (seen_by clerk s) exchange (seen_by clerk (after s (request ∷ [])))
        go true same =
            let its : request.actor ≡ clerk = handed.actor ∙ eqb-true n clerk same in
            record {
              own = λ under. (
                request ∷ [],
                inr (
                  free,
                  (
                    served,
                    record {
                      response = response;
                      ready = inl (keying n batch entry, asks, (request, handed, subst (λ (t : Told). IsTold (told_response t) response) (told_seen s request its) told, refl));
                      put = put;
                    },
                  ),
                ),
                own_seen s request state its,
              );
              denied = none_denied;
              other = λ not. absurd (not (record { asked = keying n batch entry; asks = asks; its = ap Some (eqb-true n clerk same) }));
            }
        go false other =
            let apart : (request.actor == clerk) ≡ false = ap (λ (m : ℕ). m == clerk) handed.actor ∙ other in
            record {
              own = λ under.
                  let one = AsksOneThing-all settings.clients exchange.got (keying n batch entry) under.asked asks under.asks in
                  absurd (both_ways (n == clerk) other (eq-eqb n clerk (some_same n clerk (ap clerk_asked one ∙ under.its))));
              denied = none_denied;
              other = λ not. other_seen s request handed.handed state handed.command apart;
            }

    -- a client asked for something other than an order, and was answered
    asked_seen : (s : OfficeState) (exchange : Exchange) (sent : List Request) (served : Served) (asked : HttpRequestEntry) → IsState s → AsksNoOrder settings.clients exchange.got
        → Asks settings.clients exchange.got asked → (response : _)
        → TellsAsked s asked response sent → IsPut (Some []) (Some exchange.answer) response served
        → IsAnsweredBySeen settings clerk (seen_by clerk s) exchange (seen_by clerk (after s sent))
    asked_seen s exchange sent served (denied why) state free asks response tells put =
        let answers : IsClientAnsweredAt settings (seen_by clerk s) exchange [] =
        inr (free, (served, record { response = response; ready = inl (denied why, asks, (tells.0, refl)); put = put })) in
        nothing_sent s exchange sent tells.1 (λ under. answers) (λ other denies. answers)
    asked_seen s exchange sent served (shown n show) state free asks response tells put =
        let answers : IsClientAnsweredAt settings (seen_by clerk s) exchange [] =
        inr (free, (served, record { response = response; ready = inl (shown n show, asks, (tells.0, refl)); put = put })) in
        nothing_sent s exchange sent tells.1 (λ under. answers) (λ why denies. answers)
    asked_seen s exchange sent served (console show) state free asks response tells put =
        let answers : IsClientAnsweredAt settings (seen_by clerk s) exchange [] =
        inr (free, (served, record { response = response; ready = inl (console show, asks, (tells.0, refl)); put = put })) in
        nothing_sent s exchange sent tells.1 (λ under. answers) (λ why denies. answers)
    asked_seen s exchange sent served (order entry) state free asks response tells put = absurd (free entry asks)
    asked_seen s exchange sent served (public its what) state free asks response tells put = nothing_sent s exchange sent tells.1 answers denies
      where
        answers : IsUnder settings.clients clerk exchange.got → IsClientAnsweredAt settings (seen_by clerk s) exchange []
        answers under =
            let one = AsksOneThing-all settings.clients exchange.got (public its what) under.asked asks under.asks in
            let nobodys : None ≡ Some clerk = ap clerk_asked one ∙ under.its in
            absurd (cc nobodys)

        denies : (why : RequestError) → Asks settings.clients exchange.got (denied why) → IsClientAnsweredAt settings (seen_by clerk s) exchange []
        denies why so = let bad : public its what ≡ denied why = AsksOneThing-all settings.clients exchange.got (public its what) (denied why) asks so in absurd (cc bad)
    asked_seen s exchange sent served (reading what) state free asks response tells put = nothing_sent s exchange sent tells.1 answers denies
      where
        answers : IsUnder settings.clients clerk exchange.got → IsClientAnsweredAt settings (seen_by clerk s) exchange []
        answers under =
            let one = AsksOneThing-all settings.clients exchange.got (reading what) under.asked asks under.asks in
            let same = read_seen s what (ap clerk_asked one ∙ under.its) in
            inr (free, (served, record { response = response; ready = inl (reading what, asks, (subst (λ (e : ResponseEntry). IsTold e response) same tells.0, refl)); put = put }))

        denies : (why : RequestError) → Asks settings.clients exchange.got (denied why) → IsClientAnsweredAt settings (seen_by clerk s) exchange []
        denies why its = let bad : reading what ≡ denied why = AsksOneThing-all settings.clients exchange.got (reading what) (denied why) asks its in absurd (cc bad)
    asked_seen s exchange sent served (keying n batch entry) state free asks response (request, handed, told, is_sent) put =
        subst (λ (rs : List Request). IsAnsweredBySeen settings clerk (seen_by clerk s) exchange (seen_by clerk (after s rs))) (sym is_sent)
        (keying_seen s exchange served n batch entry request state free asks handed response told put)

    client_seen : (s : OfficeState) (exchange : Exchange) (sent : List Request) → IsState s → IsClientAnsweredAt settings s exchange sent
        → IsAnsweredBySeen settings clerk (seen_by clerk s) exchange (seen_by clerk (after s sent))
    client_seen s exchange sent state (inl (back, none)) = nothing_sent s exchange sent none (λ under. inl (back, refl)) (λ why denies. inl (back, refl))
    client_seen s exchange sent state (inr (free, (served, it))) = by it.ready
      where
        by : TellsFor settings.clients (Some exchange.got) s sent it.response → IsAnsweredBySeen settings clerk (seen_by clerk s) exchange (seen_by clerk (after s sent))
        by (inl (asked, asks, tells)) = asked_seen s exchange sent served asked state free asks it.response tells it.put
        by (inr (fault, none)) =
            let answers : IsClientAnsweredAt settings (seen_by clerk s) exchange [] =
            inr (free, (served, record { response = it.response; ready = inr (fault, refl); put = it.put })) in
            nothing_sent s exchange sent none (λ under. answers) (λ why denies. answers)

    turn_seen : (listener : Listener) (s : OfficeState) (exchange : Exchange) (sent : List Request) → IsState s → IsAnsweredAt listener state_of settings s exchange sent
        → RespondsBySeen listener state_of settings clerk (seen_by clerk s) exchange (seen_by clerk (after s sent))
    turn_seen Clients s exchange sent state (inl told) = inl (client_seen s exchange sent state told)
    turn_seen Clients s exchange sent state (inr (last, tells)) = inr (record { s = s; seen = refl; sent = sent; last = last; tells = tells; made = refl })
    turn_seen Orders s exchange sent state (last, tells) = record { s = s; seen = refl; sent = sent; last = last; tells = tells; made = refl }

    stop_seen : (listener : Listener) (s : OfficeState) (exchange : Exchange) (answered last : List Request) → IsStoppedAt listener state_of settings s exchange answered last
        → IsStoppedBySeen listener state_of settings clerk (seen_by clerk s) exchange
    stop_seen Clients s exchange answered last (inl it) = inl (it.no_order, it.told)
    stop_seen Clients s exchange answered last (inr it) =
        inr (seen_by clerk (after s answered), record { s = s; seen = refl; sent = answered; last = last; tells = it; made = refl })
    stop_seen Orders s exchange answered last it = (seen_by clerk (after s answered), record { s = s; seen = refl; sent = answered; last = last; tells = it; made = refl })

    -- ---- the record failed

    -- a keying wasn't acknowledged, but it was accepted
    keyed_unseen : (s : OfficeState) (exchange : Exchange) (next : OfficeState) (n batch : ℕ) (entry : KeyingEntry) (request : Request) → IsState s
        → Asks settings.clients exchange.got (keying n batch entry) → IsHandedOn n batch entry request → IsUnrecordedResponse exchange → next ≡ after s (request ∷ [])
        → IsUnrecordedBySeen settings clerk (seen_by clerk s) exchange (seen_by clerk next)
    keyed_unseen s exchange next n batch entry request state asks handed told is = go (n == clerk) refl
      where
        go : (b : Bool) → (n == clerk) ≡ b → IsUnrecordedBySeen settings clerk (seen_by clerk s) exchange (seen_by clerk next)
        go true same =
            let its : request.actor ≡ clerk = handed.actor ∙ eqb-true n clerk same in
            record {
              no_order = asks_no_order settings.clients exchange.got (keying n batch entry) asks refl;
              told = told;
              own = inr (request, its, ap (seen_by clerk) is ∙ own_seen s request state its);
              other = λ not. absurd (not (record { asked = keying n batch entry; asks = asks; its = ap Some (eqb-true n clerk same) }));
            }
        go false other =
            let apart : (request.actor == clerk) ≡ false = ap (λ (m : ℕ). m == clerk) handed.actor ∙ other in
            let stays = ap (seen_by clerk) is ∙ other_seen s request handed.handed state handed.command apart in
            record { no_order = asks_no_order settings.clients exchange.got (keying n batch entry) asks refl; told = told; own = inl stays; other = λ not. stays }

    client_unseen : (s : OfficeState) (exchange : Exchange) (answered last : List Request) (next : OfficeState) → IsState s → IsKeyingUnacknowledged settings exchange answered last
        → IsAfterLast s answered last next → IsUnrecordedBySeen settings clerk (seen_by clerk s) exchange (seen_by clerk next)
    client_unseen s exchange answered last next state it (inl is) =
        let stays = ap (seen_by clerk) (is ∙ ap (after s) it.none) in
        record { no_order = asks_no_order settings.clients exchange.got (keying it.clerk it.batch it.entry) it.asks refl; told = it.told; own = inl stays; other = λ not. stays }
    client_unseen s exchange answered last next state it (inr is) =
        keyed_unseen s exchange next it.clerk it.batch it.entry it.request state it.asks it.handed it.told
        (is ∙ ap (after s) (ap (λ (rs : List Request). rs ++ last) it.none ∙ it.is_last))

    made_seen : (s : OfficeState) (answered last : List Request) (next : OfficeState) → IsAfterLast s answered last next
        → (seen_by clerk next ≡ seen_by clerk (after s answered)) ⊎ (seen_by clerk next ≡ seen_by clerk (after s (answered ++ last)))
    made_seen s answered last next (inl is) = inl (ap (seen_by clerk) is)
    made_seen s answered last next (inr is) = inr (ap (seen_by clerk) is)

    unacknowledged_seen : (listener : Listener) (s : OfficeState) (exchange : Exchange) (answered last : List Request) (next : OfficeState) → IsState s
        → IsUnacknowledgedAt listener state_of settings s exchange answered last → IsAfterLast s answered last next
        → IsUnacknowledgedBySeen listener state_of settings clerk (seen_by clerk s) exchange (seen_by clerk next)
    unacknowledged_seen Clients s exchange answered last next state (inl it) is_next = inl (client_unseen s exchange answered last next state it is_next)
    unacknowledged_seen Clients s exchange answered last next state (inr it) is_next =
        inr (record { s = s; seen = refl; sent = answered; last = last; tells = it; made = made_seen s answered last next is_next })
    unacknowledged_seen Orders s exchange answered last next state it is_next =
        record { s = s; seen = refl; sent = answered; last = last; tells = it; made = made_seen s answered last next is_next }

    next_state : (states : (s : OfficeState) (rs : List Request) → IsState s → IsState (after s rs)) (s : OfficeState) (answered last : List Request) (next : OfficeState) → IsState s
        → IsAfterLast s answered last next → IsState next
    next_state states s answered last next state (inl is) = subst IsState (sym is) (states s answered state)
    next_state states s answered last next state (inr is) = subst IsState (sym is) (states s (answered ++ last) state)

    -- ---- one exchange after another

    pub all_seen : (states : (s : OfficeState) (rs : List Request) → IsState s → IsState (after s rs)) (s : OfficeState) (exchanges : List Exchange) (answered last : List Request) → IsState s
        → AnswersInTurn state_of settings s exchanges answered last → AnswersAsSeen state_of settings clerk (seen_by clerk s) exchanges
    all_seen states s [] answered last state it = tt
    all_seen states s (exchange ∷ exchanges) answered last state (inl (sent, others, told, is, rest)) =
        inl (seen_by clerk (after s sent), turn_seen exchange.listener s exchange sent state told, all_seen states (after s sent) exchanges others last (states s sent state) rest)
    all_seen states s (exchange ∷ exchanges) answered last state (inr (inl (stopped, away))) = inr (inl (stop_seen exchange.listener s exchange answered last stopped, away))
    all_seen states s (exchange ∷ exchanges) answered last state (inr (inr (is, unacknowledged, (next, is_next, rest)))) = inr (inr (
      is,
      (
        seen_by clerk next,
        unacknowledged_seen exchange.listener s exchange answered last next state unacknowledged is_next,
        all_seen states next exchanges [] [] (next_state states s answered last next state is_next) rest,
      ),
    ))
