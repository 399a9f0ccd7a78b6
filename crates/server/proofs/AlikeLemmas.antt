-- Two services that look alike to a clerk send the clerk the same responses.
use Rattle.std.proofs.Common.{◌≡◌, ◌∙◌, ◌⊎◌, ◌∷◌, List, [], Some, ap, inl, inr, map, refl, subst, sym, ℕ}
use Rattle.std.specs.Prelude.{⊤}
use Rattle.sqlite.specs.Held.{Held}
use Rattle.sqlite.specs.State.{State}
use Rattle.register.specs.Machine.{Outcome, after, state_after, step_of}
use Rattle.register.specs.Offices.{OfficeState}
use Rattle.register.specs.declared.command.Request.{Request}
use Rattle.office.specs.Answers.{told_of}
use Rattle.connections.specs.declared.client.Listener.{Listener}
use Rattle.connections.specs.declared.client.Listener.TheVariants.{Clients}
use Rattle.wire.specs.Requests.{HttpRequestEntry, Asks, console, denied, keying, order, public, reading, shown}
use Rattle.wire.specs.Responses.{ResponseEntry, denied_response, shown_response}
use Rattle.wire.specs.Serving.{IsServed, TellsAsked, TellsFault, TellsFor, public_response, reading_response, told_response}
use Rattle.wire.specs.Told.{IsTold}
use Rattle.wire.specs.declared.request_error.RequestError.TheVariants.{NotFound}
use Rattle.wire.proofs.RequestLemmas.{AsksOneThing-all}
use Rattle.wire.proofs.OutcomeLemmas.{IsOutcome-handed}
use Rattle.server.specs.Blind.{AnswersAsSeen, AreAnsweredAlike, AreClients, AreOwn, RespondsBySeen, IsAnsweredBySeen, IsStoppedBySeen, IsUnacknowledgedBySeen, IsUnanswered, IsUnrecordedBySeen}
use Rattle.server.specs.Settings.{ServerSettingsEntry}
use Rattle.server.specs.Exchanges.{AreRefusedClosed, AsksNoOrder, EndsSo, IsClientAnsweredAt, GetsClosedResponse, Exchange}

-- ---- the first element of a list, and the rest

heads : (x y : List ℕ) (xs ys : List (List ℕ)) → x ∷ xs ≡ y ∷ ys → x ≡ y
heads x y xs ys is = ap of is
  where
    of : List (List ℕ) → List ℕ
    of [] = x
    of (z ∷ zs) = z

tails : (x y : List ℕ) (xs ys : List (List ℕ)) → x ∷ xs ≡ y ∷ ys → xs ≡ ys
tails x y xs ys is = ap of is
  where
    of : List (List ℕ) → List (List ℕ)
    of [] = xs
    of (z ∷ zs) = zs

module _ (settings : ServerSettingsEntry) where
  -- ---- a client in a given view, and another client with the same request in that view

  none_sent : (view : OfficeState) (sent sent_too : List Request) → sent ≡ [] → sent_too ≡ [] → after view sent_too ≡ after view sent
  none_sent view sent sent_too none none_too = ap (after view) (none_too ∙ sym none)

  asked_alike : (view : OfficeState) (asked : HttpRequestEntry) (sent sent_too : List Request) (response response_too : _)
      → TellsAsked view asked response sent → TellsAsked view asked response_too sent_too
      → (answer : ResponseEntry) × IsTold answer response × IsTold answer response_too × (after view sent_too ≡ after view sent)
  asked_alike view (denied why) sent sent_too response response_too one two =
      (denied_response why, one.0, two.0, none_sent view sent sent_too one.1 two.1)
  asked_alike view (shown clerk show) sent sent_too response response_too one two =
      (shown_response show, one.0, two.0, none_sent view sent sent_too one.1 two.1)
  asked_alike view (console show) sent sent_too response response_too one two =
      (shown_response show, one.0, two.0, none_sent view sent sent_too one.1 two.1)
  asked_alike view (order entry) sent sent_too response response_too one two =
      (denied_response NotFound, one.0, two.0, none_sent view sent sent_too one.1 two.1)
  asked_alike view (public its what) sent sent_too response response_too one two =
      (public_response view its what, one.0, two.0, none_sent view sent sent_too one.1 two.1)
  asked_alike view (reading what) sent sent_too response response_too one two =
      (reading_response view what, one.0, two.0, none_sent view sent sent_too one.1 two.1)
  asked_alike view (keying clerk batch entry) sent sent_too response response_too (request, handed, told, is_sent) (request_too, handed_too, told_too, is_sent_too) =
      let same = (IsOutcome-handed view clerk batch entry request handed).each request_too handed_too in (
        told_response (told_of (step_of view request)),
        told,
        subst (λ (o : Outcome). IsTold (told_response (told_of o)) response_too) (sym same) told_too,
        ap (after view) is_sent_too ∙ ap (state_after view) (sym same) ∙ ap (after view) (sym is_sent),
      )

  told_alike : (view : OfficeState) (one two : List ℕ) → one ≡ two → (sent sent_too : List Request) (response response_too : _)
      → TellsFor settings.clients (Some one) view sent response → TellsFor settings.clients (Some two) view sent_too response_too
      → ((answer : ResponseEntry) × IsTold answer response × IsTold answer response_too × (after view sent_too ≡ after view sent)) ⊎ (TellsFault response ⊎ TellsFault response_too)
  told_alike view one two is sent sent_too response response_too (inr (wanting, none)) other = inr (inl (inr wanting))
  told_alike view one two is sent sent_too response response_too (inl tells) (inr (wanting, none)) = inr (inr (inr wanting))
  told_alike view one two is sent sent_too response response_too (inl (asked, asks, tells)) (inl (asked_too, asks_too, tells_too)) =
      let same = AsksOneThing-all settings.clients one asked_too asked (subst (λ (b : List ℕ). Asks settings.clients b asked_too) (sym is) asks_too) asks in
      inl (asked_alike view asked sent sent_too response response_too tells (subst (λ (a : HttpRequestEntry). TellsAsked view a response_too sent_too) same tells_too))

  -- ---- a clerk's own exchanges

  -- a clerk's own exchanges are answered in the clerk's view, until one of them gets no answer
  abbrev AnswersOwn : OfficeState → List Exchange → Type 0
  AnswersOwn view [] = ⊤
  AnswersOwn view (exchange ∷ own) =
      ((sent : List Request) × EndsSo exchange (IsServed (TellsFor settings.clients (Some exchange.got) view sent)) × AnswersOwn (after view sent) own) ⊎ IsUnanswered settings exchange

  -- so two lists of them are answered alike in the same view
  alike_at : (view : OfficeState) (own same : List Exchange) → AnswersOwn view own → AnswersOwn view same
      → map (λ (exchange : Exchange). exchange.got) own ≡ map (λ (exchange : Exchange). exchange.got) same → AreAnsweredAlike settings own same
  alike_at view [] [] run run_too is = refl
  alike_at view [] (two ∷ twos) run run_too is = absurd (cc is)
  alike_at view (one ∷ ones) [] run run_too is = absurd (cc is)
  alike_at view (one ∷ ones) (two ∷ twos) (inr unanswered) run_too is = inr (inl unanswered)
  alike_at view (one ∷ ones) (two ∷ twos) (inl run) (inr unanswered) is = inr (inr unanswered)
  alike_at view (one ∷ ones) (two ∷ twos) (inl (sent, (served, it), run)) (inl (sent_too, (served_too, it_too), run_too)) is =
      by (told_alike view one.got two.got (heads one.got two.got _ _ is) sent sent_too it.response it_too.response it.ready it_too.ready)
      (λ next. alike_at (after view sent) ones twos run (subst (λ (v : OfficeState). AnswersOwn v twos) next run_too) (tails one.got two.got _ _ is))
    where
      by : ((answer : ResponseEntry) × IsTold answer it.response × IsTold answer it_too.response × (after view sent_too ≡ after view sent)) ⊎ (TellsFault it.response ⊎ TellsFault it_too.response)
          → (after view sent_too ≡ after view sent → AreAnsweredAlike settings ones twos) → AreAnsweredAlike settings (one ∷ ones) (two ∷ twos)
      by (inl (answer, first, second, next)) later = inl (
        record {
          answer = answer;
          first = (served, record { response = it.response; ready = first; put = it.put });
          second = (served_too, record { response = it_too.response; ready = second; put = it_too.put });
        },
        later next,
      )
      by (inr (inl fault)) later = inr (inl (inl (served, record { response = it.response; ready = fault; put = it.put })))
      by (inr (inr fault)) later = inr (inr (inl (served_too, record { response = it_too.response; ready = fault; put = it_too.put })))

  module _ {S : Type 0} (state_of : Held S → State) (clerk : ℕ) where
    away_own : (view : OfficeState) (exchanges own : List Exchange) → AreRefusedClosed settings exchanges → AreClients settings.clients exchanges → AreOwn settings.clients clerk exchanges own
        → AnswersOwn view own
    away_own view [] own away clients none = subst (AnswersOwn view) (sym none) tt
    away_own view (exchange ∷ exchanges) own (closed, away) (client, free, clients) (inl (under, (later, is, others))) =
        subst (AnswersOwn view) (sym is) (inr (inr (subst (λ (listener : Listener). GetsClosedResponse listener settings exchange) client closed)))
    away_own view (exchange ∷ exchanges) own (closed, away) (client, free, clients) (inr (not, others)) = away_own view exchanges own away clients others

    -- the first of a clerk's own exchanges was answered in the view
    answers_first : (view next : OfficeState) (exchange : Exchange) (later : List Exchange)
        → ((sent : List Request) × IsClientAnsweredAt settings view exchange sent × (next ≡ after view sent)) → AnswersOwn next later → AnswersOwn view (exchange ∷ later)
    answers_first view next exchange later (sent, inl (back, none), is_next) others = inr (inr (inl (inl back)))
    answers_first view next exchange later (sent, inr (free, told), is_next) others = inl (sent, told, subst (λ (v : OfficeState). AnswersOwn v later) is_next others)

    -- a client that sends no order was answered as such
    client_turn : (view next : OfficeState) (exchange : Exchange) → AsksNoOrder settings.clients exchange.got → RespondsBySeen Clients state_of settings clerk view exchange next
        → IsAnsweredBySeen settings clerk view exchange next
    client_turn view next exchange free (inl it) = it
    client_turn view next exchange free (inr it) = absurd (free it.tells.entry it.tells.asks)

    -- the office had a fault
    client_stop : (view : OfficeState) (exchange : Exchange) → AsksNoOrder settings.clients exchange.got → IsStoppedBySeen Clients state_of settings clerk view exchange
        → EndsSo exchange (IsServed TellsFault)
    client_stop view exchange free (inl (none, it)) = it
    client_stop view exchange free (inr (next, it)) = absurd (free it.tells.entry it.tells.asks)

    -- the record failed
    client_unrecorded : (view next : OfficeState) (exchange : Exchange) → AsksNoOrder settings.clients exchange.got
        → IsUnacknowledgedBySeen Clients state_of settings clerk view exchange next → IsUnrecordedBySeen settings clerk view exchange next
    client_unrecorded view next exchange free (inl it) = it
    client_unrecorded view next exchange free (inr it) = absurd (free it.tells.entry it.tells.asks)

    -- the clerk's own exchanges, out of all those that are answered this way
    own_seen : (view : OfficeState) (exchanges own : List Exchange) → AnswersAsSeen state_of settings clerk view exchanges → AreClients settings.clients exchanges
        → AreOwn settings.clients clerk exchanges own → AnswersOwn view own
    own_seen view [] own seen clients none = subst (AnswersOwn view) (sym none) tt
    own_seen view (exchange ∷ exchanges) own (inl (next, turn, rest)) (client, free, clients) (inl (under, (later, is, others))) =
        let it = client_turn view next exchange free (subst (λ (listener : Listener). RespondsBySeen listener state_of settings clerk view exchange next) client turn) in
        subst (AnswersOwn view) (sym is) (answers_first view next exchange later (it.own under) (own_seen next exchanges later rest clients others))
    own_seen view (exchange ∷ exchanges) own (inl (next, turn, rest)) (client, free, clients) (inr (not, others)) =
        let it = client_turn view next exchange free (subst (λ (listener : Listener). RespondsBySeen listener state_of settings clerk view exchange next) client turn) in
        subst (λ (v : OfficeState). AnswersOwn v own) (it.other not) (own_seen next exchanges own rest clients others)
    own_seen view (exchange ∷ exchanges) own (inr (inl (stopped, away))) (client, free, clients) (inl (under, (later, is, others))) =
        let it = client_stop view exchange free (subst (λ (listener : Listener). IsStoppedBySeen listener state_of settings clerk view exchange) client stopped) in
        subst (AnswersOwn view) (sym is) (inr (inl it))
    own_seen view (exchange ∷ exchanges) own (inr (inl (stopped, away))) (client, free, clients) (inr (not, others)) = away_own view exchanges own away clients others
    own_seen view (exchange ∷ exchanges) own (inr (inr (recorded, (next, unacknowledged, rest)))) (client, free, clients) (inl (under, (later, is, others))) =
        let it = client_unrecorded view next exchange free
        (subst (λ (listener : Listener). IsUnacknowledgedBySeen listener state_of settings clerk view exchange next) client unacknowledged) in
        subst (AnswersOwn view) (sym is) (inr (inr (inl (inl (inr (inr (it.told, recorded)))))))
    own_seen view (exchange ∷ exchanges) own (inr (inr (recorded, (next, unacknowledged, rest)))) (client, free, clients) (inr (not, others)) =
        let it = client_unrecorded view next exchange free
        (subst (λ (listener : Listener). IsUnacknowledgedBySeen listener state_of settings clerk view exchange next) client unacknowledged) in
        subst (λ (v : OfficeState). AnswersOwn v own) (it.other not) (own_seen next exchanges own rest clients others)

    -- ---- two services

    pub answered_alike : (view view_too : OfficeState) (exchanges others own same : List Exchange) → view ≡ view_too → AnswersAsSeen state_of settings clerk view exchanges
        → AnswersAsSeen state_of settings clerk view_too others → AreClients settings.clients exchanges → AreClients settings.clients others
        → AreOwn settings.clients clerk exchanges own → AreOwn settings.clients clerk others same
        → map (λ (exchange : Exchange). exchange.got) own ≡ map (λ (exchange : Exchange). exchange.got) same → AreAnsweredAlike settings own same
    answered_alike view view_too exchanges others own same alike one two clients clients_too are are_too is =
        alike_at view own same (own_seen view exchanges own one clients are)
        (own_seen view others same (subst (λ (v : OfficeState). AnswersAsSeen state_of settings clerk v others) (sym alike) two) clients_too are_too) is
