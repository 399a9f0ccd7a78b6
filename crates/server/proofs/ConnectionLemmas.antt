-- What happened to all accepted connections, as connections are accepted, serviced and closed.
use Rattle.std.proofs.Common.{◌≡◌, ◌<◌, ◌≤◌, ◌+◌, ◌-◌, ◌∙◌, ◌⊎◌, ◌∷◌, ◌++◌, ◌==◌, ℕ, Bool, List, [], None, Option, Some, All, AllPairs, IsSomeAnd, cond}
use Rattle.std.proofs.Common.{ap, append-nil, arith, drop, eq-eqb, get_or, inl, inr, length, length-set, map, ne_eqb, option_map, refl, remove, set, subst, sym, suc, take}
use Rattle.std.proofs.lemmas.Bool.{cases_eq, cases_order}
use Rattle.std.proofs.lemmas.List.{get_or-map, get_or-set_other, get_or-set_same, get_or_append_left, get_or_push, get_or_read, length_push, map-set, set-get_or}
use Rattle.std.proofs.lemmas.List.Elements.{Contains-append_left, Contains-push, All-append, All-drop, All-head, All-push, All-tail, All-take, All-weaker, filter-append}
use Rattle.std.specs.List.{Contains}
use Rattle.std.proofs.lemmas.List.{take_all}
use Rattle.std.proofs.lemmas.List.Edits.{get_or-remove_above, get_or-remove_below, length-remove}
use Rattle.std.proofs.lemmas.List.Quantifiers.{all_pairs_push, all_pairs_remove}
use Rattle.connections.specs.Streams.{HasTaken, Stream}
use Rattle.connections.specs.Removals.{removed_of}
use Rattle.connections.specs.declared.removed.Removed.{Removed}
use Rattle.connections.specs.declared.removed.CloseReason.{CloseReason}
use Rattle.connections.specs.declared.removed.CloseReason.TheVariants.{Broken, Closing, Done, Evicted, TimedOut, Unreadable}
use Rattle.connections.specs.Clients.{IsOf, IsServedSo, IsSent}
use Rattle.connections.specs.declared.client.PendingResponse.{PendingResponse}
use Rattle.connections.specs.declared.client.Client.{Client}
use Rattle.connections.specs.declared.client.Accepted.{Accepted}
use Rattle.server.specs.ServedConnections.{AreOpen, ServedConnection, HasExchangeFor, WasClosed, IsGathered, IsOpenUnder, IsWhy, IsOpenConnection, HadExchange, AllHadExchanges, exchanges_of}
use Rattle.server.specs.Settings.{ServerSettingsEntry}
use Rattle.connections.specs.Closing.{MayBeClosed}
use Rattle.server.specs.Servicing.{answer_of}
use Rattle.server.specs.Exchanges.{Exchange}

-- ---- the exchanges with a given number

pub none_under : (number : ℕ) (exchanges : List Exchange) → All (λ (v : Exchange). v.number ≡ number → ⊥) exchanges → exchanges_of number exchanges ≡ []
none_under number [] others = refl
none_under number (v ∷ vs) others =
    ap (λ (b : Bool). cond b (v ∷ exchanges_of number vs) (exchanges_of number vs)) (ne_eqb v.number number (All-head (λ (v : Exchange). v.number ≡ number → ⊥) v vs others))
    ∙ none_under number vs (All-tail (λ (v : Exchange). v.number ≡ number → ⊥) v vs others)

pub one_under : (number : ℕ) (exchange : Exchange) → exchange.number ≡ number → exchanges_of number (exchange ∷ []) ≡ exchange ∷ []
one_under number exchange is = ap (λ (b : Bool). cond b (exchange ∷ []) []) (eq-eqb exchange.number number is)

-- more exchanges of other connections
pub same_under : (number : ℕ) (exchanges more : List Exchange) → All (λ (v : Exchange). v.number ≡ number → ⊥) more → exchanges_of number (exchanges ++ more) ≡ exchanges_of number exchanges
same_under number exchanges more others =
    filter-append (λ (v : Exchange). v.number == number) exchanges more ∙ ap (λ (vs : List Exchange). exchanges_of number exchanges ++ vs)
    (none_under number more others) ∙ append-nil (exchanges_of number exchanges)

-- the first exchange of a connection
pub first_under : (number : ℕ) (exchanges : List Exchange) (exchange : Exchange) → exchanges_of number exchanges ≡ [] → exchange.number ≡ number
    → exchanges_of number (exchanges ++ exchange ∷ []) ≡ exchange ∷ []
first_under number exchanges exchange none is =
    filter-append (λ (v : Exchange). v.number == number) exchanges (exchange ∷ []) ∙ ap (λ (vs : List Exchange). vs ++ exchanges_of number (exchange ∷ [])) none ∙ one_under number exchange is

module _ {L : Type 0} (settings : ServerSettingsEntry) (stream : Stream L) where
  -- ---- one connection

  -- what has happened to a connection so far, given its response and what was received from it
  pub went_so : (came : Accepted L) (now : L) (got : List ℕ) (answer : Option PendingResponse) (belongs : List Exchange) → IsServedSo stream came.stream now got answer
      → HasExchangeFor (option_map (λ (a : PendingResponse). a.bytes.items) answer) belongs
      → ((exchange : Exchange) → belongs ≡ exchange ∷ [] → IsGathered settings stream came exchange) → HadExchange settings stream (record { came = came; last = now }) belongs
  went_so came now got None belongs own had gathered = subst (λ (vs : List Exchange). HadExchange settings stream (record { came = came; last = now }) vs) (sym had) own.untold
  went_so came now got (Some answer) belongs own (exchange, is, same) gathered =
      subst (λ (vs : List Exchange). HadExchange settings stream (record { came = came; last = now }) vs) (sym is)
      (gathered exchange is, (answer.sent, subst (λ (bytes : List ℕ). IsSent stream now bytes answer.sent) (sym same) own))

  pub gathered_for : (connection : ServedConnection L) (belongs : List Exchange) (exchange : Exchange) → HadExchange settings stream connection belongs
      → belongs ≡ exchange ∷ [] → IsGathered settings stream connection.came exchange
  gathered_for connection belongs exchange went is = let it = subst (λ (vs : List Exchange). HadExchange settings stream connection vs) is went in it.0

  -- a connection is unchanged, whatever exchanges others had
  stands_still : (exchanges more : List Exchange) (connection : ServedConnection L) (client : Client L) → All (λ (v : Exchange). v.number ≡ client.number → ⊥) more
      → IsOpenConnection stream exchanges connection client
      → IsOpenConnection stream (exchanges ++ more) connection client
  stands_still exchanges more connection client others it =
      record { listener = it.listener; last = it.last; own = it.own; belongs = subst (HasExchangeFor (answer_of client)) (sym (same_under client.number exchanges more others)) it.belongs }

  -- ---- a connection was serviced

  module _ (all_connections : List (ServedConnection L)) (exchanges more : List Exchange) (clients : List (Client L)) (place : ℕ) (old new : Client L)
      (within : place < length clients) (is : old ≡ get_or clients place old)
      (number : new.number ≡ old.number) (apart : AllPairs (λ (a b : Client L). a.number < b.number) clients) (known : All (λ (c : Client L). c.number < length all_connections) clients)
      (mine : All (λ (v : Exchange). v.number ≡ old.number) more) where
    here : (d : Client L) → old ≡ get_or clients place d
    here d = get_or_read clients place old within is d

    number_kept : (k : ℕ) (d : Client L) → (get_or (set clients place new) k d).number ≡ (get_or clients k d).number
    number_kept k d = by (cases_eq k place)
      where
        by : (k ≡ place) ⊎ (k ≡ place → ⊥) → (get_or (set clients place new) k d).number ≡ (get_or clients k d).number
        by (inl e) = subst (λ (j : ℕ). (get_or (set clients place new) j d).number ≡ (get_or clients j d).number) (sym e)
            (ap (λ (c : Client L). c.number) (get_or-set_same clients place new d within) ∙ number ∙ ap (λ (c : Client L). c.number) (here d))
        by (inr ne) = ap (λ (c : Client L). c.number) (get_or-set_other clients place k new d ne)

    pub apart_still : AllPairs (λ (a b : Client L). a.number < b.number) (set clients place new)
    apart_still = λ i j d lt high.
        let below : j < length clients = omega (arith, high, length-set clients place new) in
        omega (arith, number_kept i d, number_kept j d, apart i j d lt below)

    other_number : (k : ℕ) (d : Client L) → k < length clients → (k ≡ place → ⊥) → (get_or clients k d).number ≡ old.number → ⊥
    other_number k d low ne e = by (cases_order k place)
      where
        by : (k ≡ place) ⊎ ((k < place) ⊎ (place < k)) → ⊥
        by (inl same) = ne same
        by (inr (inl lt)) = let less = apart k place d lt within in let at = ap (λ (c : Client L). c.number) (here d) in omega (arith, less, at, e)
        by (inr (inr gt)) = let less = apart place k d gt low in let at = ap (λ (c : Client L). c.number) (here d) in omega (arith, less, at, e)

    low : old.number < length all_connections
    low = subst (λ (c : Client L). c.number < length all_connections) (sym (here old)) (known place old within)

    others : (k : ℕ) → (k ≡ old.number → ⊥) → All (λ (v : Exchange). v.number ≡ k → ⊥) more
    others k ne = All-weaker (λ (v : Exchange). v.number ≡ old.number) (λ (v : Exchange). v.number ≡ k → ⊥) (λ v is_his is_other. ne (sym is_other ∙ is_his)) more mine

    -- the connection in question, out of all that were accepted
    abbrev pub his_guest : ServedConnection L
    his_guest = get_or all_connections old.number (record { came = record { listener = old.listener; stream = old.stream }; last = old.stream })

    -- all connections that were accepted, with the stream of the one in question as it is now
    abbrev pub all_now : List (ServedConnection L)
    all_now = set all_connections old.number (record { came = his_guest.came; last = new.stream })

    at_his : (d : ServedConnection L) → get_or all_now old.number d ≡ record { came = his_guest.came; last = new.stream }
    at_his d = get_or-set_same all_connections old.number (record { came = his_guest.came; last = new.stream }) d low

    at_other : (k : ℕ) (d : ServedConnection L) → (k ≡ old.number → ⊥) → get_or all_now k d ≡ get_or all_connections k d
    at_other k d ne = get_or-set_other all_connections old.number k (record { came = his_guest.came; last = new.stream }) d ne

    long : length all_now ≡ length all_connections
    long = length-set all_connections old.number (record { came = his_guest.came; last = new.stream })

    pub all_came : map (λ (g : ServedConnection L). g.came) all_now ≡ map (λ (g : ServedConnection L). g.came) all_connections
    all_came =
        let came_at = get_or-map (λ (g : ServedConnection L). g.came) all_connections old.number
        (record { came = record { listener = old.listener; stream = old.stream }; last = old.stream }) (record { listener = old.listener; stream = old.stream }) low in
        map-set (λ (g : ServedConnection L). g.came) all_connections old.number (record { came = his_guest.came; last = new.stream })
        ∙ ap (λ (c : Accepted L). set (map (λ (g : ServedConnection L). g.came) all_connections) old.number c) (sym came_at) ∙ set-get_or
        (map (λ (g : ServedConnection L). g.came) all_connections) old.number (record { listener = old.listener; stream = old.stream })

    -- what happened to all connections, given what happened to the one in question
    pub went_still : AllHadExchanges settings stream all_connections exchanges → HadExchange settings stream (record { came = his_guest.came; last = new.stream })
        (exchanges_of old.number (exchanges ++ more))
        → AllHadExchanges settings stream all_now (exchanges ++ more)
    went_still went belongs = record {
      each = λ k d lt. by k d lt (cases_eq k old.number);
      known = All-append (λ (v : Exchange). v.number < length all_now) exchanges more
          (All-weaker (λ (v : Exchange). v.number < length all_connections) (λ (v : Exchange). v.number < length all_now) (λ v less. omega (arith, less, long)) exchanges went.known)
          (All-weaker (λ (v : Exchange). v.number ≡ old.number) (λ (v : Exchange). v.number < length all_now) (λ v same. omega (arith, same, low, long)) more mine);
    }
      where
        by : (k : ℕ) (d : ServedConnection L) → k < length all_now → (k ≡ old.number) ⊎ (k ≡ old.number → ⊥) → HadExchange settings stream (get_or all_now k d) (exchanges_of k (exchanges ++ more))
        by k d lt (inl e) =
            subst (λ (j : ℕ). HadExchange settings stream (get_or all_now j d) (exchanges_of j (exchanges ++ more))) (sym e)
            (subst (λ (g : ServedConnection L). HadExchange settings stream g (exchanges_of old.number (exchanges ++ more))) (sym (at_his d)) belongs)
        by k d lt (inr ne) =
            subst (λ (g : ServedConnection L). HadExchange settings stream g (exchanges_of k (exchanges ++ more))) (sym (at_other k d ne))
            (subst (λ (vs : List Exchange). HadExchange settings stream (get_or all_connections k d) vs) (sym (same_under k exchanges more (others k ne))) (went.each k d (omega (arith, lt, long))))

    pub known_still : All (λ (c : Client L). c.number < length all_now) (set clients place new)
    known_still = λ k d lt.
        let at : k < length clients = omega (arith, lt, length-set clients place new) in
        omega (arith, number_kept k d, known k d at, long)

    abbrev StandsIn : Client L → Type 0
    StandsIn c = (connection : ServedConnection L) → IsOpenConnection stream (exchanges ++ more) (get_or all_now c.number connection) c

    -- the state of all open connections, given the state of the one in question
    pub stand_still : All (λ (c : Client L). (connection : ServedConnection L) → IsOpenConnection stream exchanges (get_or all_connections c.number connection) c) clients
        → IsOpenConnection stream (exchanges ++ more) (record { came = his_guest.came; last = new.stream }) new
        → All (λ (c : Client L). (connection : ServedConnection L) → IsOpenConnection stream (exchanges ++ more) (get_or all_now c.number connection) c) (set clients place new)
    stand_still stand belongs = λ k d lt. by k d lt (cases_eq k place)
      where
        by : (k : ℕ) (d : Client L) → k < length (set clients place new) → (k ≡ place) ⊎ (k ≡ place → ⊥) → StandsIn (get_or (set clients place new) k d)
        by k d lt (inl e) =
            subst (λ (j : ℕ). StandsIn (get_or (set clients place new) j d)) (sym e)
            (subst StandsIn (sym (get_or-set_same clients place new d within))
            (λ connection. subst (λ (g : ServedConnection L). IsOpenConnection stream (exchanges ++ more) g new) (sym (ap (λ (n : ℕ). get_or all_now n connection) number ∙ at_his connection))
            belongs))
        by k d lt (inr ne) =
            let at : k < length clients = omega (arith, lt, length-set clients place new) in
            let other = other_number k d at ne in
            subst StandsIn (sym (get_or-set_other clients place k new d ne))
            (λ connection. subst (λ (g : ServedConnection L). IsOpenConnection stream (exchanges ++ more) g (get_or clients k d)) (sym (at_other (get_or clients k d).number connection other))
            (stands_still exchanges more (get_or all_connections (get_or clients k d).number connection) (get_or clients k d) (others (get_or clients k d).number other) (stand k d at connection)))

    -- each of the other connections is still open, or had been closed before
    pub left_still : (gone : List (Removed L))
        → ((k : ℕ) (d : ServedConnection L) → k < length all_connections → IsOpenUnder clients k ⊎ WasClosed stream gone exchanges k (get_or all_connections k d))
        → (k : ℕ) (d : ServedConnection L) → k < length all_now → IsOpenUnder (set clients place new) k ⊎ WasClosed stream gone (exchanges ++ more) k (get_or all_now k d)
    left_still gone left k d lt = by (cases_eq k old.number)
      where
        in_still : IsOpenUnder clients k → IsOpenUnder (set clients place new) k
        in_still is_in = record {
          place = is_in.place;
          within = omega (arith, is_in.within, length-set clients place new);
          belongs = λ c. number_kept is_in.place c ∙ is_in.belongs c;
        }

        by : (k ≡ old.number) ⊎ (k ≡ old.number → ⊥) → IsOpenUnder (set clients place new) k ⊎ WasClosed stream gone (exchanges ++ more) k (get_or all_now k d)
        by (inl e) = inl (record {
          place = place;
          within = omega (arith, within, length-set clients place new);
          belongs = λ c. ap (λ (x : Client L). x.number) (get_or-set_same clients place new c within) ∙ number ∙ sym e;
        })
        by (inr ne) = either (left k d (omega (arith, lt, long)))
          where
            either : IsOpenUnder clients k ⊎ WasClosed stream gone exchanges k (get_or all_connections k d)
                → IsOpenUnder (set clients place new) k ⊎ WasClosed stream gone (exchanges ++ more) k (get_or all_now k d)
            either (inl is_in) = inl (in_still is_in)
            either (inr it) = inr (subst (λ (x : ServedConnection L). WasClosed stream gone (exchanges ++ more) k x) (sym (at_other k d ne)) (record {
              why = it.why;
              back = it.back;
              holds = subst (λ (vs : List Exchange). IsWhy stream it.why (get_or all_connections k d).last vs) (sym (same_under k exchanges more (others k ne))) it.holds;
            }))

  -- ---- all connections

  pub are_same : (all_connections : List (ServedConnection L)) (exchanges : List Exchange) (gone : List (Removed L)) (came came_then : ℕ) (clients clients_then : List (Client L))
      → came_then ≡ came → clients_then ≡ clients
      → AreOpen settings stream all_connections exchanges gone came clients → AreOpen settings stream all_connections exchanges gone came_then clients_then
  are_same all_connections exchanges gone came came_then clients clients_then same_came same_clients are =
      subst (λ (n : ℕ). AreOpen settings stream all_connections exchanges gone n clients_then) (sym same_came)
      (subst (λ (cs : List (Client L)). AreOpen settings stream all_connections exchanges gone came cs) (sym same_clients) are)

  -- one connection was serviced: what holds for all accepted connections still holds, and so does what holds for the open ones
  pub one_went_on : (all_connections : List (ServedConnection L)) (exchanges more : List Exchange) (gone : List (Removed L)) (came : ℕ) (clients : List (Client L))
      (place : ℕ) (old new : Client L) → AreOpen settings stream all_connections exchanges gone came clients
      → place < length clients → old ≡ get_or clients place old → new.listener ≡ old.listener → new.number ≡ old.number → All (λ (v : Exchange). v.number ≡ old.number) more
      → ((connection : ServedConnection L) → IsOpenConnection stream exchanges connection old → HadExchange settings stream connection (exchanges_of old.number exchanges)
      → IsOf stream connection.came.stream new × HasExchangeFor (answer_of new) (exchanges_of old.number (exchanges ++ more))
      × ((exchange : Exchange) → exchanges_of old.number (exchanges ++ more) ≡ exchange ∷ [] → IsGathered settings stream connection.came exchange))
      → (all : List (ServedConnection L)) × (map (λ (g : ServedConnection L). g.came) all ≡ map (λ (g : ServedConnection L). g.came) all_connections)
      × AreOpen settings stream all (exchanges ++ more) gone came (set clients place new)
  one_went_on all_connections exchanges more gone came clients place old new are within is listener number mine goes =
      let here = get_or_read clients place old within is in
      let some_guest : ServedConnection L = record { came = record { listener = old.listener; stream = old.stream }; last = old.stream } in
      let less : old.number < length all_connections = subst (λ (c : Client L). c.number < length all_connections) (sym (here old)) (are.known place old within) in
      let connection = get_or all_connections old.number some_guest in
      let stood : IsOpenConnection stream exchanges connection old =
      subst (λ (c : Client L). IsOpenConnection stream exchanges (get_or all_connections c.number some_guest) c) (sym (here old)) (are.stand place old within some_guest) in
      let (own, had, gathered) = goes connection stood (are.went.each old.number some_guest less) in
      let belongs : HadExchange settings stream (record { came = connection.came; last = new.stream }) (exchanges_of old.number (exchanges ++ more)) =
      went_so connection.came new.stream new.got.items new.answer (exchanges_of old.number (exchanges ++ more)) own had gathered in
      let stands : IsOpenConnection stream (exchanges ++ more) (record { came = connection.came; last = new.stream }) new =
      record { listener = listener ∙ stood.listener; last = refl; own = own; belongs = subst (λ (n : ℕ). HasExchangeFor (answer_of new) (exchanges_of n (exchanges ++ more))) (sym number) had } in (
        all_now all_connections exchanges more clients place old new within is number are.apart are.known mine,
        all_came all_connections exchanges more clients place old new within is number are.apart are.known mine,
        record {
          count = length-set all_connections old.number (record { came = connection.came; last = new.stream }) ∙ are.count;
          went = went_still all_connections exchanges more clients place old new within is number are.apart are.known mine are.went belongs;
          apart = apart_still all_connections exchanges more clients place old new within is number are.apart are.known mine;
          known = known_still all_connections exchanges more clients place old new within is number are.apart are.known mine;
          stand = stand_still all_connections exchanges more clients place old new within is number are.apart are.known mine are.stand stands;
          sum = omega (arith, are.sum, length-set clients place new, length-set all_connections old.number (record { came = connection.came; last = new.stream }));
          left = left_still all_connections exchanges more clients place old new within is number are.apart are.known mine gone are.left;
        },
      )

  -- ---- a connection was accepted

  abbrev pub with_one : List (ServedConnection L) → Accepted L → List (ServedConnection L)
  with_one all_connections start = all_connections ++ record { came = start; last = start.stream } ∷ []

  one_longer : (all_connections : List (ServedConnection L)) (start : Accepted L) → length (with_one all_connections start) ≡ length all_connections + 1
  one_longer all_connections start = length_push all_connections (record { came = start; last = start.stream })

  -- a new connection has had no exchange, and nothing has been sent to it
  came_in : (all_connections : List (ServedConnection L)) (exchanges : List Exchange) (start : Accepted L) → AllHadExchanges settings stream all_connections exchanges
      → HasTaken (stream.taken start.stream) []
      → AllHadExchanges settings stream (with_one all_connections start) exchanges
  came_in all_connections exchanges start went fresh = record {
    each = λ k d lt. by k d lt (cases_eq k (length all_connections));
    known = All-weaker (λ (v : Exchange). v.number < length all_connections) (λ (v : Exchange). v.number < length (with_one all_connections start))
        (λ v less. omega (arith, less, one_longer all_connections start)) exchanges went.known;
  }
    where
      by : (k : ℕ) (d : ServedConnection L) → k < length (with_one all_connections start) → (k ≡ length all_connections) ⊎ (k ≡ length all_connections → ⊥)
          → HadExchange settings stream (get_or (with_one all_connections start) k d) (exchanges_of k exchanges)
      by k d lt (inl e) =
          let none = none_under k exchanges (All-weaker (λ (v : Exchange). v.number < length all_connections) (λ (v : Exchange). v.number ≡ k → ⊥)
          (λ v less same. omega (arith, less, same, e)) exchanges went.known) in
          subst (λ (g : ServedConnection L). HadExchange settings stream g (exchanges_of k exchanges)) (sym (get_or_push all_connections (record { came = start; last = start.stream }) d k (sym e)))
          (subst (λ (vs : List Exchange). HadExchange settings stream (record { came = start; last = start.stream }) vs) (sym none) fresh)
      by k d lt (inr ne) =
          let less : k < length all_connections = omega (arith, lt, ne, one_longer all_connections start) in
          subst (λ (g : ServedConnection L). HadExchange settings stream g (exchanges_of k exchanges))
          (sym (get_or_append_left all_connections (record { came = start; last = start.stream } ∷ []) d k less)) (went.each k d less)

  known_on : (all_connections : List (ServedConnection L)) (start : Accepted L) (clients : List (Client L)) → All (λ (c : Client L). c.number < length all_connections) clients
      → All (λ (c : Client L). c.number < length (with_one all_connections start)) clients
  known_on all_connections start clients known =
      All-weaker (λ (c : Client L). c.number < length all_connections) (λ (c : Client L). c.number < length (with_one all_connections start))
      (λ c less. omega (arith, less, one_longer all_connections start)) clients known

  stand_on : (all_connections : List (ServedConnection L)) (start : Accepted L) (exchanges : List Exchange) (clients : List (Client L))
      → All (λ (c : Client L). c.number < length all_connections) clients
      → All (λ (c : Client L). (connection : ServedConnection L) → IsOpenConnection stream exchanges (get_or all_connections c.number connection) c) clients
      → All (λ (c : Client L). (connection : ServedConnection L) → IsOpenConnection stream exchanges (get_or (with_one all_connections start) c.number connection) c) clients
  stand_on all_connections start exchanges clients known stand = λ k d lt connection.
      subst (λ (g : ServedConnection L). IsOpenConnection stream exchanges g (get_or clients k d))
      (sym (get_or_append_left all_connections (record { came = start; last = start.stream } ∷ []) connection (get_or clients k d).number (known k d lt))) (stand k d lt connection)

  -- every other connection is still open, or still closed
  left_on : (all_connections : List (ServedConnection L)) (exchanges : List Exchange) (gone : List (Removed L)) (clients : List (Client L)) (start : Accepted L) (client : Client L)
      → client.number ≡ length all_connections
      → ((k : ℕ) (d : ServedConnection L) → k < length all_connections → IsOpenUnder clients k ⊎ WasClosed stream gone exchanges k (get_or all_connections k d))
      → (k : ℕ) (d : ServedConnection L) → k < length (with_one all_connections start) → IsOpenUnder (clients ++ client ∷ []) k
      ⊎ WasClosed stream gone exchanges k (get_or (with_one all_connections start) k d)
  left_on all_connections exchanges gone clients start client at left k d lt = by (cases_eq k (length all_connections))
    where
      in_still : IsOpenUnder clients k → IsOpenUnder (clients ++ client ∷ []) k
      in_still is_in = record {
        place = is_in.place;
        within = omega (arith, is_in.within, length_push clients client);
        belongs = λ c. ap (λ (x : Client L). x.number) (get_or_append_left clients (client ∷ []) c is_in.place is_in.within) ∙ is_in.belongs c;
      }

      by : (k ≡ length all_connections) ⊎ (k ≡ length all_connections → ⊥) → IsOpenUnder (clients ++ client ∷ []) k
          ⊎ WasClosed stream gone exchanges k (get_or (with_one all_connections start) k d)
      by (inl e) = inl (record {
        place = length clients;
        within = omega (arith, length_push clients client);
        belongs = λ c. ap (λ (x : Client L). x.number) (get_or_push clients client c (length clients) refl) ∙ at ∙ sym e;
      })
      by (inr ne) = either (left k d (omega (arith, lt, ne, one_longer all_connections start)))
        where
          either : IsOpenUnder clients k ⊎ WasClosed stream gone exchanges k (get_or all_connections k d)
              → IsOpenUnder (clients ++ client ∷ []) k
              ⊎ WasClosed stream gone exchanges k (get_or (with_one all_connections start) k d)
          either (inl is_in) = inl (in_still is_in)
          either (inr it) =
              let less : k < length all_connections = omega (arith, lt, ne, one_longer all_connections start) in
              inr (subst (λ (x : ServedConnection L). WasClosed stream gone exchanges k x) (sym (get_or_append_left all_connections (record { came = start; last = start.stream } ∷ []) d k less)) it)

  -- a connection was accepted
  pub one_entered : (all_connections : List (ServedConnection L)) (exchanges : List Exchange) (gone : List (Removed L)) (came : ℕ) (clients : List (Client L))
      (start : Accepted L) (client : Client L) → AreOpen settings stream all_connections exchanges gone came clients
      → HasTaken (stream.taken start.stream) [] → client.listener ≡ start.listener → client.stream ≡ start.stream → client.number ≡ came → client.answer ≡ None → IsOf stream start.stream client
      → AreOpen settings stream (with_one all_connections start) exchanges gone (came + 1) (clients ++ client ∷ [])
  one_entered all_connections exchanges gone came clients start client are fresh listener over number unanswered own =
      let at : client.number ≡ length all_connections = number ∙ sym are.count in
      let none : exchanges_of client.number exchanges ≡ [] =
      none_under client.number exchanges (All-weaker (λ (v : Exchange). v.number < length all_connections) (λ (v : Exchange). v.number ≡ client.number → ⊥)
      (λ v less same. omega (arith, less, same, at)) exchanges are.went.known) in
      let had : HasExchangeFor (answer_of client) (exchanges_of client.number exchanges) =
      subst (λ (a : Option PendingResponse). HasExchangeFor (option_map (λ (x : PendingResponse). x.bytes.items) a) (exchanges_of client.number exchanges)) (sym unanswered) none in
      record {
        count = omega (arith, one_longer all_connections start, are.count);
        went = came_in all_connections exchanges start are.went fresh;
        apart = all_pairs_push (λ (a b : Client L). a.number < b.number) clients client are.apart (λ k d lt. let less = are.known k d lt in omega (arith, less, at));
        known = All-push (λ (c : Client L). c.number < length (with_one all_connections start)) clients client (known_on all_connections start clients are.known)
            (omega (arith, at, one_longer all_connections start));
        stand = All-push (λ (c : Client L). (g : ServedConnection L) → IsOpenConnection stream exchanges (get_or (with_one all_connections start) c.number g) c) clients client
            (stand_on all_connections start exchanges clients are.known are.stand)
            (λ g. subst (λ (x : ServedConnection L). IsOpenConnection stream exchanges x client)
            (sym (get_or_push all_connections (record { came = start; last = start.stream }) g client.number (sym at))) (record { listener = listener; last = sym over; own = own; belongs = had }));
        sum = omega (arith, are.sum, length_push clients client, one_longer all_connections start);
        left = left_on all_connections exchanges gone clients start client at are.left;
      }

  -- ---- a connection was closed

  -- the reason for closing a client applies to it
  pub why_holds : (exchanges : List Exchange) (connection : ServedConnection L) (client : Client L) (why : CloseReason) → IsOpenConnection stream exchanges connection client
      → MayBeClosed stream why client → IsWhy stream why client.stream (exchanges_of client.number exchanges)
  why_holds exchanges connection client Broken stood may = may
  why_holds exchanges connection client Unreadable stood may = tt
  why_holds exchanges connection client TimedOut stood may = tt
  why_holds exchanges connection client Evicted stood may = tt
  why_holds exchanges connection client Closing stood may = tt
  why_holds exchanges connection client Done stood may = whole client.answer refl stood.own stood.belongs may
    where
      whole : (answer : Option PendingResponse) → client.answer ≡ answer → IsServedSo stream connection.came.stream client.stream client.got.items client.answer
          → HasExchangeFor (option_map (λ (a : PendingResponse). a.bytes.items) client.answer) (exchanges_of client.number exchanges)
          → IsSomeAnd client.answer (λ (a : PendingResponse). length a.bytes.items ≤ a.sent) → IsWhy stream Done client.stream (exchanges_of client.number exchanges)
      whole None is own had all = absurd (subst (λ (x : Option PendingResponse). IsSomeAnd x (λ (a : PendingResponse). length a.bytes.items ≤ a.sent)) is all)
      whole (Some answer) is own had all =
          let told = subst (λ (x : Option PendingResponse). IsServedSo stream connection.came.stream client.stream client.got.items x) is own in
          let every = subst (λ (x : Option PendingResponse). IsSomeAnd x (λ (a : PendingResponse). length a.bytes.items ≤ a.sent)) is all in
          let (exchange, one, same) = subst (λ (x : Option PendingResponse). HasExchangeFor (option_map (λ (a : PendingResponse). a.bytes.items) x) (exchanges_of client.number exchanges)) is had in
          subst (λ (vs : List Exchange). IsWhy stream Done client.stream vs) (sym one)
          (subst (λ (bytes : List ℕ). HasTaken (stream.taken client.stream) bytes) (take_all answer.sent answer.bytes.items every ∙ sym same) told.took)

  rest : (P : Client L → Type 0) (xs : List (Client L)) (n : ℕ) → All P xs → All P (remove xs n)
  rest P xs n all = All-append P (take n xs) (drop (suc n) xs) (All-take P n xs all) (All-drop P (suc n) xs all)

  module _ (clients : List (Client L)) (place : ℕ) (client : Client L) (within : place < length clients) (here : (d : Client L) → client ≡ get_or clients place d) where
    -- a connection at another place is still open
    in_without : (k : ℕ) → (k ≡ client.number → ⊥) → IsOpenUnder clients k → IsOpenUnder (remove clients place) k
    in_without k ne is_in = by (cases_order is_in.place place)
      where
        fewer : length (remove clients place) + 1 ≡ length clients
        fewer = length-remove clients place within

        by : (is_in.place ≡ place) ⊎ ((is_in.place < place) ⊎ (place < is_in.place)) → IsOpenUnder (remove clients place) k
        by (inl same) = absurd (ne (sym (is_in.belongs client) ∙ ap (λ (j : ℕ). (get_or clients j client).number) same ∙ sym (ap (λ (c : Client L). c.number) (here client))))
        by (inr (inl below)) = record {
          place = is_in.place;
          within = omega (arith, below, within, fewer);
          belongs = λ c. ap (λ (x : Client L). x.number) (get_or-remove_below clients place c is_in.place below within) ∙ is_in.belongs c;
        }
        by (inr (inr above)) = record {
          place = is_in.place - 1;
          within = let inside = is_in.within in omega (arith, above, inside, fewer);
          belongs = λ c.
              ap (λ (x : Client L). x.number) (get_or-remove_above clients place c (is_in.place - 1) (omega (arith, above)) within)
              ∙ ap (λ (j : ℕ). (get_or clients j c).number) (before_again is_in.place above) ∙ is_in.belongs c;
        }
          where
            before_again : (n : ℕ) → place < n → n - 1 + 1 ≡ n
            before_again n less = omega (arith, less)

  pub one_left : (all_connections : List (ServedConnection L)) (exchanges : List Exchange) (gone : List (Removed L)) (came : ℕ) (clients : List (Client L))
      (place : ℕ) (client : Client L) (why : CloseReason) → AreOpen settings stream all_connections exchanges gone came clients
      → place < length clients → ((d : Client L) → client ≡ get_or clients place d) → MayBeClosed stream why client
      → AreOpen settings stream all_connections exchanges (gone ++ removed_of client why ∷ []) came (remove clients place)
  one_left all_connections exchanges gone came clients place client why are within here may = record {
    count = are.count;
    went = are.went;
    apart = all_pairs_remove (λ (a b : Client L). a.number < b.number) clients place within are.apart;
    known = rest (λ (c : Client L). c.number < length all_connections) clients place are.known;
    stand = rest (λ (c : Client L). (g : ServedConnection L) → IsOpenConnection stream exchanges (get_or all_connections c.number g) c) clients place are.stand;
    sum = let fewer = length-remove clients place within in omega (arith, are.sum, fewer, length_push gone (removed_of client why));
    left = λ k d lt. by k d (cases_eq k client.number) (are.left k d lt);
  }
    where
      stood : (d : ServedConnection L) → IsOpenConnection stream exchanges (get_or all_connections client.number d) client
      stood d = subst (λ (c : Client L). IsOpenConnection stream exchanges (get_or all_connections c.number d) c) (sym (here client)) (are.stand place client within d)

      by : (k : ℕ) (d : ServedConnection L) → (k ≡ client.number) ⊎ (k ≡ client.number → ⊥) → IsOpenUnder clients k ⊎ WasClosed stream gone exchanges k (get_or all_connections k d)
          → IsOpenUnder (remove clients place) k ⊎ WasClosed stream (gone ++ removed_of client why ∷ []) exchanges k (get_or all_connections k d)
      by k d (inl e) left = inr (subst (λ (j : ℕ). WasClosed stream (gone ++ removed_of client why ∷ []) exchanges j (get_or all_connections j d)) (sym e) (record {
        why = why;
        back = subst (λ (l : L). Contains (gone ++ removed_of client why ∷ []) (record { number = client.number; stream = l; why = why })) (sym (stood d).last)
            (Contains-push gone (removed_of client why));
        holds = subst (λ (l : L). IsWhy stream why l (exchanges_of client.number exchanges)) (sym (stood d).last)
            (why_holds exchanges (get_or all_connections client.number d) client why (stood d) may);
      }))
      by k d (inr ne) (inl is_in) = inl (in_without clients place client within here k ne is_in)
      by k d (inr ne) (inr it) = inr (record { why = it.why; back = Contains-append_left gone (removed_of client why ∷ []) _ it.back; holds = it.holds })

  -- no connection has been accepted yet
  pub none_in : AreOpen settings stream [] [] [] 0 []
  none_in = record {
    count = refl;
    went = record { each = λ k d lt. absurd (omega (arith, lt)); known = λ k d lt. absurd (omega (arith, lt)) };
    apart = λ i j d lt high. absurd (omega (arith, high));
    known = λ k d lt. absurd (omega (arith, lt));
    stand = λ k d lt. absurd (omega (arith, lt));
    sum = refl;
    left = λ k d lt. absurd (omega (arith, lt));
  }
