-- The server, from one time to a later one.
use Rattle.std.proofs.Common.{◌≡◌, ◌≤◌, ◌<◌, ◌+◌, ◌-◌, ◌^◌, ◌∙◌, ◌⊎◌, ◌∷◌, ◌++◌, ℕ, add-zero, true, List, [], None, Option, Some, ap}
use Rattle.std.proofs.Common.{append-nil, append_assoc, arith, get_or, inl, inr, insert, length, length-set, map, option_map, refl, remove, set, subst, suc, sym, zero}
use Rattle.std.specs.Prelude.{◌≢◌, Bool, Err, IfSome, Ok, OnOk, Result, is_some, unwrap_or}
use Rattle.std.specs.List.{All, FoldsTo, list_all}
use Rattle.std.specs.Vec.{with_item}
use Rattle.std.proofs.lemmas.List.{get_or-set_same, get_or_default, get_or_read, map-append, map_push}
use Rattle.std.proofs.lemmas.List.Edits.{length-insert}
use Rattle.std.proofs.lemmas.List.Elements.{All-nil, All-push}
use Rattle.std.proofs.lemmas.List.Sums.{sum_by-append}
use Rattle.sqlite.specs.State.{HasCleanDisk}
use Rattle.office.specs.Values.{OfficeValue}
use Rattle.streams.specs.declared.streams.Broken.{Broken}
use Rattle.connections.specs.Removals.{removed_of}
use Rattle.connections.specs.Streams.{HasTaken, Stream, failed_after, one_more}
use Rattle.connections.specs.Clients.{IsNew, IsOf}
use Rattle.connections.specs.Traces.{IsServiceOutcome, Trace, HadResponses, ResponseAt, with_gate}
use Rattle.connections.specs.Tables.{NetworkEntry, most_clients, after_accept, after_look, after_ready, after_wait, clients_among, count_at, with_failure, with_removed, with_moment}
use Rattle.connections.specs.declared.client.PendingResponse.{PendingResponse}
use Rattle.connections.specs.declared.client.Client.{Client}
use Rattle.connections.specs.declared.client.Accepted.{Accepted}
use Rattle.connections.specs.declared.client.Listener.{Listener}
use Rattle.connections.specs.declared.network.AcceptOutcome.TheVariants.{Full, One}
use Rattle.connections.specs.declared.removed.Removed.{Removed}
use Rattle.connections.specs.declared.removed.CloseReason.{CloseReason}
use Rattle.connections.specs.declared.removed.CloseReason.TheVariants.{Broken as broken_off, Closing, Done, Evicted, TimedOut, Unreadable}
use Rattle.connections.specs.declared.connection_table.ConnectionTable.{ConnectionTable}
use Rattle.connections.proofs.StreamLemmas.{heard_more}
use Rattle.server.specs.ServedConnections.{AreOpen, ServedConnection, HasExchangeFor, WasClosed, IsGathered, IsOpenUnder, IsSound, IsOpenConnection, HadExchange, exchanges_of}
use Rattle.connections.specs.Closing.{AreClosedByRule, EndsFor, IsClosed, IsClosedByRule, IsClosedForBytes, MayBeClosed, timeout_rule, timeout}
use Rattle.server.specs.Servers.{GoesOn, GoesOnServing, RemovesMore, IsCalled, IsNumbered, IsSettled, IsUnfailed, AcceptsMore, OnMoved, ServesFrom, ServesRecorded, is_idle}
use Rattle.server.specs.declared.serve_error.ServeError.{ServeError}
use Rattle.server.specs.declared.serve_error.ServeError.TheVariants as ended
use Rattle.server.specs.Reads.{ServedOffice, MemoryEntry, served_office, with_none_kept}
use Rattle.server.specs.RecordChanges.{ServedView}
use Rattle.server.specs.Settings.{ServerSettingsEntry}
use Rattle.server.specs.Servicing.{HasComeAt, HasResponded, HasExchanges, IsAtGate, HasSentNothing, WasServiced, answer_of, moment_of, response_at}
use Rattle.server.specs.Exchanges.{ServesExchange, Exchange}
use Rattle.server.proofs.ConnectionLemmas.{are_same, first_under, gathered_for, none_in, one_entered, one_left, one_went_on, same_under, with_one}
use Rattle.server.proofs.KeptLemmas.{cleans, kept_of, turned_away}
use Rattle.connections.proofs.ClosingLemmas.{Outs, bytes_outs, closed_outs, folds_then, late_outs, more_then, with_none}
use Rattle.connections.proofs.TraceLemmas.{bytes_due, course_closes, course_fails, course_leaves, course_look, course_misses, trace_none, course_stays, course_stops, trace_then}
use Rattle.server.proofs.ServicingLemmas.{is_heard}

-- ---- a place in the table

-- a connection was taken out of its place, changed, and put back
set_again : {X : Type 0} (xs : List X) (place : ℕ) (x : X) → place < length xs → insert (remove xs place) place x ≡ set xs place x
set_again [] place x within = absurd (omega (arith, within))
set_again (y ∷ ys) zero x within = refl
set_again {X} (y ∷ ys) (suc place) x within = ap (λ (zs : List X). y ∷ zs) (set_again ys place x (omega (arith, within)))

remove_set : {X : Type 0} (xs : List X) (place : ℕ) (x : X) → place < length xs → remove (set xs place x) place ≡ remove xs place
remove_set [] place x within = absurd (omega (arith, within))
remove_set (y ∷ ys) zero x within = refl
remove_set {X} (y ∷ ys) (suc place) x within = ap (λ (zs : List X). y ∷ zs) (remove_set ys place x (omega (arith, within)))

-- a connection was put back in its place, and there was room for it
pub few_again : {L : Type 0} (old new : List (Client L)) (place : ℕ) (client : Client L) → place ≤ length old → length old < most_clients → new ≡ insert old place client → length new ≤ most_clients
few_again {L} old new place client within few is =
    let more = length-insert old place client within in
    let long = ap (λ (cs : List (Client L)). length cs) is in
    omega (arith, few, more, long)

-- ---- connections that were accepted, and connections that were closed

grows_none : {X : Type 0} (count : Option (List X)) → count ≡ option_map (λ (xs : List X). xs ++ []) count
grows_none None = refl
grows_none (Some xs) = ap Some (sym (append-nil xs))

pub grows_same : {X : Type 0} (old new : Option (List X)) → new ≡ old → new ≡ option_map (λ (xs : List X). xs ++ []) old
grows_same old new same = same ∙ grows_none old

grows_then : {X : Type 0} (old mid new : Option (List X)) (first next : List X) → mid ≡ option_map (λ (xs : List X). xs ++ first) old → new ≡ option_map (λ (xs : List X). xs ++ next) mid
    → new ≡ option_map (λ (xs : List X). xs ++ (first ++ next)) old
grows_then {X} old mid new first next a b = b ∙ ap (option_map (λ (xs : List X). xs ++ next)) a ∙ more_then old first next

-- how many of the accepted connections are clients
clients_append : {L : Type 0} (first next : List (Accepted L)) → clients_among (first ++ next) ≡ clients_among first + clients_among next
clients_append first next = sum_by-append (λ accepted. count_at accepted.listener) first next

-- no connection was accepted, and none was closed
abbrev pub IsStill : {L : Type 0} → NetworkEntry L → NetworkEntry L → Type 0
IsStill before later = (later.came ≡ before.came) × (later.left ≡ before.left)

pub still_look : {L : Type 0} (result : Result ℕ Broken) (before later : NetworkEntry L) → later ≡ after_look result before → IsStill before later
still_look (Ok value) before later is = (ap (λ (d : NetworkEntry _). d.came) is, ap (λ (d : NetworkEntry _). d.left) is)
still_look (Err broken) before later is = (ap (λ (d : NetworkEntry _). d.came) is, ap (λ (d : NetworkEntry _). d.left) is)

-- the clock may have been read at the gate
gate_still : {L : Type 0} (gate : Option ℕ) (before : NetworkEntry L)
    → ((with_gate gate before).came ≡ before.came) × ((with_gate gate before).left ≡ before.left) × ((with_gate gate before).failed ≡ before.failed) × ((with_gate gate before).waits ≡ before.waits)
gate_still None before = (refl, refl, refl, refl)
gate_still (Some now) before = (refl, refl, refl, refl)

pub still_wait : {L : Type 0} (result : Result (Unit {0}) Broken) (before later : NetworkEntry L) → later ≡ after_wait result before → IsStill before later
still_wait (Ok value) before later is = (ap (λ (d : NetworkEntry _). d.came) is, ap (λ (d : NetworkEntry _). d.left) is)
still_wait (Err broken) before later is = (ap (λ (d : NetworkEntry _). d.came) is, ap (λ (d : NetworkEntry _). d.left) is)

-- no connection was reported as ready
pub known_still : {L : Type 0} (result : Option ℕ) (before later : NetworkEntry L) → later ≡ after_ready result before → ((number : ℕ) → result ≡ Some number → ⊥) → later ≡ before
known_still None before later is none = is
known_still (Some number) before later is none = absurd (none number refl)

-- one of the open connections was serviced
pub still_comes : {L : Type 0} (stream : Stream L) (turns : List ResponseAt) (old new : Client L) (result : Result (Option CloseReason) Broken) (gate : Option ℕ) (before later : NetworkEntry L)
    → IsServiceOutcome stream turns old new result (with_gate gate before) later → IsStill before later
still_comes {L} stream turns old new (Ok None) gate before later (inl (none, since, is)) =
    let still = gate_still gate before in (ap (λ (d : NetworkEntry L). d.came) is ∙ still.0, ap (λ (d : NetworkEntry L). d.left) is ∙ still.1)
still_comes {L} stream turns old new (Ok None) gate before later (inr (one, is)) =
    let still = gate_still gate before in (ap (λ (d : NetworkEntry L). d.came) is ∙ still.0, ap (λ (d : NetworkEntry L). d.left) is ∙ still.1)
still_comes {L} stream turns old new (Ok (Some why)) gate before later (since, ends, is) =
    let still = gate_still gate before in (ap (λ (d : NetworkEntry L). d.came) is ∙ still.0, ap (λ (d : NetworkEntry L). d.left) is ∙ still.1)
still_comes {L} stream turns old new (Err broken) gate before later (since, is) =
    let still = gate_still gate before in (ap (λ (d : NetworkEntry L). d.came) is ∙ still.0, ap (λ (d : NetworkEntry L). d.left) is ∙ still.1)

pub still_known : {L : Type 0} (before later : NetworkEntry L) → later ≡ before → IsStill before later
still_known {L} before later is = (ap (λ (d : NetworkEntry L). d.came) is, ap (λ (d : NetworkEntry L). d.left) is)

-- which connections may be closed after a given outcome
may_leave : {L : Type 0} (stream : Stream L) (why : CloseReason) (client : Client L) → EndsFor stream why client → MayBeClosed stream why client
may_leave stream Done client ends = ends
may_leave stream broken_off client ends = ends
may_leave stream Unreadable client ends = tt
may_leave stream TimedOut client ends = absurd ends
may_leave stream Evicted client ends = absurd ends
may_leave stream Closing client ends = absurd ends

-- the system had no descriptor for another connection
pub still_full : {L : Type 0} (before later : NetworkEntry L) → later ≡ after_accept Full before → IsStill before later
still_full {L} before later is = (ap (λ (d : NetworkEntry L). d.came) is, ap (λ (d : NetworkEntry L). d.left) is)

-- ---- the steps of a round

module _ {L : Type 0} (gated : Bool) (stream : Stream L) where
  -- connections that timed out were closed, and more were accepted
  pub course_round : (from : Option ℕ) (before now gone later : NetworkEntry L) (old left new : ConnectionTable L) (moment : ℕ) → now ≡ with_moment before moment
      → AreClosedByRule (IsClosedByRule (timeout_rule moment)) now gone old left → All (λ (c : Client L). moment - c.since < timeout) left.clients.items
      → Trace gated stream [] (Some moment) (Some moment) gone later left.clients.items new.clients.items → Trace gated stream [] from (Some moment) before later old.clients.items new.clients.items
  course_round from before now gone later old left new moment shown late none trace =
      trace_then gated stream [] [] from (Some moment) (Some moment) before gone later old.clients.items left.clients.items new.clients.items
      (course_look gated stream from moment before now gone old left shown late none) trace

  -- then there was a wait, which may have failed
  pub course_wait : (result : Result (Unit {0}) Broken) (from to : Option ℕ) (before mid later : NetworkEntry L) (old new : List (Client L))
      → later ≡ after_wait result mid → Trace gated stream [] from to before mid old new
      → Trace gated stream [] from to before later old new
  course_wait (Ok value) from to before mid later old new is trace =
      trace_then gated stream [] [] from to to before mid later old new new trace (trace_none gated stream to mid later new (ap (λ (d : NetworkEntry L). d.events) is))
  course_wait (Err broken) from to before mid later old new is trace = trace_then gated stream [] [] from to to before mid later old new new trace (course_fails gated stream to mid later new is)

module _ {L : Type 0} (settings : ServerSettingsEntry) (stream : Stream L) where
  -- ---- a table

  -- no connection was accepted, and each open one is unchanged, or was closed
  pub goes_with : (before later : NetworkEntry L) (old new : ConnectionTable L) (gone : List (Removed L)) → later.came ≡ before.came
      → RemovesMore before.left later.left gone → new.counted ≡ old.counted + 0
      → ((all_connections : List (ServedConnection L)) (exchanges : List Exchange) (left : List (Removed L)) → AreOpen settings stream all_connections exchanges left old.came old.clients.items
      → AreOpen settings stream all_connections exchanges (left ++ gone) new.came new.clients.items)
      → GoesOn settings stream [] before later old new
  goes_with before later old new gone same back counted stay = record {
    all_accepted = [];
    told = grows_same before.came later.came same;
    counted = counted;
    gone = gone;
    back = back;
    own = λ all_connections earlier left are. (
      all_connections,
      sym (append-nil (map (λ (g : ServedConnection L). g.came) all_connections)),
      subst (λ (vs : List Exchange). AreOpen settings stream all_connections vs (left ++ gone) new.came new.clients.items) (sym (append-nil earlier)) (stay all_connections earlier left are),
    );
  }

  pub goes_none : (before later : NetworkEntry L) (table : ConnectionTable L) → IsStill before later → GoesOn settings stream [] before later table table
  goes_none before later table (same, still) = goes_with before later table table [] same (grows_same before.left later.left still) (omega arith) (λ all_connections exchanges left are.
      subst (λ (ls : List (Removed L)). AreOpen settings stream all_connections exchanges ls table.came table.clients.items) (sym (append-nil left)) are)

  pub goes_then : (first next : List Exchange) (before mid later : NetworkEntry L) (old went new : ConnectionTable L) → GoesOn settings stream first before mid old went
      → GoesOn settings stream next mid later went new → GoesOn settings stream (first ++ next) before later old new
  goes_then first next before mid later old went new a b = record {
    all_accepted = a.all_accepted ++ b.all_accepted;
    told = grows_then before.came mid.came later.came a.all_accepted b.all_accepted a.told b.told;
    counted = let sum = clients_append a.all_accepted b.all_accepted in omega (arith, a.counted, b.counted, sum);
    gone = a.gone ++ b.gone;
    back = grows_then before.left mid.left later.left a.gone b.gone a.back b.back;
    own = λ all_connections earlier left are.
        let (some, some_came, some_are) = a.own all_connections earlier left are in
        let (all, all_came, all_are) = b.own some (earlier ++ first) (left ++ a.gone) some_are in (
          all,
          all_came ∙ ap (λ (cs : List (Accepted L)). cs ++ b.all_accepted) some_came ∙ append_assoc (map (λ (g : ServedConnection L). g.came) all_connections) a.all_accepted b.all_accepted,
          subst (λ (ls : List (Removed L)). AreOpen settings stream all (earlier ++ (first ++ next)) ls new.came new.clients.items) (append_assoc left a.gone b.gone)
              (subst (λ (vs : List Exchange). AreOpen settings stream all vs (left ++ a.gone ++ b.gone) new.came new.clients.items) (append_assoc earlier first next) all_are),
        );
  }

  -- connections were closed
  module _ (Goes : List (Client L) → Removed L → List (Client L) → Type 0) (outs : Outs Goes) where
    stay : (gone : List (Removed L)) (all_connections : List (ServedConnection L)) (exchanges : List Exchange) (left : List (Removed L)) (came : ℕ) (old new : List (Client L))
        → FoldsTo Goes old gone new
        → AreOpen settings stream all_connections exchanges left came old → AreOpen settings stream all_connections exchanges (left ++ gone) came new
    stay [] all_connections exchanges left came old new same are =
        subst (λ (ls : List (Removed L)). AreOpen settings stream all_connections exchanges ls came new) (sym (append-nil left))
        (subst (λ (cs : List (Client L)). AreOpen settings stream all_connections exchanges left came cs) same are)
    stay (removed ∷ gone) all_connections exchanges left came old new (mid, goes, others) are =
        subst (λ (ls : List (Removed L)). AreOpen settings stream all_connections exchanges ls came new) (append_assoc left (removed ∷ []) gone)
        (stay gone all_connections exchanges (left ++ removed ∷ []) came mid new others (step old mid goes are))
      where
        step : (clients rest : List (Client L)) → Goes clients removed rest → AreOpen settings stream all_connections exchanges left came clients
            → AreOpen settings stream all_connections exchanges (left ++ removed ∷ []) came rest
        step [] rest it is_in = let out = outs [] removed rest it in absurd (omega (arith, out.out.within))
        step (c ∷ cs) rest it is_in =
            let out = outs (c ∷ cs) removed rest it in
            let client = get_or (c ∷ cs) out.place c in
            subst (λ (rs : List (Client L)). AreOpen settings stream all_connections exchanges (left ++ removed ∷ []) came rs) (sym out.out.left)
            (subst (λ (l : Removed L). AreOpen settings stream all_connections exchanges (left ++ l ∷ []) came (remove (c ∷ cs) out.place)) (sym (out.out.is c))
            (one_left settings stream all_connections exchanges left came (c ∷ cs) out.place client out.why is_in out.out.within (λ d. get_or_default (c ∷ cs) out.place c d out.out.within)
            (out.may stream client)))

    pub goes_without : (before later : NetworkEntry L) (old new : ConnectionTable L) → AreClosedByRule Goes before later old new → GoesOn settings stream [] before later old new
    goes_without before later old new it =
        goes_with before later old new it.gone (ap (λ (d : NetworkEntry L). d.came) it.back) (ap (λ (d : NetworkEntry L). d.left) it.back)
        (omega (arith, it.counted)) (λ all_connections exchanges left are.
        stay it.gone all_connections exchanges left new.came old.clients.items new.clients.items it.each
        (subst (λ (n : ℕ). AreOpen settings stream all_connections exchanges left n old.clients.items) (sym it.came) are))

  -- connections that timed out were closed, and more were accepted
  pub goes_round : (before now gone later : NetworkEntry L) (old left new : ConnectionTable L) (moment : ℕ) → now ≡ with_moment before moment
      → AreClosedByRule (IsClosedByRule (timeout_rule moment)) now gone old left
      → GoesOn settings stream [] gone later left new → GoesOn settings stream [] before later old new
  goes_round before now gone later old left new moment shown late more =
      goes_then [] [] before now later old old new (goes_none before now old (ap (λ (d : NetworkEntry L). d.came) shown, ap (λ (d : NetworkEntry L). d.left) shown))
      (goes_then [] [] now gone later old left new (goes_without (IsClosedByRule (timeout_rule moment)) (late_outs moment) now gone old left late) more)

  -- then there was a wait, which may have failed
  pub goes_wait : (result : Result (Unit {0}) Broken) (before mid later : NetworkEntry L) (old new : ConnectionTable L) → later ≡ after_wait result mid → GoesOn settings stream [] before mid old new
      → GoesOn settings stream [] before later old new
  goes_wait result before mid later old new is more = goes_then [] [] before mid later old new new more (goes_none mid later new (still_wait result mid later is))

  -- the clock failed
  pub goes_failure : (before later : NetworkEntry L) (table : ConnectionTable L) → later ≡ with_failure before → GoesOn settings stream [] before later table table
  goes_failure before later table is = goes_none before later table (ap (λ (d : NetworkEntry L). d.came) is, ap (λ (d : NetworkEntry L). d.left) is)

  -- a connection was closed, for a permitted reason
  pub goes_less : (before later : NetworkEntry L) (old new : ConnectionTable L) (place : ℕ) (client : Client L) (why : CloseReason)
      → later ≡ with_removed before (removed_of client why) → place < length old.clients.items
      → ((d : Client L) → client ≡ get_or old.clients.items place d) → MayBeClosed stream why client → new.clients.items ≡ remove old.clients.items place
      → new.came ≡ old.came → new.counted ≡ old.counted
      → GoesOn settings stream [] before later old new
  goes_less before later old new place client why back within here may items same_came same_counted =
      goes_with before later old new (removed_of client why ∷ []) (ap (λ (d : NetworkEntry L). d.came) back) (ap (λ (d : NetworkEntry L). d.left) back)
      (omega (arith, same_counted)) (λ all_connections exchanges left are.
      are_same settings stream all_connections exchanges (left ++ removed_of client why ∷ []) old.came new.came (remove old.clients.items place) new.clients.items same_came items
      (one_left settings stream all_connections exchanges left old.came old.clients.items place client why are within here may))

  -- a connection was accepted
  pub goes_more : (before later : NetworkEntry L) (old new : ConnectionTable L) (start : Accepted L) (now : ℕ) → later ≡ after_accept (One start) before → HasTaken (stream.taken start.stream) []
      → new.came ≡ old.came + 1 → new.counted ≡ old.counted + count_at start.listener
      → (client : Client L) × (new.clients.items ≡ old.clients.items ++ client ∷ []) × IsNew start old.came now client × IsOf stream start.stream client
      → GoesOn settings stream [] before later old new
  goes_more before later old new start now admitted fresh one counted (client, is, is_new, own) = record {
    all_accepted = start ∷ [];
    told = ap (λ (d : NetworkEntry L). d.came) admitted;
    counted = omega (arith, counted);
    gone = [];
    back = grows_same before.left later.left (ap (λ (d : NetworkEntry L). d.left) admitted);
    own = λ all_connections earlier left are. (
      with_one settings stream all_connections start,
      map_push (λ (g : ServedConnection L). g.came) all_connections (record { came = start; last = start.stream }),
      subst (λ (vs : List Exchange). AreOpen settings stream (with_one settings stream all_connections start) vs (left ++ []) new.came new.clients.items) (sym (append-nil earlier))
          (subst (λ (ls : List (Removed L)). AreOpen settings stream (with_one settings stream all_connections start) earlier ls new.came new.clients.items) (sym (append-nil left))
          (are_same settings stream (with_one settings stream all_connections start) earlier left (old.came + 1) new.came (old.clients.items ++ client ∷ []) new.clients.items one is
          (one_entered settings stream all_connections earlier left old.came old.clients.items start client are fresh is_new.at is_new.over is_new.numbered is_new.unanswered own))),
    );
  }

  -- ---- a connection is serviced

  -- the connection has the same response as before, or still has none
  had_still : (connection : ServedConnection L) (exchanges : List Exchange) (old new : Client L) → answer_of new ≡ answer_of old
      → ((start : L) → IsOf stream start old → IsOf stream start new) → IsOpenConnection stream exchanges connection old
      → HadExchange settings stream connection (exchanges_of old.number exchanges)
      → IsOf stream connection.came.stream new × HasExchangeFor (answer_of new) (exchanges_of old.number (exchanges ++ [])) × ((exchange : Exchange)
      → exchanges_of old.number (exchanges ++ []) ≡ exchange ∷ [] → IsGathered settings stream connection.came exchange)
  had_still connection exchanges old new same is stood went =
      let under = same_under old.number exchanges [] (All-nil (λ (v : Exchange). v.number ≡ old.number → ⊥)) in (
        is connection.came.stream stood.own,
        subst (λ (vs : List Exchange). HasExchangeFor (answer_of new) vs) (sym under) (subst (λ (a : Option (List ℕ)). HasExchangeFor a (exchanges_of old.number exchanges)) (sym same) stood.belongs),
        λ exchange one. gathered_for settings stream connection (exchanges_of old.number exchanges) exchange went (sym under ∙ one),
      )

  -- the connection's request, which is complete, was processed
  had_turn : {S R : Type 0} (view : ServedView S R) (connection : ServedConnection L) (exchanges : List Exchange) (now : ℕ) (old new : Client L) (before later : ServedOffice S R)
      → (turn : HasResponded settings stream view now old new before later)
      → ((start : L) → IsOf stream start old → IsOf stream start new) → IsOpenConnection stream exchanges connection old
      → IsOf stream connection.came.stream new × HasExchangeFor (answer_of new) (exchanges_of old.number (exchanges ++ turn.exchange ∷ []))
      × ((exchange : Exchange) → exchanges_of old.number (exchanges ++ turn.exchange ∷ []) ≡ exchange ∷ [] → IsGathered settings stream connection.came exchange)
  had_turn view connection exchanges now old new before later turn is stood =
      let none : exchanges_of old.number exchanges ≡ [] =
      subst (λ (a : Option PendingResponse). HasExchangeFor (option_map (λ (x : PendingResponse). x.bytes.items) a) (exchanges_of old.number exchanges)) turn.unanswered stood.belongs in
      let first = first_under old.number exchanges turn.exchange none turn.number in
      let gathered : IsGathered settings stream connection.came turn.exchange = record {
        listener = turn.listener ∙ stood.listener;
        received = turn.received;
        own = heard_more stream connection.came.stream old.stream turn.received old.got.items turn.exchange.got (is_heard stream connection.came.stream old turn.unanswered stood.own) turn.own;
        come = subst (λ (d : Listener). HasComeAt d settings (stream.held turn.received) turn.exchange.got) stood.listener turn.come;
      } in (
        is connection.came.stream stood.own,
        subst (λ (a : Option (List ℕ)). HasExchangeFor a (exchanges_of old.number (exchanges ++ turn.exchange ∷ []))) (sym turn.belongs) (turn.exchange, first, refl),
        λ exchange one. let same : turn.exchange ≡ exchange = cc (first, one) in subst (λ (v : Exchange). IsGathered settings stream connection.came v) same gathered,
      )

  -- a table in which one connection is changed
  abbrev pub room_with : ConnectionTable L → ℕ → Client L → ConnectionTable L
  room_with table place client = record table { clients = with_item table.clients place client }

  -- a connection was serviced, with the given exchanges
  abbrev pub ServesJust : {S R : Type 0} → ServedView S R → List Exchange → NetworkEntry L → NetworkEntry L → ConnectionTable L → ConnectionTable L → ServedOffice S R → ServedOffice S R → Type 0
  ServesJust view exchanges before later old new at behind = (it : GoesOnServing settings stream view before later old new at behind) × (it.exchanges ≡ exchanges)

  -- a connection was serviced, and is back in its place
  pub goes_on_at : {S R : Type 0} (view : ServedView S R) (before later : NetworkEntry L) (table after : ConnectionTable L) (place : ℕ) (old new : Client L)
      (at behind : ServedOffice S R) (now : ℕ) (exchanges : List Exchange) → IsStill before later
      → place < length table.clients.items → old ≡ get_or table.clients.items place old → new.listener ≡ old.listener → new.number ≡ old.number
      → ((start : L) → IsOf stream start old → IsOf stream start new)
      → HasExchanges settings stream view now exchanges old new at behind → after.clients.items ≡ set table.clients.items place new → after.came ≡ table.came → after.counted ≡ table.counted
      → ServesJust view exchanges before later table after at behind
  goes_on_at view before later table after place old new at behind now (exchange ∷ []) (same_in, same_left) within here listener number is (turn, one) items came counted = (
    record {
      exchanges = turn.exchange ∷ [];
      each = (behind, turn.served, refl);
      goes_on = record {
        all_accepted = [];
        told = grows_same before.came later.came same_in;
        counted = omega (arith, counted);
        gone = [];
        back = grows_same before.left later.left same_left;
        own = λ all_connections earlier left are.
            let (all, all_came, all_are) = one_went_on settings stream all_connections earlier (turn.exchange ∷ []) left table.came table.clients.items place old new are within here listener number
            (All-push (λ (v : Exchange). v.number ≡ old.number) [] turn.exchange (All-nil (λ (v : Exchange). v.number ≡ old.number)) turn.number)
            (λ connection stood went. had_turn view connection earlier now old new at behind turn is stood) in (
              all,
              all_came ∙ sym (append-nil (map (λ (g : ServedConnection L). g.came) all_connections)),
              subst (λ (ls : List (Removed L)). AreOpen settings stream all (earlier ++ turn.exchange ∷ []) ls after.came after.clients.items) (sym (append-nil left))
                  (are_same settings stream all (earlier ++ turn.exchange ∷ []) left table.came after.came (set table.clients.items place new) after.clients.items came items all_are),
            );
      };
    },
    ap (λ (v : Exchange). v ∷ []) one,
  )
  goes_on_at view before later table after place old new at behind now [] (same_in, same_left) within here listener number is (same, answer) items came counted = (
    record {
      exchanges = [];
      each = sym same;
      goes_on = record {
        all_accepted = [];
        told = grows_same before.came later.came same_in;
        counted = omega (arith, counted);
        gone = [];
        back = grows_same before.left later.left same_left;
        own = λ all_connections earlier left are.
            let (all, all_came, all_are) = one_went_on settings stream all_connections earlier [] left table.came table.clients.items place old new are within here listener number
            (All-nil (λ (v : Exchange). v.number ≡ old.number))
            (λ connection stood went. had_still connection earlier old new answer is stood went) in (
              all,
              all_came ∙ sym (append-nil (map (λ (g : ServedConnection L). g.came) all_connections)),
              subst (λ (ls : List (Removed L)). AreOpen settings stream all (earlier ++ []) ls after.came after.clients.items) (sym (append-nil left))
                  (are_same settings stream all (earlier ++ []) left table.came after.came (set table.clients.items place new) after.clients.items came items all_are),
            );
      };
    },
    refl,
  )
  goes_on_at view before later table after place old new at behind now (exchange ∷ other ∷ more) still within here listener number is never items came counted = absurd never

  -- ---- an office that serves the connections

  module _ {S R : Type 0} (view : ServedView S R) where
    abbrev gated : Bool
    gated = is_some settings.clients.gate

    -- the open connections change this way, whatever time the clock most recently returned
    abbrev pub CourseBy : List Exchange → NetworkEntry L → NetworkEntry L → List (Client L) → List (Client L) → Type 0
    CourseBy exchanges before later old new = (from : Option ℕ) → (to : Option ℕ) × Trace gated stream (map response_at exchanges) from to before later old new

    -- no request was processed
    pub serves_none : (before later : NetworkEntry L) (old new : ConnectionTable L) (office : ServedOffice S R) → GoesOn settings stream [] before later old new
        → CourseBy [] before later old.clients.items new.clients.items
        → ServesFrom settings stream view before later old new office office
    serves_none before later old new office goes trace = λ from. let (to, it) = trace from in (to, record { exchanges = []; each = refl; goes_on = goes }, it)

    pub serves_then : (before mid later : NetworkEntry L) (old went new : ConnectionTable L) (at between behind : ServedOffice S R)
        → ServesFrom settings stream view before mid old went at between → ServesFrom settings stream view mid later went new between behind
        → ServesFrom settings stream view before later old new at behind
    serves_then before mid later old went new at between behind first next = λ from.
        let (between_shown, a, first_course) = first from in
        let (to, b, next_course) = next between_shown in (
          to,
          record {
            exchanges = a.exchanges ++ b.exchanges;
            each = folds_then (ServesExchange settings view) a.exchanges b.exchanges at between behind a.each b.each;
            goes_on = goes_then a.exchanges b.exchanges before mid later old went new a.goes_on b.goes_on;
          },
          subst (λ (ts : List ResponseAt). Trace gated stream ts from to before later old.clients.items new.clients.items) (sym (map-append response_at a.exchanges b.exchanges))
              (trace_then gated stream (map response_at a.exchanges) (map response_at b.exchanges) from between_shown to before mid later old.clients.items
              went.clients.items new.clients.items first_course next_course),
        )

    -- a connection had the given exchanges
    serves_just : (exchanges : List Exchange) (before later : NetworkEntry L) (old new : ConnectionTable L) (at behind : ServedOffice S R) → ServesJust view exchanges before later old new at behind
        → CourseBy exchanges before later old.clients.items new.clients.items → ServesFrom settings stream view before later old new at behind
    serves_just exchanges before later old new at behind (it, just) trace = λ from.
        let (to, so) = trace from in
        (to, it, subst (λ (vs : List Exchange). Trace gated stream (map response_at vs) from to before later old.clients.items new.clients.items) (sym just) so)

    -- what is known about the network is unchanged
    pub serves_still : (before later : NetworkEntry L) (table : ConnectionTable L) (office : ServedOffice S R) → later ≡ before
        → ServesFrom settings stream view before later table table office office
    serves_still before later table office is =
        serves_none before later table table office (goes_none before later table (still_known before later is))
        (λ from. (from, trace_none gated stream from before later table.clients.items (ap (λ (d : NetworkEntry L). d.events) is)))

    -- a connection that isn't open was reported
    pub serves_nobody : (number : ℕ) (before later : NetworkEntry L) (table : ConnectionTable L) (office : ServedOffice S R) → later ≡ after_ready (Some number) before
        → ServesFrom settings stream view before later table table office office
    serves_nobody number before later table office is =
        serves_none before later table table office (goes_none before later table (ap (λ (d : NetworkEntry L). d.came) is, ap (λ (d : NetworkEntry L). d.left) is))
        (λ from. (from, course_misses gated stream from number before later table.clients.items is))

    -- connections were closed until the bytes in memory were within the limit
    pub serves_within : (before later : NetworkEntry L) (old new : ConnectionTable L) (office : ServedOffice S R) → AreClosedByRule IsClosedForBytes before later old new
        → ServesFrom settings stream view before later old new office office
    serves_within before later old new office gone =
        serves_none before later old new office (goes_without IsClosedForBytes bytes_outs before later old new gone)
        (λ from. (from, course_closes gated stream IsClosedForBytes from (bytes_due gated stream from) before later old new gone))

    -- ---- a connection that was reported was serviced

    -- the connection's exchanges match the responses listed
    had_turns : (gate : Option ℕ) (exchanges : List Exchange) (old new : Client L) (at behind : ServedOffice S R)
        → HasExchanges settings stream view (moment_of gate) exchanges old new at behind → IsAtGate gated gate exchanges
        → HadResponses gated gate (map response_at exchanges) old new
    had_turns gate [] old new at behind (same, answer) at_gate = answer
    had_turns gate (exchange ∷ []) old new at behind (turn, one) at_gate =
        (sym (ap (λ (v : Exchange). v.number) one) ∙ turn.number, turn.unanswered, turn.belongs ∙ ap (λ (v : Exchange). Some v.answer) one, at_gate)
    had_turns gate (exchange ∷ other ∷ more) old new at behind never at_gate = absurd never

    module _ (before ready : NetworkEntry L) (table : ConnectionTable L) (place number : ℕ) (old new : Client L) (at behind : ServedOffice S R)
        (named : ready ≡ after_ready (Some number) before) (within : place < length table.clients.items)
        (here : old ≡ get_or table.clients.items place old) (numbered : IsNumbered table.clients.items place number) (listener : new.listener ≡ old.listener) (same : new.number ≡ old.number)
        (is : (start : L) → IsOf stream start old → IsOf stream start new) where
      his_number : old.number ≡ number
      his_number = ap (λ (c : Client L). c.number) here ∙ numbered old

      named_still : (later : NetworkEntry L) → IsStill ready later → IsStill before later
      named_still later (in_same, left_same) = (in_same ∙ ap (λ (d : NetworkEntry L). d.came) named, left_same ∙ ap (λ (d : NetworkEntry L). d.left) named)

      serves_back : (result : Result (Option CloseReason) Broken) (later : NetworkEntry L) (taken back : ConnectionTable L)
          → (went : WasServiced gated settings stream view result ready later old new at behind)
          → CourseBy went.exchanges before later table.clients.items (set table.clients.items place new)
          → taken.clients.items ≡ remove table.clients.items place → back.clients.items ≡ insert taken.clients.items place new → back.came ≡ table.came → back.counted ≡ table.counted
          → ServesFrom settings stream view before later table back at behind
      serves_back result later taken back went trace out items came counted =
          let again : back.clients.items ≡ set table.clients.items place new =
          items ∙ ap (λ (cs : List (Client L)). insert cs place new) out ∙ set_again table.clients.items place new within in
          serves_just went.exchanges before later table back at behind
          (goes_on_at view before later table back place old new at behind (moment_of went.gate) went.exchanges
          (named_still later (still_comes stream (map response_at went.exchanges) old new result went.gate ready later went.comes)) within here listener same is went.had again came counted)
          (subst (λ (cs : List (Client L)). CourseBy went.exchanges before later table.clients.items cs) (sym again) trace)

      -- it is back in its place
      pub serves_stays : (later : NetworkEntry L) (taken back : ConnectionTable L) → WasServiced gated settings stream view (Ok None) ready later old new at behind
          → taken.clients.items ≡ remove table.clients.items place → back.clients.items ≡ insert taken.clients.items place new → back.came ≡ table.came → back.counted ≡ table.counted
          → ServesFrom settings stream view before later table back at behind
      serves_stays later taken back went out items came counted =
          serves_back (Ok None) later taken back went
          (λ from. course_stays gated stream from table.clients.items place number old new went.gate (map response_at went.exchanges) within here his_number (listener, same) is
          (had_turns went.gate went.exchanges old new at behind went.had went.at_gate) before ready later named went.comes) out items came counted

      -- the connection is back in its place, and the clock failed
      pub serves_stops : (broken : Broken) (later : NetworkEntry L) (taken back : ConnectionTable L) → WasServiced gated settings stream view (Err broken) ready later old new at behind
          → taken.clients.items ≡ remove table.clients.items place → back.clients.items ≡ insert taken.clients.items place new → back.came ≡ table.came → back.counted ≡ table.counted
          → ServesFrom settings stream view before later table back at behind
      serves_stops broken later taken back went out items came counted =
          serves_back (Err broken) later taken back went
          (λ from. course_stops gated stream from table.clients.items place number old new went.gate (map response_at went.exchanges) within here his_number (listener, same) is
          (had_turns went.gate went.exchanges old new at behind went.had went.at_gate) broken before ready later named went.comes) out items came counted

      -- it was closed
      pub serves_leaves : (why : CloseReason) (mid later : NetworkEntry L) (left : ConnectionTable L) → WasServiced gated settings stream view (Ok (Some why)) ready mid old new at behind
          → later ≡ with_removed mid (removed_of new why)
          → left.clients.items ≡ remove table.clients.items place → left.came ≡ table.came → left.counted ≡ table.counted → ServesFrom settings stream view before later table left at behind
      serves_leaves why mid later left went back items came counted =
          let stands = room_with table place new in
          let (it, just) = goes_on_at view before mid table stands place old new at behind (moment_of went.gate) went.exchanges
          (named_still mid (still_comes stream (map response_at went.exchanges) old new (Ok (Some why)) went.gate ready mid went.comes)) within here listener same is went.had refl refl refl in
          let (since, ends, known) = went.comes in
          serves_just went.exchanges before later table left at behind (
            record {
              exchanges = it.exchanges ++ [];
              each = folds_then (ServesExchange settings view) it.exchanges [] at behind behind it.each refl;
              goes_on = goes_then it.exchanges [] before mid later table stands left it.goes_on
                  (goes_less mid later stands left place new why back (omega (arith, within, length-set table.clients.items place new))
                  (λ d. sym (get_or-set_same table.clients.items place new d within))
                  (may_leave stream why new ends) (items ∙ sym (remove_set table.clients.items place new within)) came counted);
            },
            append-nil it.exchanges ∙ just,
          )
          (subst (λ (cs : List (Client L)). CourseBy went.exchanges before later table.clients.items cs) (sym items)
          (λ from. course_leaves gated stream from table.clients.items place number old new went.gate (map response_at went.exchanges) within here his_number (listener, same) is
          (had_turns went.gate went.exchanges old new at behind went.had went.at_gate) why before ready mid later named went.comes back))

      -- it was closed, or is back in its place
      pub serves_settled : (reason : Option CloseReason) (mid later : NetworkEntry L) (taken left : ConnectionTable L)
          → WasServiced gated settings stream view (Ok reason) ready mid old new at behind
          → taken.clients.items ≡ remove table.clients.items place → taken.came ≡ table.came → taken.counted ≡ table.counted → IsSettled reason place new mid later taken left
          → ServesFrom settings stream view before later table left at behind
      serves_settled (Some why) mid later taken left went out came counted (closed, still) =
          serves_leaves why mid later left went closed (ap (λ (t : ConnectionTable L). t.clients.items) still ∙ out) (ap (λ (t : ConnectionTable L). t.came) still ∙ came)
          (ap (λ (t : ConnectionTable L). t.counted) still ∙ counted)
      serves_settled None mid later taken left went out came counted (back, stands, gone) =
          serves_then before mid later table back left at behind behind (serves_stays mid taken back went out stands.clients (stands.came ∙ came) (stands.counted ∙ counted))
          (serves_within mid later back left behind gone)

    -- ---- a round

    -- no further request was processed
    pub serves_more : (before mid later : NetworkEntry L) (old went new : ConnectionTable L) (at behind : ServedOffice S R) → ServesFrom settings stream view before mid old went at behind
        → GoesOn settings stream [] mid later went new → CourseBy [] mid later went.clients.items new.clients.items → ServesFrom settings stream view before later old new at behind
    serves_more before mid later old went new at behind on more trace = serves_then before mid later old went new at behind behind on (serves_none mid later went new behind more trace)

    -- there was no room, so no connection was accepted
    pub nobody_served : (before : NetworkEntry L) (most : Option ℕ) (at : OfficeValue S) (recorder : R)
        → ServesRecorded settings stream view before before most at at recorder (Err ended.Memory) recorder
    nobody_served before most at recorder = record {
      all_connections = [];
      exchanges = [];
      gone = [];
      came = grows_none before.came;
      back = grows_none before.left;
      few = none_few most;
      all = tt;
      went = (none_in settings stream).went;
      left = λ k d lt. absurd (omega (arith, lt));
      once = refl;
      closes = record {
        end = before;
        shown = None;
        rest = [];
        trace = trace_none gated stream None before before [] refl;
        closed = [];
        back = with_none before;
        each = refl;
        none = tt;
        idle = tt;
      };
      moved = tt;
      kept = (with_none_kept at recorder).kept;
      each = refl;
      kept_recorder = refl;
      keeps = λ clean is_open earlier rests. (kept_of settings view earlier [] at recorder (with_none_kept at recorder) refl clean is_open rests).kept;
      recorded = λ clean is_open earlier rests. (kept_of settings view earlier [] at recorder (with_none_kept at recorder) refl clean is_open rests).recorded;
    }
      where
        none_few : (most : Option ℕ) → IfSome most (λ n. 0 ≤ n)
        none_few None = tt
        none_few (Some n) = omega arith

    -- a closed office stays as it is
    pub serving_closed : (before later : NetworkEntry L) (old new : ConnectionTable L) (at : OfficeValue S) (kept : MemoryEntry R) (behind : ServedOffice S R)
        → ServesFrom settings stream view before later old new (served_office at kept) behind
        → at.closed ≡ true → behind.office ≡ at
    serving_closed before later old new at kept behind on closed = let (to, it, trace) = on None in let away = turned_away settings view it.exchanges
        (served_office at kept) behind it.each closed in away.1

    pub serving_clean : (before later : NetworkEntry L) (old new : ConnectionTable L) (at : OfficeValue S) (kept : MemoryEntry R) (behind : ServedOffice S R)
        → ServesFrom settings stream view before later old new (served_office at kept) behind
        → HasCleanDisk (view.state_of behind.office.held) → HasCleanDisk (view.state_of at.held)
    serving_clean before later old new at kept behind on clean = let (to, it, trace) = on None in cleans settings view it.exchanges (served_office at kept) behind it.each clean

    -- if the table was sound, it is still sound later
    pub sound_later : (before later : NetworkEntry L) (old new : ConnectionTable L) (at behind : ServedOffice S R) → ServesFrom settings stream view before later old new at behind
        → IsSound settings stream old → IsSound settings stream new
    sound_later before later old new at behind on (all_connections, exchanges, left, are) =
        let (to, it, trace) = on None in let (all, came, now) = it.goes_on.own all_connections exchanges left are in (all, exchanges ++ it.exchanges, left ++ it.goes_on.gone, now)

    -- no connection is still open, so each was handed back
    none_is_in : (k : ℕ) (clients : List (Client L)) → clients ≡ [] → IsOpenUnder clients k → ⊥
    none_is_in k clients none it = let some = it.within in let zero : length clients ≡ 0 = ap (λ (cs : List (Client L)). length cs) none in omega (arith, some, zero)

    -- what happened to all accepted connections, if none was open at first and those open at the end were closed
    pub hall_serves : (before end later : NetworkEntry L) (most : Option ℕ) (old went new : ConnectionTable L) (at : OfficeValue S) (recorder : R) (kept : MemoryEntry R)
        (behind : ServedOffice S R) (result : Result (Unit {0}) ServeError)
        → kept ≡ (with_none_kept at recorder).kept → ServesFrom settings stream view before end old went (served_office at kept) behind → AreClosedByRule IsClosed end later went new
        → old.clients.items ≡ [] → old.came ≡ 0 → old.counted ≡ 0 → new.clients.items ≡ [] → OnOk result (went.clients.items ≡ []) → IfSome most (λ n. new.counted ≤ n)
        → OnOk result (IfSome most (λ n. new.counted ≡ n)) → OnMoved result (list_all is_idle went.clients.items ≡ true) → OnMoved result (settings.whole ≢ Some true)
        → ServesRecorded settings stream view before later most at behind.office recorder result behind.kept.recorder
    hall_serves before end later most old went new at recorder kept behind result unkept on closing none first uncounted empty nobody few all idle moved =
        let (shown, it, trace) = on None in
        let goes = goes_then it.exchanges [] before end later old went new it.goes_on (goes_without IsClosed closed_outs end later went new closing) in
        let each = subst (λ (k : MemoryEntry R). FoldsTo (ServesExchange settings view) (served_office at k) it.exchanges behind) unkept it.each in
        let (all_connections, came, are_so) = goes.own [] [] [] (are_same settings stream [] [] [] 0 old.came [] old.clients.items first none (none_in settings stream)) in
        let are = subst (λ (vs : List Exchange). AreOpen settings stream all_connections vs goes.gone new.came new.clients.items) (append-nil it.exchanges) are_so in
        let sum = goes.counted in
        let counted : new.counted ≡ clients_among (map (λ (g : ServedConnection L). g.came) all_connections) =
        subst (λ (cs : List (Accepted L)). new.counted ≡ clients_among cs) (sym came) (omega (arith, sum, uncounted)) in
        record {
          all_connections = all_connections;
          exchanges = it.exchanges;
          gone = goes.gone;
          came = subst (λ (cs : List (Accepted L)). AcceptsMore before.came later.came cs) (sym came) goes.told;
          back = goes.back;
          few = subst (λ (m : ℕ). IfSome most (λ n. m ≤ n)) counted few;
          all = subst (λ (m : ℕ). OnOk result (IfSome most (λ n. m ≡ n))) counted all;
          went = are.went;
          left = λ k d lt. out goes.gone it.exchanges k (get_or all_connections k d) (are.left k d lt);
          once = let zero : length new.clients.items ≡ 0 = ap (λ (cs : List (Client L)). length cs) empty in omega (arith, are.sum, zero);
          closes = record {
            end = end;
            shown = shown;
            rest = went.clients.items;
            trace = subst (λ (cs : List (Client L)). Trace gated stream (map response_at it.exchanges) None shown before end cs went.clients.items) none trace;
            closed = closing.gone;
            back = closing.back;
            each = subst (λ (cs : List (Client L)). FoldsTo IsClosed went.clients.items closing.gone cs) empty closing.each;
            none = nobody;
            idle = idle;
          };
          moved = moved;
          kept = behind.kept;
          each = each;
          kept_recorder = refl;
          keeps = λ clean is_open earlier rests. (kept_of settings view earlier it.exchanges at recorder behind each clean is_open rests).kept;
          recorded = λ clean is_open earlier rests. (kept_of settings view earlier it.exchanges at recorder behind each clean is_open rests).recorded;
        }
      where
        out : (gone : List (Removed L)) (exchanges : List Exchange) (k : ℕ) (connection : ServedConnection L) → IsOpenUnder new.clients.items k ⊎ WasClosed stream gone exchanges k connection
            → WasClosed stream gone exchanges k connection
        out gone exchanges k connection (inl is_in) = absurd (none_is_in k new.clients.items empty is_in)
        out gone exchanges k connection (inr left) = left

-- ---- connections to which nothing was sent

-- an empty table is sound
pub sound_empty : {L : Type 0} (settings : ServerSettingsEntry) (stream : Stream L) (table : ConnectionTable L) → table.clients.items ≡ [] → table.came ≡ 0 → IsSound settings stream table
sound_empty {L} settings stream table none first = ([], [], [], are_same settings stream [] [] [] 0 table.came [] table.clients.items first none (none_in settings stream))

-- in a sound table, nothing has been sent to a connection without a response
pub untold_at : {L : Type 0} (settings : ServerSettingsEntry) (stream : Stream L) (table : ConnectionTable L) (place : ℕ) (client : Client L)
    → IsSound settings stream table → place < length table.clients.items
    → client ≡ get_or table.clients.items place client → HasSentNothing stream client
untold_at {L} settings stream table place client (all_connections, exchanges, left, are) within at none =
    let here = get_or_read table.clients.items place client within at client in
    let some_guest : ServedConnection L = record { came = record { listener = client.listener; stream = client.stream }; last = client.stream } in
    let stood = are.stand place client within some_guest in
    let own = subst (λ (c : Client L). IsOf stream (get_or all_connections c.number some_guest).came.stream c) (sym here) stood.own in
    let received = is_heard stream (get_or all_connections client.number some_guest).came.stream client none own in
    received.untold

-- ---- how many clients should be accepted

pub most_few : (connections : Option ℕ) (most came : ℕ) → most ≡ unwrap_or connections (2 ^ 64 - 1) → came ≤ most → IfSome connections (λ n. came ≤ n)
most_few None most came is few = tt
most_few (Some n) most came is few = omega (arith, is, few)

pub most_all : (connections : Option ℕ) (most came : ℕ) → most ≡ unwrap_or connections (2 ^ 64 - 1) → came ≤ most → most ≤ came → IfSome connections (λ n. came ≡ n)
most_all None most came is few all = tt
most_all (Some n) most came is few all = omega (arith, is, few, all)

-- no more clients were accepted than requested, even if connections were closed after that
pub few_closed : (connections : Option ℕ) (most none came closed : ℕ) → most ≡ unwrap_or connections (2 ^ 64 - 1) → none ≡ 0 → (none ≤ most → came ≤ most)
    → closed ≡ came → IfSome connections (λ n. closed ≤ n)
few_closed connections most none came closed is first few same = let all = few (omega (arith, first)) in most_few connections most closed is (omega (arith, all, same))

-- all requested clients were accepted, if nothing failed
pub all_closed : {E : Type 0} (result : Result (Unit {0}) E) (connections : Option ℕ) (most none came closed : ℕ) → most ≡ unwrap_or connections (2 ^ 64 - 1)
    → none ≡ 0 → (none ≤ most → came ≤ most) → closed ≡ came → OnOk result (most ≤ came)
    → OnOk result (IfSome connections (λ n. closed ≡ n))
all_closed (Ok value) connections most none came closed is first few same all = let at_most = few (omega (arith, first)) in most_all connections most closed is
    (omega (arith, at_most, same)) (omega (arith, all, same))
all_closed (Err why) connections most none came closed is first few same all = tt

-- ---- calls to the network

module _ {L : Type 0} where
  -- an open connection was serviced: either no call failed, or only the clock did
  pub called_well : (stream : Stream L) (turns : List ResponseAt) (old new : Client L) (next : Option CloseReason) (gate : Option ℕ) (before later : NetworkEntry L)
      → IsServiceOutcome stream turns old new (Ok next) (with_gate gate before) later → IsUnfailed before later
  called_well stream turns old new None gate before later (inl (none, since, is)) =
      let still = gate_still gate before in (ap (λ (d : NetworkEntry L). d.failed) is ∙ still.2, ap (λ (d : NetworkEntry L). d.waits) is ∙ still.3)
  called_well stream turns old new None gate before later (inr (one, is)) =
      let still = gate_still gate before in (ap (λ (d : NetworkEntry L). d.failed) is ∙ still.2, ap (λ (d : NetworkEntry L). d.waits) is ∙ still.3)
  called_well stream turns old new (Some why) gate before later (since, ends, is) =
      let still = gate_still gate before in (ap (λ (d : NetworkEntry L). d.failed) is ∙ still.2, ap (λ (d : NetworkEntry L). d.waits) is ∙ still.3)

  pub called_in_vain : (stream : Stream L) (turns : List ResponseAt) (old new : Client L) (broken : Broken) (gate : Option ℕ) (before later : NetworkEntry L)
      → IsServiceOutcome stream turns old new (Err broken) (with_gate gate before) later
      → (later.failed ≡ one_more before.failed) × (later.waits ≡ before.waits)
  called_in_vain stream turns old new broken gate before later (since, is) =
      let still = gate_still gate before in (ap (λ (d : NetworkEntry L). d.failed) is ∙ ap one_more still.2, ap (λ (d : NetworkEntry L). d.waits) is ∙ still.3)

  -- a connection was reported as ready
  pub unfailed_ready : (result : Option ℕ) (before mid later : NetworkEntry L) → IsUnfailed before mid → later ≡ after_ready result mid → IsUnfailed before later
  unfailed_ready None before mid later (failed, waits) is = (ap (λ (d : NetworkEntry L). d.failed) is ∙ failed, ap (λ (d : NetworkEntry L). d.waits) is ∙ waits)
  unfailed_ready (Some number) before mid later (failed, waits) is = (ap (λ (d : NetworkEntry L). d.failed) is ∙ failed, ap (λ (d : NetworkEntry L). d.waits) is ∙ waits)

  pub unfailed_then : {A : Type 0} (result : Result A Broken) (before mid later : NetworkEntry L) → IsUnfailed before mid → IsCalled result mid later → IsCalled result before later
  unfailed_then result before mid later (failed, waits) (failed_then, waits_then) = (failed_then ∙ ap (failed_after result) failed, waits_then ∙ waits)

  unfailed_leavers : (before later : NetworkEntry L) (old new : ConnectionTable L) (Goes : List (Client L) → Removed L → List (Client L) → Type 0)
      → AreClosedByRule Goes before later old new → IsUnfailed before later
  unfailed_leavers before later old new Goes it = (ap (λ (d : NetworkEntry L). d.failed) it.back, ap (λ (d : NetworkEntry L). d.waits) it.back)

  -- a connection that was serviced was settled
  pub settled_still : (reason : Option CloseReason) (place : ℕ) (client : Client L) (before later : NetworkEntry L) (old new : ConnectionTable L) → IsSettled reason place client before later old new
      → IsUnfailed before later × (new.came ≡ old.came) × (new.counted ≡ old.counted)
  settled_still (Some why) place client before later old new (is, still) =
      ((ap (λ (d : NetworkEntry L). d.failed) is, ap (λ (d : NetworkEntry L). d.waits) is), ap (λ (t : ConnectionTable L). t.came) still, ap (λ (t : ConnectionTable L). t.counted) still)
  settled_still None place client before later old new (back, stands, gone) =
      (unfailed_leavers before later back new IsClosedForBytes gone, gone.came ∙ stands.came, gone.counted ∙ stands.counted)

-- ---- how many waits there were

pub more_by_none : (count : Option ℕ) → count ≡ option_map (λ n. n + 0) count
more_by_none None = refl
more_by_none (Some n) = ap Some (sym (add-zero n))

pub more_by_one : (first mid last : Option ℕ) (n : ℕ) → mid ≡ option_map (λ m. m + n) first → last ≡ one_more mid → last ≡ option_map (λ m. m + (n + 1)) first
more_by_one None mid last n so_far is = is ∙ ap one_more so_far
more_by_one (Some m) mid last n so_far is = is ∙ ap one_more so_far ∙ ap Some (omega arith)
