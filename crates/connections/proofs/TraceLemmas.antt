-- The table of connections, from one state to another, step by step.
use Rattle.std.proofs.Common.{◌≡◌, ◌<◌, ◌-◌, ◌∙◌, ◌∷◌, ◌++◌, Bool, false, true, ℕ, List, [], None, Option}
use Rattle.std.proofs.Common.{Some, ap, append-nil, get_or, inl, inr, length, map, option_map, refl, remove, set, subst, sym}
use Rattle.std.specs.Prelude.{Err, Ok}
use Rattle.std.specs.List.{All, FoldsTo, flat_map}
use Rattle.std.proofs.lemmas.List.Concat.{flat_map-append}
use Rattle.streams.specs.declared.streams.Broken.{Broken}
use Rattle.connections.specs.Clients.{IsNew, IsOf}
use Rattle.connections.specs.Closing.{AreClosedByRule, IsClosedByRule, IsClosedForBytes, IsEvicted, ClosesOne, eviction_rule, timeout_rule, timeout}
use Rattle.connections.specs.Traces.{Changes, IsServiceOutcome, Trace, EndsService, ServiceStep, HadResponses, IsEviction, Leads, ServiceEnd, TraceStep, ResponseAt, anew, closes, enters, events_of}
use Rattle.connections.specs.Traces.{fails, gate_events, goes_on, keeps_out, leaves, looks, makes_way, misses, service_end_events, scene, shown_after, stops, responses_at, waits, with_gate}
use Rattle.connections.specs.Removals.{removed_of}
use Rattle.connections.specs.Streams.{Stream}
use Rattle.connections.specs.Tables.{NetworkEntry, Event, after_accept, after_ready, followed, handed_back, named, showed, with_failure, with_removed, with_moment}
use Rattle.connections.specs.declared.client.Client.{Client}
use Rattle.connections.specs.declared.client.Accepted.{Accepted}
use Rattle.connections.specs.declared.network.AcceptOutcome.TheVariants.{Full, One}
use Rattle.connections.specs.declared.removed.Removed.{Removed}
use Rattle.connections.specs.declared.removed.CloseReason.{CloseReason}
use Rattle.connections.specs.declared.connection_table.ConnectionTable.{ConnectionTable}
use Rattle.connections.proofs.ClosingLemmas.{folds_then, more_then, none_more}

-- the events on a network: a connection was reported as ready, the clock may have been read at the gate, and then the given events followed
at_gate : {L : Type 0} (gate : Option ℕ) (before : NetworkEntry L) (number : ℕ) (rest : List (Event L))
    → option_map (λ (es : List (Event L)). es ++ rest) (with_gate gate (after_ready (Some number) before)).events ≡ option_map
    (λ (es : List (Event L)). es ++ (named number ∷ (gate_events gate ++ rest))) before.events
at_gate None before number rest = more_then before.events (named number ∷ []) rest
at_gate (Some now) before number rest =
    more_then (followed (named number) before.events) (showed now ∷ []) rest ∙ more_then before.events (named number ∷ []) (showed now ∷ rest)

module _ {L : Type 0} (gated : Bool) (stream : Stream L) where
  -- one part of a trace, followed by the next
  pub trace_then : (first next : List ResponseAt) (from mid to : Option ℕ) (before at later : NetworkEntry L) (old went new : List (Client L))
      → Trace gated stream first from mid before at old went → Trace gated stream next mid to at later went new → Trace gated stream (first ++ next) from to before later old new
  trace_then first next from mid to before at later old went new a b = record {
    steps = a.steps ++ b.steps;
    told = b.told ∙ ap (option_map (λ (es : List (Event L)). es ++ flat_map events_of b.steps)) a.told ∙ more_then before.events (flat_map events_of a.steps) (flat_map events_of b.steps)
        ∙ ap (λ (more : List (Event L)). option_map (λ (es : List (Event L)). es ++ more) before.events) (sym (flat_map-append events_of a.steps b.steps));
    had = flat_map-append responses_at a.steps b.steps ∙ ap (λ (ts : List ResponseAt). ts ++ flat_map responses_at b.steps) a.had ∙ ap (λ (ts : List ResponseAt). first ++ ts) b.had;
    each = folds_then (Leads gated stream) a.steps b.steps (scene from old) (scene mid went) (scene to new) a.each b.each;
  }

  -- nothing happened
  pub trace_none : (shown : Option ℕ) (before later : NetworkEntry L) (clients : List (Client L)) → later.events ≡ before.events → Trace gated stream [] shown shown before later clients clients
  trace_none shown before later clients same = record { steps = []; told = same ∙ sym (none_more before.events); had = refl; each = refl }

  -- one step
  pub course_one : (step : TraceStep L) (shown : Option ℕ) (before later : NetworkEntry L) (old new : List (Client L))
      → later.events ≡ option_map (λ (es : List (Event L)). es ++ events_of step) before.events
      → Changes gated stream step shown old new → Trace gated stream (responses_at step) shown (shown_after step shown) before later old new
  course_one step shown before later old new told changes = record {
    steps = step ∷ [];
    told = told ∙ ap (λ (more : List (Event L)). option_map (λ (es : List (Event L)). es ++ more) before.events) (sym (append-nil (events_of step)));
    had = append-nil (responses_at step);
    each = (scene (shown_after step shown) new, (refl, changes), refl);
  }

  -- the clock returned a time, and the connections that had timed out were closed
  pub course_look : (shown : Option ℕ) (now : ℕ) (before mid later : NetworkEntry L) (old new : ConnectionTable L) → mid ≡ with_moment before now
      → AreClosedByRule (IsClosedByRule (timeout_rule now)) mid later old new
      → All (λ (c : Client L). now - c.since < timeout) new.clients.items → Trace gated stream [] shown (Some now) before later old.clients.items new.clients.items
  course_look shown now before mid later old new is late none =
      course_one (looks now late.gone) shown before later old.clients.items new.clients.items
      (ap (λ (d : NetworkEntry L). d.events) late.back ∙ ap (λ (d : NetworkEntry L). option_map (λ (es : List (Event L)). es ++ map handed_back late.gone) d.events) is
      ∙ more_then before.events (showed now ∷ []) (map handed_back late.gone))
      (record { late = late.each; all = none })

  -- a call failed
  pub course_fails : (shown : Option ℕ) (before later : NetworkEntry L) (clients : List (Client L)) → later ≡ with_failure before → Trace gated stream [] shown shown before later clients clients
  course_fails shown before later clients is = course_one fails shown before later clients clients (ap (λ (d : NetworkEntry L). d.events) is) refl

  -- a connection that isn't open was reported
  pub course_misses : (shown : Option ℕ) (number : ℕ) (before later : NetworkEntry L) (clients : List (Client L)) → later ≡ after_ready (Some number) before
      → Trace gated stream [] shown shown before later clients clients
  course_misses shown number before later clients is = course_one (misses number) shown before later clients clients (ap (λ (d : NetworkEntry L). d.events) is) refl

  -- a connection was accepted
  pub course_enters : (now number : ℕ) (accepted : Accepted L) (before later : NetworkEntry L) (old new : List (Client L)) → later ≡ after_accept (One accepted) before
      → (client : Client L) × (new ≡ old ++ client ∷ []) × IsNew accepted number now client × IsOf stream accepted.stream client → Trace gated stream [] (Some now) (Some now) before later old new
  course_enters now number accepted before later old new is (client, more, fresh, own) =
      course_one (enters accepted) (Some now) before later old new (ap (λ (d : NetworkEntry L). d.events) is) (record {
        now = now;
        at = refl;
        client = client;
        is = more;
        fresh = record { at = fresh.at; over = fresh.over; numbered = refl; since = fresh.since; unheard = fresh.unheard; unanswered = fresh.unanswered; all_read = fresh.all_read };
        own = own;
      })

  -- the system had no room for another connection, and one may have been closed to make room
  pub course_way : (now : ℕ) (one : Bool) (before at later : NetworkEntry L) (old new : ConnectionTable L) → at ≡ after_accept Full before
      → ClosesOne (IsClosedByRule (eviction_rule now)) one at later old new
      → Trace gated stream [] (Some now) (Some now) before later old.clients.items new.clients.items
  course_way now true before at later old new is goes =
      course_one (makes_way goes.removed) (Some now) before later old.clients.items new.clients.items
      (ap (λ (d : NetworkEntry L). d.events) goes.back ∙ ap (λ (d : NetworkEntry L). followed (handed_back goes.removed) d.events) is ∙ more_then before.events _ _) (now, refl, goes.goes)
  course_way now false before at later old new is (same, still) =
      course_one keeps_out (Some now) before later old.clients.items new.clients.items (ap (λ (d : NetworkEntry L). d.events) still ∙ ap (λ (d : NetworkEntry L). d.events) is)
      (ap (λ (r : ConnectionTable L). r.clients.items) same)

  -- connections were closed because the table was full or too many bytes were held in memory
  module _ (Goes : List (Client L) → Removed L → List (Client L) → Type 0) (shown : Option ℕ) (due : (old : List (Client L)) (removed : Removed L) (new : List (Client L))
      → Goes old removed new → IsEviction shown old removed new) where
    closed_events : (gone : List (Removed L)) → map handed_back gone ≡ flat_map events_of (map closes gone)
    closed_events [] = refl
    closed_events (removed ∷ gone) = ap (λ (es : List (Event L)). handed_back removed ∷ es) (closed_events gone)

    no_turns : (gone : List (Removed L)) → flat_map responses_at (map closes gone) ≡ []
    no_turns [] = refl
    no_turns (removed ∷ gone) = no_turns gone

    each_due : (gone : List (Removed L)) (old new : List (Client L)) → FoldsTo Goes old gone new → FoldsTo (Leads gated stream) (scene shown old) (map closes gone) (scene shown new)
    each_due [] old new same = ap (λ (cs : List (Client L)). scene shown cs) same
    each_due (removed ∷ gone) old new (mid, goes, others) = (scene shown mid, (refl, due old removed mid goes), each_due gone mid new others)

    pub course_closes : (before later : NetworkEntry L) (old new : ConnectionTable L) → AreClosedByRule Goes before later old new
        → Trace gated stream [] shown shown before later old.clients.items new.clients.items
    course_closes before later old new it = record {
      steps = map closes it.gone;
      told = ap (λ (d : NetworkEntry L). d.events) it.back ∙ ap (λ (more : List (Event L)). option_map (λ (es : List (Event L)). es ++ more) before.events) (closed_events it.gone);
      had = no_turns it.gone;
      each = each_due it.gone old.clients.items new.clients.items it.each;
    }

  -- the connections that are closed because the table is full, and those closed because of the bytes in memory
  pub eviction_due : (now : ℕ) (old : List (Client L)) (removed : Removed L) (new : List (Client L)) → IsEvicted now old removed new → IsEviction (Some now) old removed new
  eviction_due now old removed new it = inl (now, refl, it)

  pub bytes_due : (shown : Option ℕ) (old : List (Client L)) (removed : Removed L) (new : List (Client L)) → IsClosedForBytes old removed new → IsEviction shown old removed new
  bytes_due shown old removed new it = inr it

  -- ---- one connection was serviced

  module _ (from : Option ℕ) (clients : List (Client L)) (place number : ℕ) (old new : Client L) (gate : Option ℕ) (turns : List ResponseAt)
      (within : place < length clients) (here : old ≡ get_or clients place old)
      (is : old.number ≡ number) (same : (new.listener ≡ old.listener) × (new.number ≡ old.number)) (own : (start : L) → IsOf stream start old
      → IsOf stream start new) (had : HadResponses gated gate turns old new) where
    abbrev his_going : ServiceEnd L → ServiceStep L
    his_going service_end = record { number = number; gate = gate; turns = turns; service_end = service_end }

    went : (service_end : ServiceEnd L) (before later : NetworkEntry L) (clients_then : List (Client L))
        → later.events ≡ option_map (λ (es : List (Event L)). es ++ service_end_events service_end) (with_gate gate (after_ready (Some number) before)).events
        → EndsService stream service_end turns clients place old new clients_then → Trace gated stream turns from (shown_after (goes_on (his_going service_end)) from) before later clients clients_then
    went service_end before later clients_then told ends =
        course_one (goes_on (his_going service_end)) from before later clients clients_then (told ∙ at_gate gate before number (service_end_events service_end))
        (record { place = place; within = within; old = old; here = here; number = is; new = new; same = same; own = own; had = had; ends = ends })

    abbrev CourseTo : NetworkEntry L → NetworkEntry L → List (Client L) → Type 0
    CourseTo before later clients_then = (to : Option ℕ) × Trace gated stream turns from to before later clients clients_then

    -- it is back in its place
    pub course_stays : (before at later : NetworkEntry L) → at ≡ after_ready (Some number) before → IsServiceOutcome stream turns old new (Ok None) (with_gate gate at) later
        → CourseTo before later (set clients place new)
    course_stays before at later ready comes = by (subst (λ (d : NetworkEntry L). IsServiceOutcome stream turns old new (Ok None) (with_gate gate d) later) ready comes)
      where
        by : IsServiceOutcome stream turns old new (Ok None) (with_gate gate (after_ready (Some number) before)) later → CourseTo before later (set clients place new)
        by (inl (none, since, still)) = (_, went waits before later (set clients place new) (ap (λ (d : NetworkEntry L). d.events) still ∙ sym (none_more _)) (none, since, refl))
        by (inr (one, still)) = (_, went (anew new.since) before later (set clients place new) (ap (λ (d : NetworkEntry L). d.events) still) (one, refl, refl))

    -- it was closed
    pub course_leaves : (why : CloseReason) (before at mid later : NetworkEntry L) → at ≡ after_ready (Some number) before
        → IsServiceOutcome stream turns old new (Ok (Some why)) (with_gate gate at) mid → later ≡ with_removed mid (removed_of new why)
        → CourseTo before later (remove clients place)
    course_leaves why before at mid later ready (since, ends, still) back = (
      _,
      went (leaves (removed_of new why)) before later (remove clients place)
          (ap (λ (d : NetworkEntry L). d.events) back ∙ ap (λ (d : NetworkEntry L). followed (handed_back (removed_of new why)) d.events) still
          ∙ ap (λ (d : NetworkEntry L). followed (handed_back (removed_of new why)) (with_gate gate d).events) ready) (why, since, ends, refl, refl),
    )

    -- the clock failed
    pub course_stops : (broken : Broken) (before at later : NetworkEntry L) → at ≡ after_ready (Some number) before
        → IsServiceOutcome stream turns old new (Err broken) (with_gate gate at) later → CourseTo before later (set clients place new)
    course_stops broken before at later ready (since, still) = (
      _,
      went stops before later (set clients place new) (ap (λ (d : NetworkEntry L). d.events) still ∙ ap (λ (d : NetworkEntry L). (with_failure (with_gate gate d)).events) ready) (since, refl),
    )
