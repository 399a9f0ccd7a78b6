-- Connections that are closed, one by one.
use Rattle.std.proofs.Common.{◌≡◌, ◌≤◌, ◌<◌, ◌+◌, ◌-◌, ◌∙◌, ◌⊎◌, ◌∷◌, ◌++◌, Bool, false, true, ℕ, List, [], None}
use Rattle.std.proofs.Common.{Option, Some, ap, append-nil, append_assoc, arith, get_or, inl, inr, length, map, option_map, refl, remove, subst, sym}
use Rattle.std.proofs.lemmas.List.{get_or_read, map-append, nil_from_length}
use Rattle.std.proofs.lemmas.List.Edits.{length-remove}
use Rattle.std.proofs.lemmas.List.Elements.{All-nil, All-weaker}
use Rattle.std.specs.List.{All, FoldsTo}
use Rattle.connections.specs.Removals.{removed_of}
use Rattle.connections.specs.Streams.{Stream}
use Rattle.connections.specs.Tables.{AreUnseen, NetworkEntry, Event, HasWaitedLongest, bytes_held, handed_back, is_among, most_bytes, with_removed}
use Rattle.connections.specs.declared.client.Client.{Client}
use Rattle.connections.specs.declared.client.Listener.{Listener}
use Rattle.connections.specs.declared.client.Listener.TheVariants.{Clients, Orders}
use Rattle.connections.specs.declared.removed.Removed.{Removed}
use Rattle.connections.specs.declared.removed.CloseReason.{CloseReason}
use Rattle.connections.specs.declared.removed.CloseReason.TheVariants.{Closing}
use Rattle.connections.specs.declared.connection_table.ConnectionTable.{ConnectionTable}
use Rattle.connections.specs.Closing.{MayBeClosed, AreFull, AreClosedByRule, IsClosed, IsClosedAt, IsClosedByRule, IsClosedForBytes, IsEvicted}
use Rattle.connections.specs.Closing.{IsOut, ClosesOne, OneIsClosed, byte_limit_rule, eviction_rule, timeout_rule, timeout, with_all_removed}
use Rattle.connections.specs.declared.closing.Rule.{Rule}

pub folds_then : {P A : Type 0} (R : P → A → P → Type 0) (xs ys : List A) (old mid new : P) → FoldsTo R old xs mid → FoldsTo R mid ys new → FoldsTo R old (xs ++ ys) new
folds_then {P} R [] ys old mid new same rest = subst (λ (o : P). FoldsTo R o ys new) (sym same) rest
folds_then R (x ∷ xs) ys old mid new (next, step, first) rest = (next, step, folds_then R xs ys next mid new first rest)

-- ---- the connections that were handed back

pub none_more : {X : Type 0} (count : Option (List X)) → option_map (λ (xs : List X). xs ++ []) count ≡ count
none_more None = refl
none_more (Some xs) = ap Some (append-nil xs)

pub more_then : {X : Type 0} (count : Option (List X)) (a b : List X) → option_map (λ (xs : List X). xs ++ b) (option_map (λ (xs : List X). xs ++ a) count)
    ≡ option_map (λ (xs : List X). xs ++ (a ++ b)) count
more_then None a b = refl
more_then (Some xs) a b = ap Some (append_assoc xs a b)

pub with_none : {L : Type 0} (network : NetworkEntry L) → network ≡ with_all_removed network []
with_none {L} network =
    ap (λ (left : Option (List (Removed L))). record network { left = left }) (sym (none_more network.left))
    ∙ ap (λ (events : Option (List (Event L))). record network { left = option_map (λ (xs : List (Removed L)). xs ++ []) network.left; events = events }) (sym (none_more network.events))

pub with_both : {L : Type 0} (network : NetworkEntry L) (a b : List (Removed L)) → with_all_removed (with_all_removed network a) b ≡ with_all_removed network (a ++ b)
with_both {L} network a b =
    let first : Option (List (Event L)) = option_map (λ (xs : List (Event L)). xs ++ map handed_back b) (option_map (λ (xs : List (Event L)). xs ++ map handed_back a) network.events) in
    let again = more_then network.events (map handed_back a) (map handed_back b) ∙ ap (λ (es : List (Event L)). option_map (λ (xs : List (Event L)). xs ++ es) network.events)
    (sym (map-append handed_back a b)) in
    ap (λ (left : Option (List (Removed L))). record network { left = left; events = first }) (more_then network.left a b)
    ∙ ap (λ (events : Option (List (Event L))). record network { left = option_map (λ (xs : List (Removed L)). xs ++ (a ++ b)) network.left; events = events }) again

module _ {L : Type 0} (Goes : List (Client L) → Removed L → List (Client L) → Type 0) where
  pub let_go_none : (network : NetworkEntry L) (table : ConnectionTable L) → AreClosedByRule Goes network network table table
  let_go_none network table = record { came = refl; counted = refl; gone = []; back = with_none network; each = refl }

  pub let_go_one : (before later : NetworkEntry L) (old new : ConnectionTable L) → OneIsClosed Goes before later old new → AreClosedByRule Goes before later old new
  let_go_one before later old new one = record { came = one.came; counted = one.counted; gone = one.removed ∷ []; back = one.back; each = (new.clients.items, one.goes, refl) }

  pub let_go_maybe : (one : Bool) (before later : NetworkEntry L) (old new : ConnectionTable L) → ClosesOne Goes one before later old new → AreClosedByRule Goes before later old new
  let_go_maybe true before later old new goes = let_go_one before later old new goes
  let_go_maybe false before later old new (same, still) =
      subst (λ (table : ConnectionTable L). AreClosedByRule Goes before later old table) (sym same)
      (subst (λ (network : NetworkEntry L). AreClosedByRule Goes before network old old) (sym still) (let_go_none before old))

  pub let_go_then : (before mid later : NetworkEntry L) (old went new : ConnectionTable L) → AreClosedByRule Goes before mid old went
      → AreClosedByRule Goes mid later went new → AreClosedByRule Goes before later old new
  let_go_then before mid later old went new a b = record {
    came = b.came ∙ a.came;
    counted = b.counted ∙ a.counted;
    gone = a.gone ++ b.gone;
    back = b.back ∙ ap (λ (network : NetworkEntry L). with_all_removed network b.gone) a.back ∙ with_both before a.gone b.gone;
    each = folds_then Goes a.gone b.gone old.clients.items went.clients.items new.clients.items a.each b.each;
  }

-- a connection may be closed because the table is full
pub let_go_full : {L : Type 0} (now : ℕ) (one : Bool) (before later : NetworkEntry L) (old new : ConnectionTable L) → AreFull old.clients.items
    → ClosesOne (IsClosedByRule (eviction_rule now)) one before later old new → AreClosedByRule (IsEvicted now) before later old new
let_go_full {L} now true before later old new full goes = let_go_one (IsEvicted now) before later old new
    (record { came = goes.came; counted = goes.counted; removed = goes.removed; goes = (full, goes.goes); back = goes.back })
let_go_full {L} now false before later old new full goes = let_go_maybe (IsEvicted now) false before later old new goes

-- ---- which connections are gone

-- a connection closed this way was removed from its place, for a reason that implies nothing about it
pub record Out {L : Type 0} (old : List (Client L)) (removed : Removed L) (new : List (Client L)) : Type 0 where
  pub why : CloseReason
  pub place : ℕ
  pub out : IsOut why place old removed new
  pub may : (stream : Stream L) (client : Client L) → MayBeClosed stream why client

abbrev pub Outs : {L : Type 0} → (List (Client L) → Removed L → List (Client L) → Type 0) → Type 0
Outs {L} Goes = (old : List (Client L)) (removed : Removed L) (new : List (Client L)) → Goes old removed new → Out old removed new

module _ {L : Type 0} where
  pub late_outs : (now : ℕ) → Outs {L = L} (IsClosedByRule (timeout_rule now))
  late_outs now old removed new it = record { why = (timeout_rule now).why; place = it.place; out = it.out; may = λ stream client. tt }

  pub room_outs : (now : ℕ) → Outs {L = L} (IsClosedByRule (eviction_rule now))
  room_outs now old removed new it = record { why = (eviction_rule now).why; place = it.place; out = it.out; may = λ stream client. tt }

  pub crowd_outs : (now : ℕ) → Outs {L = L} (IsEvicted now)
  crowd_outs now old removed new (full, it) = room_outs now old removed new it

  pub bytes_outs : Outs {L = L} IsClosedForBytes
  bytes_outs old removed new (over, inl it) = record { why = (byte_limit_rule false).why; place = it.place; out = it.out; may = λ stream client. tt }
  bytes_outs old removed new (over, inr (unseen, it)) = record { why = (byte_limit_rule true).why; place = it.place; out = it.out; may = λ stream client. tt }

  pub closed_outs : Outs {L = L} IsClosed
  closed_outs old removed new it = record { why = _; place = 0; out = it; may = λ stream client. tt }

  pub one_fewer : (Goes : List (Client L) → Removed L → List (Client L) → Type 0) → Outs Goes → (old new : ConnectionTable L) (before later : NetworkEntry L) → OneIsClosed Goes before later old new
      → length new.clients.items + 1 ≡ length old.clients.items
  one_fewer Goes outs old new before later it =
      let gone = outs old.clients.items it.removed new.clients.items it.goes in
      ap (λ (cs : List (Client L)). length cs + 1) gone.out.left ∙ length-remove old.clients.items gone.place gone.out.within

-- ---- which connection has been waiting longest

module _ {L : Type 0} (rule : Rule) where
  pub goes_longest : (before later : NetworkEntry L) (old new : ConnectionTable L) (seen : List (Client L)) (place : ℕ) (one : Client L) → seen ≡ old.clients.items → place < length seen
      → ((c : Client L) → HasWaitedLongest rule.orders_too seen (get_or seen place c)) → one ≡ get_or old.clients.items place one → rule.least ≤ rule.now - one.since
      → IsClosedAt rule.why place old.clients.items before new.clients.items later → new.came ≡ old.came → new.counted ≡ old.counted → OneIsClosed (IsClosedByRule rule) before later old new
  goes_longest before later old new seen place one same within longest_waiting is patient (removed, out, back) came counted = record {
    came = came;
    counted = counted;
    removed = removed;
    goes = record {
      place = place;
      out = out;
      longest_waiting = λ c. let it = subst (λ (cs : List (Client L)). (d : Client L) → HasWaitedLongest rule.orders_too cs (get_or cs place d)) same longest_waiting in it c;
      patient = λ c. subst (λ (d : Client L). rule.least ≤ rule.now - d.since) (get_or_read old.clients.items place one out.within is c) patient;
    };
    back = back;
  }

  -- none of the connections has been waiting long enough
  abbrev pub NoneDue : List (Client L) → Type 0
  NoneDue clients = All (λ (c : Client L). is_among rule.orders_too c.listener ≡ true → rule.now - c.since < rule.least) clients

  pub none_due_unseen : (clients seen : List (Client L)) → seen ≡ clients → AreUnseen rule.orders_too seen → NoneDue clients
  none_due_unseen clients seen same unseen =
      subst NoneDue same (All-weaker (λ (c : Client L). is_among rule.orders_too c.listener ≡ false) (λ (c : Client L). is_among rule.orders_too c.listener ≡ true
      → rule.now - c.since < rule.least) (λ c no yes. absurd (cc (no, yes))) seen unseen)

  pub none_due_young : (clients seen : List (Client L)) (place : ℕ) (one : Client L) → seen ≡ clients → place < length seen
      → ((c : Client L) → HasWaitedLongest rule.orders_too seen (get_or seen place c))
      → one ≡ get_or clients place one → rule.now - one.since < rule.least → NoneDue clients
  none_due_young clients seen place one same within longest_waiting is young =
      subst NoneDue same (All-weaker (λ (c : Client L). is_among rule.orders_too c.listener ≡ true → one.since ≤ c.since)
      (λ (c : Client L). is_among rule.orders_too c.listener ≡ true → rule.now - c.since < rule.least)
      (λ c first yes. let le = first yes in omega (arith, le, young)) seen first_of_all)
    where
      first_of_all : All (λ (c : Client L). is_among rule.orders_too c.listener ≡ true → one.since ≤ c.since) seen
      first_of_all =
          let at : get_or seen place one ≡ one = ap (λ (cs : List (Client L)). get_or cs place one) same ∙ sym is in
          subst (λ (x : Client L). All (λ (c : Client L). is_among rule.orders_too c.listener ≡ true → x.since ≤ c.since) seen) at (longest_waiting one).first

-- if orders are included, every connection counts
seen_too : (listener : Listener) → is_among true listener ≡ true
seen_too Clients = refl
seen_too Orders = refl

pub all_seen : {L : Type 0} (P : Client L → Type 0) (clients : List (Client L)) → All (λ (c : Client L). is_among true c.listener ≡ true → P c) clients → All P clients
all_seen {L} P clients all = All-weaker (λ (c : Client L). is_among true c.listener ≡ true → P c) P (λ c holds. holds (seen_too c.listener)) clients all

-- if the rule would close any connection, but closes none, then no connection is open
pub none_there : {L : Type 0} (clients : List (Client L)) → All (λ (c : Client L). is_among true c.listener ≡ true → 0 - c.since < 0) clients → clients ≡ []
none_there [] none = refl
none_there (c ∷ cs) none = let never = none 0 c (omega arith) (seen_too c.listener) in absurd (omega (arith, never))

pub none_unseen : {L : Type 0} (clients : List (Client L)) → All (λ (c : Client L). is_among false c.listener ≡ true → 0 - c.since < 0) clients → AreUnseen false clients
none_unseen {L} clients none = All-weaker (λ (c : Client L). is_among false c.listener ≡ true → 0 - c.since < 0) (λ (c : Client L). is_among false c.listener ≡ false)
    (λ c never. unseen c.since c.listener never) clients none
  where
    unseen : (since : ℕ) (listener : Listener) → (is_among false listener ≡ true → 0 - since < 0) → is_among false listener ≡ false
    unseen since Clients never = let none = never refl in absurd (omega (arith, none))
    unseen since Orders never = refl

-- ---- how many connections are left

-- the number of connections has decreased by at least one per iteration; or none are left
abbrev pub IsThinner : {L : Type 0} → List (Client L) → ℕ → List (Client L) → Type 0
IsThinner old turns new = (length new + turns ≤ length old) ⊎ (new ≡ [])

pub thinner : {L : Type 0} (first old new : List (Client L)) (turns : ℕ) → length new + 1 ≡ length old → IsThinner first turns old → IsThinner first (turns + 1) new
thinner {L} first old new turns less (inl so_far) = inl (omega (arith, less, so_far))
thinner {L} first old new turns less (inr empty) = let zero : length old ≡ 0 = ap (λ (cs : List (Client L)). length cs) empty in absurd (omega (arith, less, zero))

-- a connection was closed because of the bytes in memory, or there was none to close
pub thinner_maybe : {L : Type 0} (first : List (Client L)) (turns : ℕ) (one : Bool) (before later : NetworkEntry L) (old new : ConnectionTable L)
    → ClosesOne IsClosedForBytes one before later old new → (one ≡ false → old.clients.items ≡ [])
    → IsThinner first turns old.clients.items → IsThinner first (turns + 1) new.clients.items
thinner_maybe first turns true before later old new goes none it = thinner first old.clients.items new.clients.items turns (one_fewer IsClosedForBytes bytes_outs old new before later goes) it
thinner_maybe first turns false before later old new (same, still) none it = inr (ap (λ (r : ConnectionTable _). r.clients.items) same ∙ none refl)

-- after as many iterations as there were connections, none are left
pub none_left : {L : Type 0} (first last : List (Client L)) (turns : ℕ) → IsThinner first turns last → length first ≤ turns → last ≡ []
none_left first last turns (inl so_far) few = nil_from_length last (omega (arith, so_far, few))
none_left first last turns (inr empty) few = empty

pub none_held : {L : Type 0} (last : List (Client L)) (most : ℕ) → last ≡ [] → bytes_held last ≤ most
none_held {L} last most empty = subst (λ (cs : List (Client L)). bytes_held cs ≤ most) (sym empty) (omega arith)

-- the connection at a place is handed back, with a reason
pub closed_at : {L : Type 0} (why : CloseReason) (place : ℕ) (old new : List (Client L)) (client : Client L) (removed : Removed L) (before later : NetworkEntry L)
    → place < length old → client ≡ get_or old place client → new ≡ remove old place
    → removed ≡ removed_of client why → later ≡ with_removed before removed → IsClosedAt why place old before new later
closed_at {L} why place old new client removed before later within here left is back = (
  removed,
  record { within = within; is = λ d. is ∙ ap (λ (c : Client L). removed_of c why) (get_or_read old place client within here d); left = left },
  back,
)

-- no connection that is still open has timed out
pub none_late : {L : Type 0} (now : ℕ) (clients : List (Client L)) → clients ≡ [] → All (λ (c : Client L). now - c.since < timeout) clients
none_late {L} now clients empty = subst (All (λ (c : Client L). now - c.since < timeout)) (sym empty) (All-nil (λ (c : Client L). now - c.since < timeout))

-- a connection is closed because of the bytes in memory: a client, or an order if no client is open
pub client_for_bytes : {L : Type 0} (rule : Rule) (one : Bool) (before later : NetworkEntry L) (old new : ConnectionTable L) → rule ≡ byte_limit_rule false
    → most_bytes < bytes_held old.clients.items → one ≡ true
    → OneIsClosed (IsClosedByRule rule) before later old new → ClosesOne IsClosedForBytes one before later old new
client_for_bytes {L} rule one before later old new is over went it =
    let goes = subst (λ (r : Rule). OneIsClosed (IsClosedByRule r) before later old new) is it in
    subst (λ (b : Bool). ClosesOne IsClosedForBytes b before later old new) (sym went)
    (record { came = goes.came; counted = goes.counted; removed = goes.removed; goes = (over, inl goes.goes); back = goes.back })

pub order_for_bytes : {L : Type 0} (rule : Rule) (one : Bool) (before mid later : NetworkEntry L) (old went new : ConnectionTable L) → rule ≡ byte_limit_rule true
    → most_bytes < bytes_held old.clients.items → AreUnseen false old.clients.items
    → went ≡ old → mid ≡ before → ClosesOne (IsClosedByRule rule) one mid later went new → ClosesOne IsClosedForBytes one before later old new
order_for_bytes {L} rule one before mid later old went new is over unseen same still it =
    by one
    (subst (λ (d : NetworkEntry L). ClosesOne (IsClosedByRule (byte_limit_rule true)) one d later old new) still
    (subst (λ (o : ConnectionTable L). ClosesOne (IsClosedByRule (byte_limit_rule true)) one mid later o new) same
    (subst (λ (r : Rule). ClosesOne (IsClosedByRule r) one mid later went new) is it)))
  where
    by : (b : Bool) → ClosesOne (IsClosedByRule (byte_limit_rule true)) b before later old new → ClosesOne IsClosedForBytes b before later old new
    by true goes = record { came = goes.came; counted = goes.counted; removed = goes.removed; goes = (over, inr (unseen, goes.goes)); back = goes.back }
    by false stays = stays

-- the first connection is closed
pub goes_first : {L : Type 0} (why : CloseReason) (before later : NetworkEntry L) (old new : ConnectionTable L) → why ≡ Closing
    → IsClosedAt why 0 old.clients.items before new.clients.items later → new.came ≡ old.came → new.counted ≡ old.counted → OneIsClosed IsClosed before later old new
goes_first why before later old new is (removed, out, back) came counted = record {
  came = came;
  counted = counted;
  removed = removed;
  goes = subst (λ (w : CloseReason). IsOut w 0 old.clients.items removed new.clients.items) is out;
  back = back;
}
