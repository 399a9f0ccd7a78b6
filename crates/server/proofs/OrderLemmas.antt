-- How an order is processed, step by step.
use Rattle.std.proofs.Common.{◌≡◌, ◌∙◌, ◌⊎◌, ◌∷◌, Bool, true, false, true≢false, ℕ, List, [], None, Bor, Option, Some, ap, drop, inl, inr, map, refl, subst, sym}
use Rattle.std.specs.Prelude.{⊤}
use Rattle.std.specs.Io.KnownBytes.{Appends}
use Rattle.std.specs.List.{list_all}
use Rattle.std.specs.Str.{is_utf8}
use Rattle.clap.specs.Words.{Text}
use Rattle.sqlite.specs.Held.{Held}
use Rattle.sqlite.specs.State.{HasCleanDisk, State}
use Rattle.tables.specs.declared.fault.Fault.{Fault}
use Rattle.tables.specs.declared.fault.Fault.TheVariants.{Memory, Store}
use Rattle.office.specs.Answers.{WhenOpenAt}
use Rattle.office.specs.Values.{OfficeValue}
use Rattle.connections.specs.Clients.{IsSent}
use Rattle.connections.specs.Streams.{Stream}
use Rattle.connections.specs.declared.client.PendingResponse.{PendingResponse}
use Rattle.order_protocol.specs.Reading.{order_message_in}
use Rattle.order_protocol.specs.Messages.{Fits, OrderMessageEntry, MessagePartEntry, order_message_entry, message_part_entries, encoding_of}
use Rattle.order_protocol.specs.declared.order_message.OrderMessage.{OrderMessage}
use Rattle.order_protocol.specs.declared.order_message.MessagePart.{MessagePart}
use Rattle.order_protocol.proofs.MessageParts.{handed_again}
use Rattle.desk.specs.Pages.{Cut, IsShown, Outputs, Page, Shows, Tells, cut_behind, cut_error, uncut}
use Rattle.desk.specs.declared.lines.Failure.TheVariants.{Office}
use Rattle.server.specs.RecordChanges.{RecordChange}
use Rattle.server.specs.ServedOrders.{
  AgreesWithRecord,
  AsksSo,
  Follows,
  IsOrderOutcome,
  FollowsOrder,
  IsForFile,
  IsMessage,
  IsRecordTold,
  IsUnread,
  IsResponseToOrder,
  folder_of,
  closed_office_page,
  untold,
  words_in,
}
use Rattle.server.specs.FrameSinks.{IsEnded}
use Rattle.server.specs.Settings.{ServerSettingsEntry}
use Rattle.server.specs.declared.served_order.ServedOrder.{ServedOrder}
use Rattle.server.specs.declared.served_order.ServedOrder.TheVariants as asked
use Rattle.server.specs.declared.server_settings.FileNumbers.{FileNumbers}

-- ---- what is sent

-- neither output has accepted anything yet
pub none_told : (o : Outputs) → o.out ≡ Some [] → o.out_failed ≡ 0 → o.err ≡ Some [] → o.err_failed ≡ 0 → o ≡ untold
none_told o out out_failed err err_failed =
    ap (λ (x : Option (List ℕ)). record { out = x; out_failed = o.out_failed; err = o.err; err_failed = o.err_failed }) out
    ∙ ap (λ (n : ℕ). record { out = Some []; out_failed = n; err = o.err; err_failed = o.err_failed }) out_failed
    ∙ ap (λ (x : Option (List ℕ)). record { out = Some []; out_failed = 0; err = x; err_failed = o.err_failed }) err
    ∙ ap (λ (n : ℕ). record { out = Some []; out_failed = 0; err = Some []; err_failed = n }) err_failed

taken_known : (new : Option (List ℕ)) (bytes : List ℕ) → Appends (Some []) new bytes → (said : List ℕ) × (new ≡ Some said)
taken_known None bytes it = absurd it
taken_known (Some said) bytes it = (said, refl)

-- what the output accepted is known, however much of a page was printed
shown_said : (cut : Cut) (told : Outputs) (page : Page) (status : ℕ) → IsShown cut untold told page status → (said : List ℕ) × (told.out ≡ Some said)
shown_said uncut told page status it = taken_known told.out page.out it.out
shown_said (cut_behind took) told page status it = taken_known told.out took it.out
shown_said cut_error told page status it = taken_known told.out page.out it.out

-- the request was carried out, and this part of its page was sent this way
pub follows_asked : {S : Type 0} (state_of : Held S → State) (change : RecordChange) (old new : OfficeValue S) (files : List MessagePartEntry) (what : ServedOrder)
    (before after : Outputs) (status : ℕ)
    (IsSent : Cut → Page → Type 0) → before ≡ untold → ((cut : Cut) (page : Page) → IsShown cut untold after page status → IsSent cut page)
    → Tells before after status (λ cut page. WhenOpenAt state_of old new (λ s. IsOrderOutcome change (state_of old.held) new.closed (state_of new.held) (folder_of files) s what cut page)
    × (old.closed ≡ true → page ≡ closed_office_page what)) → (old.closed ≡ true → new ≡ old) → (old.closed ≡ true → change.same) →
    (HasCleanDisk (state_of new.held) → HasCleanDisk (state_of old.held))
    → Follows state_of change old files what IsSent new
follows_asked {S} state_of change old new files what before after status IsSent start sends it stays same clean = record {
  cut = it.cut;
  page = it.page;
  told = sends it.cut it.page (subst (λ (o : Outputs). IsShown it.cut o after it.page status) start it.shown);
  does = it.is.0;
  turned_away = λ closed. (it.is.1 closed, stays closed, same closed);
  clean = clean;
}

-- the request was carried out, and its page was sent another way
pub follows_sent : {S : Type 0} (state_of : Held S → State) (change : RecordChange) (old new : OfficeValue S) (files : List MessagePartEntry) (what : ServedOrder)
    (IsSent IsSentToo : Cut → Page → Type 0)
    → ((cut : Cut) (page : Page) → IsSent cut page → IsSentToo cut page) → Follows state_of change old files what IsSent new → Follows state_of change old files what IsSentToo new
follows_sent {S} state_of change old new files what IsSent IsSentToo turns it = record {
  cut = it.cut;
  page = it.page;
  told = turns it.cut it.page it.told;
  does = it.does;
  turned_away = it.turned_away;
  clean = it.clean;
}

-- the request was processed, and its page was sent in frames
pub tells_asked : {L S : Type 0} (stream : Stream L) (state_of : Held S → State) (change : RecordChange) (old new : OfficeValue S) (files : List MessagePartEntry) (what : ServedOrder)
    (before after : Outputs) (status : ℕ) (err : List ℕ)
    (now : L) (answer : PendingResponse) → before ≡ untold → after.err ≡ Some err → ((said : List ℕ) → after.out ≡ Some said → IsEnded stream said status err now answer)
    → Tells before after status (λ cut page. WhenOpenAt state_of old new (λ s. IsOrderOutcome change (state_of old.held) new.closed (state_of new.held) (folder_of files) s what cut page)
    × (old.closed ≡ true → page ≡ closed_office_page what)) → (old.closed ≡ true → new ≡ old) → (old.closed ≡ true → change.same) →
    (HasCleanDisk (state_of new.held) → HasCleanDisk (state_of old.held))
    → IsResponseToOrder state_of change old files what answer.bytes.items new × IsSent stream now answer.bytes.items answer.sent
tells_asked {L} {S} stream state_of change old new files what before after status err now answer start is_err ends it stays same clean =
    let shown : IsShown it.cut untold after it.page status = subst (λ (o : Outputs). IsShown it.cut o after it.page status) start it.shown in
    let (said, took) = shown_said it.cut after it.page status shown in
    let end = ends said took in (
      record {
        cut = it.cut;
        page = it.page;
        told = record { told = after; status = status; shown = shown; framed = record { err = err; is_err = is_err; out = took ∙ ap Some end.is; end = end.end } };
        does = it.is.0;
        turned_away = λ closed. (it.is.1 closed, stays closed, same closed);
        clean = clean;
      },
      end.told,
    )

-- the page of a closed office
pub tells_shut : {S : Type 0} (state_of : Held S → State) (change : RecordChange) (office : OfficeValue S) (files : List MessagePartEntry) (what : ServedOrder)
    (before after : Outputs) (status : ℕ) → office.closed ≡ true
    → Shows before after (closed_office_page what) status
    → Tells before after status (λ cut page. WhenOpenAt state_of office office (λ s. IsOrderOutcome change (state_of office.held) office.closed (state_of office.held)
    (folder_of files) s what cut page)
    × (office.closed ≡ true → page ≡ closed_office_page what))
tells_shut {S} state_of change office files what before after status closed shows = record {
  page = closed_office_page what;
  cut = shows.0;
  shown = shows.1;
  is = (λ clean is_open s at. absurd (true≢false (sym closed ∙ is_open)), λ was. refl);
}

-- the page of an open office
pub tells_open : {S : Type 0} (state_of : Held S → State) (change : RecordChange) (old new : OfficeValue S) (files : List MessagePartEntry) (what : ServedOrder)
    (before after : Outputs) (status : ℕ) → old.closed ≡ false
    → Tells before after status (λ cut page. WhenOpenAt state_of old new (λ s. IsOrderOutcome change (state_of old.held) new.closed (state_of new.held) (folder_of files) s what cut page))
    → Tells before after status (λ cut page. WhenOpenAt state_of old new (λ s. IsOrderOutcome change (state_of old.held) new.closed (state_of new.held) (folder_of files) s what cut page)
    × (old.closed ≡ true → page ≡ closed_office_page what))
tells_open {S} state_of change old new files what before after status is_open it =
    record { page = it.page; cut = it.cut; shown = it.shown; is = (it.is, λ closed. absurd (true≢false (sym closed ∙ is_open))) }

-- ---- what is requested

-- a message encodes only one order
same_order : (got : List ℕ) (one other : OrderMessageEntry) → IsMessage got one → IsMessage got other → one ≡ other
same_order got one other is too = let same = sym (handed_again one is.fits) ∙ ap order_message_in (sym is.is ∙ too.is) ∙ handed_again other too.fits in cc same

names : (ps : List MessagePart) → map (λ (p : MessagePartEntry). p.name) (message_part_entries ps) ≡ map (λ (p : MessagePart). p.name.now) ps
names [] = refl
names (p ∷ ps) = ap (λ (ns : List (List ℕ)). p.name.now ∷ ns) (names ps)

-- the words of an order, as they were read
pub words_read : (h : OrderMessage) → words_in (order_message_entry h) ≡ map (λ (p : MessagePart). p.name.now) h.words.items
words_read h = names h.words.items

-- the order is for another file, or comes from another version
pub other_file : (file : FileNumbers) (got : List ℕ) (h : OrderMessageEntry) → IsMessage got h → (IsForFile file h → ⊥) → IsUnread file got (asked.Refused (Office Store))
other_file file got h message other = inr (refl, λ o is for_file text. other (subst (λ (x : OrderMessageEntry). IsForFile file x) (same_order got o h is message) for_file))

-- the words of the order aren't valid UTF-8
pub no_text : (file : FileNumbers) (got : List ℕ) (h : OrderMessage) → IsMessage got (order_message_entry h) → (list_all is_utf8 (map (λ (p : MessagePart). p.name.now) h.words.items) ≡ true → ⊥)
    → IsUnread file got (asked.Refused (Office Store))
no_text file got h message bad = inr (
  refl,
  λ o is for_file text.
      bad (ap (list_all is_utf8) (sym (words_read h)) ∙ subst (λ (x : OrderMessageEntry). list_all is_utf8 (words_in x) ≡ true) (same_order got o (order_message_entry h) is message) text),
)

-- the words of the order weren't decoded: an allocation failed, or they aren't valid UTF-8
pub words_unread : (file : FileNumbers) (got : List ℕ) (h : OrderMessage) (words : List MessagePart) (fault : Fault) → IsMessage got (order_message_entry h) → words ≡ h.words.items
    → (fault ≡ Memory) ⊎ ((fault ≡ Store) × (list_all is_utf8 (map (λ (p : MessagePart). p.name.now) words) ≡ true → ⊥)) → IsUnread file got (asked.Refused (Office fault))
words_unread file got h words fault message same (inl wanting) = inl (ap (λ (f : Fault). asked.Refused (Office f)) wanting)
words_unread file got h words fault message same (inr (store, bad)) =
    subst (λ (f : Fault). IsUnread file got (asked.Refused (Office f))) (sym store)
    (no_text file got h message (subst (λ (ws : List MessagePart). list_all is_utf8 (map (λ (p : MessagePart). p.name.now) ws) ≡ true → ⊥) same bad))

-- the bytes of the message don't encode an order
pub no_order : (file : FileNumbers) (got message : List ℕ) → message ≡ drop 8 got → ((h : OrderMessageEntry) → Fits h → message ≡ encoding_of h → ⊥) → IsUnread file got (asked.Refused (Office Store))
no_order file got message is none = inr (refl, λ h it for_file text. none h it.fits (is ∙ it.is))

-- no order was decoded: an allocation failed, or the bytes aren't an order
pub order_unread : (file : FileNumbers) (got message : List ℕ) (fault : Fault) → message ≡ drop 8 got
    → (fault ≡ Memory) ⊎ ((fault ≡ Store) × ((h : OrderMessageEntry) → Fits h → message ≡ encoding_of h → ⊥)) → IsUnread file got (asked.Refused (Office fault))
order_unread file got message fault is (inl wanting) = inl (ap (λ (f : Fault). asked.Refused (Office f)) wanting)
order_unread file got message fault is (inr (store, none)) = subst (λ (f : Fault). IsUnread file got (asked.Refused (Office f))) (sym store) (no_order file got message is none)

-- an order that wasn't decoded is refused
pub follows_unread : {S : Type 0} (settings : ServerSettingsEntry) (state_of : Held S → State) (change : RecordChange) (old new : OfficeValue S) (got frames : List ℕ)
    (files : List MessagePartEntry) (what : ServedOrder)
    → IsUnread settings.file got what → files ≡ [] → AgreesWithRecord change.had_failed what → (change.had_failed ≡ false → change.has_failed ≡ true → settings.recorded ≡ true)
    → IsResponseToOrder state_of change old files what frames new → FollowsOrder settings state_of change old got frames new
follows_unread {S} settings state_of change old new got frames files what unread none agrees fails tells =
    record { files = files; asked = what; is = inr (unread, none); agrees = agrees; fails = fails; tells = tells }

-- an order that was decoded is carried out, with the words and files that were decoded
pub follows_read : {S : Type 0} (settings : ServerSettingsEntry) (state_of : Held S → State) (change : RecordChange) (old new : OfficeValue S) (got frames : List ℕ) (h : OrderMessage)
    (files : List MessagePart) (what : ServedOrder)
    → IsMessage got (order_message_entry h) → IsForFile settings.file (order_message_entry h) → files ≡ h.files.items
    → AsksSo settings.whole settings.recorded (words_in (order_message_entry h)) what → AgreesWithRecord change.had_failed what
    → (change.had_failed ≡ false → change.has_failed ≡ true → settings.recorded ≡ true)
    → IsResponseToOrder state_of change old (message_part_entries files) what frames new → FollowsOrder settings state_of change old got frames new
follows_read {S} settings state_of change old new got frames h files what message for_file same asks agrees fails tells = record {
  files = message_part_entries files;
  asked = what;
  is = inl (order_message_entry h, message, for_file, ap message_part_entries same, asks);
  agrees = agrees;
  fails = fails;
  tells = tells;
}

pub words_same : (h : OrderMessage) (seen : List MessagePart) (texts words : List (Bor (List ℕ))) → seen ≡ h.words.items
    → map (λ (t : Bor (List ℕ)). t.now) texts ≡ map (λ (p : MessagePart). p.name.now) seen → words ≡ texts → words_in (order_message_entry h) ≡ map (λ (t : Bor (List ℕ)). t.now) words
words_same h seen texts words is read same =
    words_read h ∙ ap (map (λ (p : MessagePart). p.name.now)) (sym is) ∙ sym read ∙ ap (map (λ (t : Bor (List ℕ)). t.now)) (sym same)

-- ---- the record

-- the text that says where the record is, whatever it says of that
pub any_described : (described : Text → Type 0) (has_failed : Bool) (page : Page) → IsRecordTold described has_failed page → IsRecordTold (λ (text : Text). ⊤) has_failed page
any_described described has_failed page (inl (text, (where_it_is, it, is), told)) = inl (text, (where_it_is, tt, is), told)
any_described described has_failed page (inr failing) = inr failing

-- an order that fails for another reason isn't refused because of its record
pub other_failure : (failed : Bool) (fault : Fault) → AgreesWithRecord failed (asked.Refused (Office fault))
other_failure failed fault is = absurd (cc is)
