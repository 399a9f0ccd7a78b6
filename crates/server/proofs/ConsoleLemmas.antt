-- How an order from the console is processed, step by step.
use Rattle.std.proofs.Common.{◌≡◌, ◌∙◌, ◌⊎◌, ◌&&◌, Bool, false, true, true≢false, ℕ, List, [], Some, ap, if◌then◌else◌, inl, inr, refl, subst, sym}
use Rattle.std.specs.Str.{IsUtf8, is_utf8}
use Rattle.std.proofs.lemmas.Str.{IsUtf8-from_is_utf8, is_utf8-from_IsUtf8}
use Rattle.sqlite.specs.Held.{Held}
use Rattle.sqlite.specs.State.{State}
use Rattle.tables.specs.declared.fault.Fault.TheVariants.{Memory}
use Rattle.office.specs.Values.{OfficeValue}
use Rattle.connections.specs.declared.client.Listener.TheVariants.{Clients}
use Rattle.desk.specs.Pages.{Page, failed, uncut}
use Rattle.desk.specs.declared.lines.Failure.TheVariants.{Office}
use Rattle.wire.specs.ConsoleOrders.{ConsoleOrderEntry}
use Rattle.wire.specs.Gates.{HttpSettingsEntry}
use Rattle.wire.specs.Parsing.{IsParsed}
use Rattle.wire.specs.Requests.{HttpRequestEntry, Asks, asked_by, console, denied, http_request_entry, keying, order, public, reading, shown}
use Rattle.wire.specs.Responses.{fault_response, order_response}
use Rattle.wire.specs.Serving.{IsPut, IsServed}
use Rattle.wire.specs.Told.{IsTold, IsWritten}
use Rattle.wire.specs.declared.console_order.ConsoleOrder.{ConsoleOrder}
use Rattle.wire.specs.declared.parsed.Parsed.{Parsed}
use Rattle.wire.specs.declared.parsed.Parsed.TheVariants as parsed
use Rattle.wire.specs.declared.request.HttpRequest.{HttpRequest}
use Rattle.wire.specs.declared.request.HttpRequest.TheVariants as variant
use Rattle.wire.specs.declared.request.Keying.{Keying}
use Rattle.wire.specs.declared.request_error.RequestError.TheVariants.{BadRequest}
use Rattle.wire.specs.declared.response.Response.{Response}
use Rattle.wire.proofs.ParsedLemmas.{none_came}
use Rattle.wire.proofs.RequestLemmas.{AsksOneThing-all}
use Rattle.server.specs.ConsoleOrders.{FollowsConsole, FollowsEntry, HasPrinted, IsInResponse, printed_response}
use Rattle.server.specs.Endings.{EndsIn}
use Rattle.server.specs.Exchanges.{AsksNoOrder, ChangesNothing, ServesAsked, Exchange}
use Rattle.codes.specs.RateLimits.{LimitEntry}
use Rattle.server.specs.Reads.{MemoryEntry, ReadEntry, ServedOffice, served_office}
use Rattle.server.specs.RecordChanges.{RecordChange, ServedView, change_in}
use Rattle.server.specs.Settings.{ServerSettingsEntry}
use Rattle.server.specs.declared.served_order.ServedOrder.TheVariants as asked
use Rattle.server.proofs.AnswerLemmas.{noted_still, served_none}
use Rattle.server.proofs.OrderLemmas.{follows_sent, other_failure}

-- ---- what is requested

-- what is requested is an order
abbrev pub is_order : HttpRequestEntry → Bool
is_order (denied why) = false
is_order (shown clerk show) = false
is_order (keying clerk batch entry) = false
is_order (reading what) = false
is_order (console show) = false
is_order (order entry) = true
is_order (public its what) = false

-- a request for anything else isn't an order
pub asks_no_order : (settings : HttpSettingsEntry) (got : List ℕ) (what : HttpRequestEntry) → Asks settings got what → is_order what ≡ false → AsksNoOrder settings got
asks_no_order settings got what asks other entry its =
    let one : what ≡ order entry = AsksOneThing-all settings got what (order entry) asks its in
    true≢false (sym (ap is_order one) ∙ other)

-- a request that is neither a keying nor an order
pub changes_nothing : (asked : HttpRequest) → ((k : Keying) → asked ≡ variant.Keying k → ⊥) → ((its : ConsoleOrder) → asked ≡ variant.Order its → ⊥)
    → ChangesNothing (http_request_entry asked) × (is_order (http_request_entry asked) ≡ false)
changes_nothing (variant.Denied why) no_keying no_order = (tt, refl)
changes_nothing (variant.ClerkPage clerk show) no_keying no_order = (tt, refl)
changes_nothing (variant.Keying k) no_keying no_order = absurd (no_keying k refl)
changes_nothing (variant.Resource what) no_keying no_order = (tt, refl)
changes_nothing (variant.ConsolePage show) no_keying no_order = (tt, refl)
changes_nothing (variant.Order its) no_keying no_order = absurd (no_order its refl)
changes_nothing (variant.Public its what) no_keying no_order = (tt, refl)

-- what is requested is an order, or it isn't
asks_order_or_not : (settings : HttpSettingsEntry) (got : List ℕ) (what : HttpRequestEntry) → Asks settings got what
    → AsksNoOrder settings got ⊎ ((entry : ConsoleOrderEntry) × Asks settings got (order entry))
asks_order_or_not settings got (denied why) asks = inl (asks_no_order settings got (denied why) asks refl)
asks_order_or_not settings got (shown clerk show) asks = inl (asks_no_order settings got (shown clerk show) asks refl)
asks_order_or_not settings got (keying clerk batch entry) asks = inl (asks_no_order settings got (keying clerk batch entry) asks refl)
asks_order_or_not settings got (reading what) asks = inl (asks_no_order settings got (reading what) asks refl)
asks_order_or_not settings got (console show) asks = inl (asks_no_order settings got (console show) asks refl)
asks_order_or_not settings got (order entry) asks = inr (entry, asks)
asks_order_or_not settings got (public its what) asks = inl (asks_no_order settings got (public its what) asks refl)

-- something is requested, whatever was parsed
asks_something : (settings : HttpSettingsEntry) (got : List ℕ) (head : Parsed) → IsParsed settings got head → (what : HttpRequestEntry) × Asks settings got what
asks_something settings got (parsed.Head head) is = (asked_by settings is.found is.behind, inr (is.found, is.behind, is.begins, refl))
asks_something settings got parsed.Partial is = (denied BadRequest, inl (is.none, refl))
asks_something settings got parsed.Malformed is = (denied BadRequest, inl (none_came got is, refl))

-- ---- the two outputs of an order

-- both outputs are UTF-8
pub told_printed : (status : ℕ) (out err output errors : List ℕ) (response : Response) → output ≡ out → IsUtf8 out → errors ≡ err → IsUtf8 err
    → IsTold (order_response status output errors) response → IsTold (printed_response status out err) response
told_printed status out err output errors response same text same_too text_too told =
    subst (λ (b : Bool). IsTold (if b && is_utf8 err then order_response status out err else fault_response 107) response) (sym (is_utf8-from_IsUtf8 out text))
    (subst (λ (b : Bool). IsTold (if b then order_response status out err else fault_response 107) response) (sym (is_utf8-from_IsUtf8 err text_too))
    (subst (λ (o : List ℕ). IsTold (order_response status o err) response) same (subst (λ (e : List ℕ). IsTold (order_response status output e) response) same_too told)))

-- one of the outputs isn't UTF-8
pub told_failed : (status : ℕ) (out err : List ℕ) (response : Response) → (IsUtf8 out → IsUtf8 err → ⊥) → IsWritten (fault_response 107) response → IsTold (printed_response status out err) response
told_failed status out err response other told = by (is_utf8 out) (is_utf8 err) refl refl
  where
    by : (a b : Bool) → is_utf8 out ≡ a → is_utf8 err ≡ b → IsTold (if a && b then order_response status out err else fault_response 107) response
    by true true text text_too = absurd (other (IsUtf8-from_is_utf8 out text) (IsUtf8-from_is_utf8 err text_too))
    by true false text text_too = inl told
    by false b text text_too = inl told

-- ---- the order is carried out

module _ {S : Type 0} (settings : ServerSettingsEntry) (state_of : Held S → State) (change : RecordChange) where
  -- the order was carried out, and the response was written
  pub console_followed : (old new : OfficeValue S) (got answer : List ℕ) (entry : ConsoleOrderEntry) (response : Response) → Asks settings.clients got (order entry)
      → FollowsEntry settings state_of change old entry (λ cut page. HasPrinted cut page response) new → EndsIn answer (λ before after ending. IsPut before after response ending)
      → FollowsConsole settings state_of change old got answer new
  console_followed old new got answer entry response asks it (served, put) = record {
    entry = entry;
    asks = asks;
    follows = record {
      files = it.files;
      asked = it.asked;
      is = it.is;
      agrees = it.agrees;
      fails = it.fails;
      tells = follows_sent state_of change old new it.files it.asked (λ cut page. HasPrinted cut page response) (λ cut page. IsInResponse cut page answer)
          (λ cut page has. (served, record { response = response; ready = has; put = put })) it.tells;
    };
  }

  -- an allocation failed while the order was read
  pub console_unread : (office : OfficeValue S) (got answer : List ℕ) (entry : ConsoleOrderEntry) → change.same → change.has_failed ≡ change.had_failed → Asks settings.clients got (order entry)
      → EndsIn answer (IsServed (IsWritten (fault_response 101)))
      → FollowsConsole settings state_of change office got answer office
  console_unread office got answer entry same still asks (served, it) =
      let page : Page = failed (Office Memory) in
      let has : HasPrinted uncut page it.response = record {
        told = record { out = Some []; out_failed = 0; err = Some page.err; err_failed = 0 };
        status = 3;
        shown = record { out = refl; out_failed = refl; err = refl; err_failed = refl; ends = refl };
        out = [];
        err = page.err;
        is_out = refl;
        is_err = refl;
        tells = inr it.ready;
      } in record {
        entry = entry;
        asks = asks;
        follows = record {
          files = [];
          asked = asked.Refused (Office Memory);
          is = inr (refl, refl);
          agrees = other_failure change.had_failed Memory;
          fails = λ had has. absurd (true≢false (sym has ∙ still ∙ had));
          tells = record {
            cut = uncut;
            page = page;
            told = (served, record { response = it.response; ready = has; put = it.put });
            does = λ clean is_open s at. (refl, record { is_open = is_open; at = at }, same);
            turned_away = λ closed. (refl, refl, same);
            clean = λ clean. clean;
          };
        };
      }

module _ {S R : Type 0} (settings : ServerSettingsEntry) (view : ServedView S R) where
  -- an allocation failed while a request was read; the cache is empty afterwards
  pub unread_served : (office : OfficeValue S) (kept later : MemoryEntry R) (number moment : ℕ) (got answer : List ℕ) (head : Parsed) → IsParsed settings.clients got head → later.reads ≡ []
      → later.recorder ≡ kept.recorder → EndsIn answer (IsServed (IsWritten (fault_response 101)))
      → ServesAsked settings view (served_office office kept) (record { listener = Clients; number = number; moment = moment; got = got; answer = answer }) (served_office office later)
  unread_served office kept later number moment got answer head is none same told =
      let it = asks_something settings.clients got head is in
      elim (asks_order_or_not settings.clients got it.0 it.1) [
        | inl free ↦ inl (inl (free, served_none settings.clients view office kept later number moment got answer none same told))
        | inr (entry, asks) ↦ inl (inr (
          console_unread settings view.state_of (change_in view kept.recorder later.recorder) office got answer entry same (ap view.failed same) asks told,
          none,
        ))
      ]

  -- the cache and the recorder are the same, and another wrong code may have been counted
  noted_so : (old : ServedOffice S R) (exchange : Exchange) (new : OfficeValue S) (kept : MemoryEntry R) (limit : LimitEntry)
      → ServesAsked settings view old exchange (served_office new kept)
      → ServesAsked settings view old exchange (served_office new (record { reads = kept.reads; limit = limit; recorder = kept.recorder }))
  noted_so old exchange new kept limit (inl (inl (free, it))) = inl (inl (free, noted_still settings.clients view old exchange new kept limit it))
  noted_so old exchange new kept limit (inl (inr (it, emptied))) = inl (inr (it, emptied))
  noted_so old exchange new kept limit (inr (inl it, emptied)) = inr (
    inl (record {
      clerk = it.clerk;
      batch = it.batch;
      entry = it.entry;
      asks = it.asks;
      told = it.told;
      recorded = it.recorded;
      failed = it.failed;
      stays = it.stays;
      same = it.same;
    }),
    emptied,
  )
  noted_so old exchange new kept limit (inr (inr it, emptied)) = inr (
    inr (record {
      clerk = it.clerk;
      batch = it.batch;
      entry = it.entry;
      request = it.request;
      asks = it.asks;
      handed = it.handed;
      was_open = it.was_open;
      accepted = it.accepted;
      had_not_failed = it.had_not_failed;
      failed = it.failed;
      recorded = it.recorded;
      leaves = it.leaves;
      told = it.told;
      clean = it.clean;
    }),
    emptied,
  )

  -- then a wrong code is counted
  pub noted_asked : (old : ServedOffice S R) (exchange : Exchange) (new : OfficeValue S) (kept later : MemoryEntry R) → later.reads ≡ kept.reads → later.recorder ≡ kept.recorder
      → ServesAsked settings view old exchange (served_office new kept) → ServesAsked settings view old exchange (served_office new later)
  noted_asked old exchange new kept later same same_recorder it =
      subst (λ (r : R). ServesAsked settings view old exchange (served_office new (record { reads = later.reads; limit = later.limit; recorder = r }))) (sym same_recorder)
      (subst (λ (rs : List ReadEntry). ServesAsked settings view old exchange (served_office new (record { reads = rs; limit = later.limit; recorder = kept.recorder }))) (sym same)
      (noted_so old exchange new kept later.limit it))
