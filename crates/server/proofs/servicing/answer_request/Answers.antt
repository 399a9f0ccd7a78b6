-- Proof that `answer_request` meets its contract.
use Rattle.std.proofs.Common.{◌∙◌, Option, inl, inr, refl, subst, sym}
use Rattle.sqlite.specs.Held.{state}
use Rattle.codes.specs.RateLimits.{limit_entry}
use Rattle.register.specs.declared.command.Request.{Request}
use Rattle.connections.specs.declared.client.Listener.TheVariants.{Clients}
use Rattle.wire.specs.ConsoleOrders.{console_order_entry}
use Rattle.wire.specs.Requests.{Asks, http_request_entry}
use Rattle.wire.specs.Serving.{keying_entry}
use Rattle.wire.specs.Gates.{settings_entry}
use Rattle.wire.specs.declared.request.HttpRequest.{HttpRequest}
use Rattle.wire.specs.declared.request.HttpRequest.TheVariants as variant
use Rattle.server.specs.Exchanges.{RecordsAccepted}
use Rattle.server.specs.Reads.{MemoryEntry, memory_entry, reads_in}
use Rattle.server.specs.RecordChanges.{change_of, served_view}
use Rattle.server.specs.Settings.{settings_by}
use Rattle.server.proofs.AnswerLemmas.{keeps_same, keyed_unrecorded, put_answers, served_anew, served_keyed}
use Rattle.server.proofs.ConsoleLemmas.{asks_no_order, changes_nothing, console_followed, unread_served}
use Rattle.server.proofs.servicing.answer_request.Goals as goal

pub returns-in_default-clause-served : goal.returns-in_default-clause-served
returns-in_default-clause-served g c = λ number moment.
    unread_served (settings_by g.A.ServedFile.whole (g.R.Recorder.records c.args.kept.now.recorder) c.args.server_settings)
    (served_view (state g.S.Store) g.R.Recorder.found g.R.Recorder.failed) c.args.office.now (memory_entry c.args.kept.now)
    (record { reads = reads_in c.empty.new.self; limit = limit_entry c.args.kept.now.limit; recorder = c.args.kept.now.recorder }) number moment c.args.got.now
    c.no_memory_response.result.bytes.items c.args.parsed c.requires c.empty.ensures refl c.no_memory_response.ensures.told

pub returns-in-Resource-clause-served : goal.returns-in-Resource-clause-served
returns-in-Resource-clause-served g c = λ number moment.
    let its = settings_entry c.args.server_settings.http in
    let asks = subst (λ (a : HttpRequest). Asks its c.args.got.now (http_request_entry a)) c.in-Resource.is (c.in-Ok.ensures c.requires) in
    inl (inl (asks_no_order its c.args.got.now (http_request_entry (variant.Resource c.in-Resource.what)) asks refl, c.answer_reading.ensures.served its number moment c.args.got.now asks))

-- a keying, but the record has failed before
pub returns-then-has_failed-clause-served : goal.returns-then-has_failed-clause-served
returns-then-has_failed-clause-served g c = λ number moment.
    let its = settings_entry c.args.server_settings.http in
    let got = c.args.got.now in
    let k = c.in-Keying.keying in
    let asks = subst (λ (a : HttpRequest). Asks its got (http_request_entry a)) c.in-Keying.is (c.in-Ok.ensures c.requires) in
    let told = c.unrecorded_response.ensures.told
    (record { listener = Clients; number = number; moment = moment; got = got; answer = c.unrecorded_response.result.bytes.items }) refl in
    let failed = sym c.has_failed.ensures.value ∙ c.if-has_failed.true in
    inr (
      inl (record {
        clerk = k.clerk;
        batch = k.batch;
        entry = keying_entry k;
        asks = asks;
        told = told;
        recorded = c.has_failed.ensures.recorded failed;
        failed = failed;
        stays = refl;
        same = refl;
      }),
      c.empty-in-Keying.ensures,
    )

-- a keying that wasn't accepted
pub returns-in-None-clause-served : goal.returns-in-None-clause-served
returns-in-None-clause-served g c = λ number moment.
    let its = settings_entry c.args.server_settings.http in
    let view = served_view (state g.S.Store) g.R.Recorder.found g.R.Recorder.failed in
    let got = c.args.got.now in
    let k = c.in-Keying.keying in
    let did = c.handle_keying-response in
    let asked = http_request_entry (variant.Keying k) in
    let asks = subst (λ (a : HttpRequest). Asks its got (http_request_entry a)) c.in-Keying.is (c.in-Ok.ensures c.requires) in
    let later : MemoryEntry _ = record { reads = reads_in c.empty-in-Keying.new.self; limit = limit_entry c.args.kept.now.limit; recorder = c.args.kept.now.recorder } in
    inl (inl (
      asks_no_order its got asked asks refl,
      served_keyed its view c.args.office.now did.new.office (memory_entry c.args.kept.now) later number moment got k.clerk k.batch (keying_entry k) did.result.response
          did.result.accepted c.written.result.bytes.items asks
          (put_answers (state g.S.Store) c.args.office.now did.new.office asked c.written.result.bytes.items did.result.response c.written.ensures.put did.ensures.answers
          did.ensures.closed_told did.ensures.closed did.ensures.clean) c.empty-in-Keying.ensures (sym c.has_failed.ensures.value ∙ c.if-has_failed.false) did.ensures.accepts
          did.ensures.closed_none c.written.ensures.put
          (subst (λ (o : Option Request). RecordsAccepted view c.args.kept.now.recorder c.args.kept.now.recorder o) (sym c.in-None.is) refl),
    ))

-- a keying that was accepted, and recorded
pub returns-in-Ok-record-clause-served : goal.returns-in-Ok-record-clause-served
returns-in-Ok-record-clause-served g c = λ number moment.
    let its = settings_entry c.args.server_settings.http in
    let view = served_view (state g.S.Store) g.R.Recorder.found g.R.Recorder.failed in
    let got = c.args.got.now in
    let k = c.in-Keying.keying in
    let did = c.handle_keying-response in
    let recorded = c.record in
    let asked = http_request_entry (variant.Keying k) in
    let asks = subst (λ (a : HttpRequest). Asks its got (http_request_entry a)) c.in-Keying.is (c.in-Ok.ensures c.requires) in
    let later : MemoryEntry _ = record { reads = reads_in c.empty-in-Keying.new.self; limit = limit_entry c.args.kept.now.limit; recorder = recorded.new.self } in
    inl (inl (
      asks_no_order its got asked asks refl,
      served_keyed its view c.args.office.now did.new.office (memory_entry c.args.kept.now) later number moment got k.clerk k.batch (keying_entry k) did.result.response
          did.result.accepted c.written-in-Ok-record.result.bytes.items asks
          (put_answers (state g.S.Store) c.args.office.now did.new.office asked c.written-in-Ok-record.result.bytes.items did.result.response c.written-in-Ok-record.ensures.put
          did.ensures.answers did.ensures.closed_told did.ensures.closed did.ensures.clean) c.empty-in-Keying.ensures (sym c.has_failed.ensures.value ∙ c.if-has_failed.false)
          did.ensures.accepts did.ensures.closed_none c.written-in-Ok-record.ensures.put
          (subst (λ (o : Option Request). RecordsAccepted view c.args.kept.now.recorder recorded.new.self o) (sym c.in-Some.is)
          (c.in-Ok-record.ensures.ok.1, recorded.ensures.recorded (sym c.has_failed.ensures.value ∙ c.if-has_failed.false))),
    ))

-- a keying that was accepted, but recording it failed
pub returns-in-Keying-clause-served : goal.returns-in-Keying-clause-served
returns-in-Keying-clause-served g c = λ number moment.
    let settings = settings_by g.A.ServedFile.whole (g.R.Recorder.records c.args.kept.now.recorder) c.args.server_settings in
    let view = served_view (state g.S.Store) g.R.Recorder.found g.R.Recorder.failed in
    let got = c.args.got.now in
    let k = c.in-Keying.keying in
    let did = c.handle_keying-response in
    let recorded = c.record in
    let asks = subst (λ (a : HttpRequest). Asks settings.clients got (http_request_entry a)) c.in-Keying.is (c.in-Ok.ensures c.requires) in
    let later : MemoryEntry _ = record { reads = reads_in c.empty-in-Keying.new.self; limit = limit_entry c.args.kept.now.limit; recorder = recorded.new.self } in
    let unfailed = sym c.has_failed.ensures.value ∙ c.if-has_failed.false in
    let told = c.unrecorded_response-in-Err.ensures.told
    (record { listener = Clients; number = number; moment = moment; got = got; answer = c.unrecorded_response-in-Err.result.bytes.items }) refl in
    inr (
      inr (keyed_unrecorded settings view c.args.office.now did.new.office (memory_entry c.args.kept.now) later
          (record { listener = Clients; number = number; moment = moment; got = got; answer = c.unrecorded_response-in-Err.result.bytes.items }) k.clerk k.batch (keying_entry k)
          did.result.response did.result.accepted c.in-Some.request c.in-Some.is asks unfailed did.ensures.accepts did.ensures.handed did.ensures.closed_none
          c.in-Err.ensures.err.1 c.in-Err.ensures.err.0 (recorded.ensures.recorded unfailed) told did.ensures.clean),
      c.empty-in-Keying.ensures,
    )

pub returns-in-Order-clause-served : goal.returns-in-Order-clause-served
returns-in-Order-clause-served g c = λ number moment.
    let its = settings_entry c.args.server_settings.http in
    let did = c.answer_console-response in
    let asks = subst (λ (a : HttpRequest). Asks its c.args.got.now (http_request_entry a)) c.in-Order.is (c.in-Ok.ensures c.requires) in
    inl (inr (
      console_followed (settings_by g.A.ServedFile.whole (g.R.Recorder.records c.args.kept.now.recorder) c.args.server_settings) (state g.S.Store)
          (change_of g.R.Recorder.found g.R.Recorder.failed c.args.kept.now.recorder did.new.recorder) c.args.office.now did.new.office c.args.got.now
          c.written-in-Order.result.bytes.items (console_order_entry c.in-Order.order) did.result asks did.ensures.followed c.written-in-Order.ensures.put,
      c.empty-in-Order.ensures,
    ))

-- a page, or a rejection
pub returns : goal.returns
returns g c =
    let its = settings_entry c.args.server_settings.http in
    let view = served_view (state g.S.Store) g.R.Recorder.found g.R.Recorder.failed in
    let did = c.answer_uncached in
    let kept = memory_entry c.args.kept.now in
    let asked = http_request_entry c.in-Ok.asked in
    let asks = c.in-Ok.ensures c.requires in
    let still = changes_nothing c.in-Ok.asked c.in_default-asked.not-Keying c.in_default-asked.not-Order in
    record {
      served = λ number moment. inl (inl (
        asks_no_order its c.args.got.now asked asks still.1,
        served_anew its view c.args.office.now did.new.office kept kept number moment c.args.got.now asked did.result.bytes.items asks still.0 did.ensures.answers
            (keeps_same its view c.args.office.now did.new.office kept c.args.got.now asked asks still.0 (did.ensures.only still.0)) refl,
      ));
      limit = refl;
      same = refl;
      untold = did.ensures.untold;
    }
