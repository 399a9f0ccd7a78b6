-- Proof that `run` meets its contract.
use Rattle.std.proofs.Common.{◌∷◌, [], inl, inr, refl}
use Rattle.sqlite.specs.Held.{state}
use Rattle.store.proofs.KeepLemmas.{reads_connection}
use Rattle.office.specs.Answers.{IsOpenAt}
use Rattle.tables.specs.declared.fault.Fault.TheVariants.{Memory}
use Rattle.desk.specs.Pages.{failed, fronted, page_of, page_for}
use Rattle.desk.specs.Parts.{IsOver}
use Rattle.desk.specs.declared.lines.Failure.TheVariants.{Office}
use Rattle.desk.proofs.CauseLemmas.{since}
use Rattle.desk.proofs.CourseLemmas.{sent_turned, unsent_told}
use Rattle.desk.proofs.RecordLemmas.{none_recorded, stays_after_reading, stays_itself, stays_reading}
use Rattle.desk.proofs.order_running.run.Goals as goal

pub returns-in-Send-clause-ran : goal.returns-in-Send-clause-ran
returns-in-Send-clause-ran g c =
    let told = c.send_all.ensures.sent in
    record {
      page = told.page;
      cut = told.cut;
      shown = told.shown;
      is = λ clean is_open s at.
          let it = told.is clean is_open s at in
          (it.0, it.1, (_, c.opened-file.ensures, rw c.in-Send.is (inl (c.in-Send.request ∷ [], refl, rw c.from_ref-requests.ensures.value at it.2))), it.3);
    }

pub returns-in-Ok-clause-ran : goal.returns-in-Ok-clause-ran
returns-in-Ok-clause-ran g c =
    let told = c.send_all-in-Ok.ensures.sent in
    record {
      page = told.page;
      cut = told.cut;
      shown = told.shown;
      is = λ clean is_open s at.
          let it = told.is clean is_open s at in
          (it.0, it.1, (_, c.opened-file.ensures, rw c.in-ImportCandidates.is (inl (c.in-Ok.requests.items, c.in-Ok.ensures.rows, rw c.deref.ensures.value at it.2))), it.3);
    }

pub returns-in-ImportCandidates-clause-ran : goal.returns-in-ImportCandidates-clause-ran
returns-in-ImportCandidates-clause-ran g c =
    let told = c.tell.ensures in
    let page = page_of c.in-Err.outcome in
    let st = state g.S.Store c.args.office.now.held in
    record {
      page = fronted c.args.line page;
      cut = told.0;
      shown = told.1;
      is = λ clean is_open s at.
          let here : IsOpenAt s c.args.office.now.closed st = record { is_open = is_open; at = at } in (
            [],
            0,
            (
              _,
              c.opened-file.ensures,
              rw c.in-ImportCandidates.is (inr (unsent_told st c.args.office.now.closed st c.args.keep_going c.args.line _ s page told.0
                  (elim c.in-Err.ensures.refused [ inl why ↦ inl (why, here) | inr memory ↦ inr (Memory, memory, (inl refl, inl (record { memory = refl; open_at = here }))) ]))),
            ),
            none_recorded s [] (g.R.Recorder.found c.args.recorder.now) (g.R.Recorder.failed c.args.recorder.now),
          );
    }

pub returns-in-Ok-batch_requests-clause-ran : goal.returns-in-Ok-batch_requests-clause-ran
returns-in-Ok-batch_requests-clause-ran g c =
    let told = c.send_all-in-Ok-batch_requests.ensures.sent in
    record {
      page = told.page;
      cut = told.cut;
      shown = told.shown;
      is = λ clean is_open s at.
          let it = told.is clean is_open s at in (
            it.0,
            it.1,
            (
              _,
              c.opened-file.ensures,
              rw c.in-ImportBatches.is (inl (c.in-Ok-batch_requests.requests.items, c.in-Ok-batch_requests.ensures.rows, rw c.deref-in-Ok-batch_requests.ensures.value at it.2)),
            ),
            it.3,
          );
    }

pub returns-in-ImportBatches-clause-ran : goal.returns-in-ImportBatches-clause-ran
returns-in-ImportBatches-clause-ran g c =
    let told = c.tell-in-Err-batch_requests.ensures in
    let page = page_of c.in-Err-batch_requests.outcome in
    let st = state g.S.Store c.args.office.now.held in
    record {
      page = fronted c.args.line page;
      cut = told.0;
      shown = told.1;
      is = λ clean is_open s at.
          let here : IsOpenAt s c.args.office.now.closed st = record { is_open = is_open; at = at } in (
            [],
            0,
            (
              _,
              c.opened-file.ensures,
              rw c.in-ImportBatches.is (inr (unsent_told st c.args.office.now.closed st c.args.keep_going c.args.line _ s page told.0
                  (elim c.in-Err-batch_requests.ensures.refused [ inl why ↦ inl (why, here) | inr memory ↦ inr (Memory, memory, (inl refl, inl (record { memory = refl; open_at = here }))) ]))),
            ),
            none_recorded s [] (g.R.Recorder.found c.args.recorder.now) (g.R.Recorder.failed c.args.recorder.now),
          );
    }

pub returns-in-Ok-seal_of-clause-ran : goal.returns-in-Ok-seal_of-clause-ran
returns-in-Ok-seal_of-clause-ran g c =
    let told = c.send_all-in-Ok-seal_of.ensures.sent in
    record {
      page = told.page;
      cut = told.cut;
      shown = told.shown;
      is = λ clean is_open s at.
          let honest = c.send_all-in-Ok-seal_of.ensures.clean clean in
          let read = c.in-Ok-seal_of.ensures.read honest is_open s at in
          let first = state g.S.Store c.args.office.now.held in
          let mid = state g.S.Store c.seal_of.new.office.held in
          let next = state g.S.Store c.send_all-in-Ok-seal_of.new.office.held in
          let closed = c.send_all-in-Ok-seal_of.new.office.closed in
          let tells = since first mid next honest (reads_connection first mid c.seal_of.ensures.same) c.send_all-in-Ok-seal_of.ensures.keeps_connection in
          let it = told.is clean read.1.is_open s read.1.at in
          let sent = sent_turned {Then = IsOver closed next} {Else = IsOver closed next} {Q = Unit {0}} (g.R.Recorder.failed c.send_all-in-Ok-seal_of.new.recorder)
          first mid closed next c.args.keep_going c.args.line page_for tells (λ x e over gone. over) s (c.in-Ok-seal_of.request ∷ []) _ (λ gone. tt) it.2 in
          (it.0, it.1, (_, c.opened-file.ensures, rw c.in-SealExpected.is (inl (c.in-Ok-seal_of.request ∷ [], read.0, sent))), it.3);
    }

pub returns-in-SealExpected-clause-ran : goal.returns-in-SealExpected-clause-ran
returns-in-SealExpected-clause-ran g c =
    let told = c.tell-in-Err-seal_of.ensures in
    let page = page_of c.in-Err-seal_of.outcome in
    record {
      page = fronted c.args.line page;
      cut = told.0;
      shown = told.1;
      is = λ clean is_open s at. (
        [],
        0,
        (
          _,
          c.opened-file.ensures,
          rw c.in-SealExpected.is (inr (unsent_told (state g.S.Store c.args.office.now.held) c.seal_of.new.office.closed
              (state g.S.Store c.seal_of.new.office.held) c.args.keep_going c.args.line _ s page told.0
              (c.in-Err-seal_of.ensures.read clean is_open s at))),
        ),
        none_recorded s [] (g.R.Recorder.found c.args.recorder.now) (g.R.Recorder.failed c.args.recorder.now),
      );
    }

pub returns-in-Ok-keying_of-clause-ran : goal.returns-in-Ok-keying_of-clause-ran
returns-in-Ok-keying_of-clause-ran g c =
    let told = c.send_all-in-Ok-keying_of.ensures.sent in
    record {
      page = told.page;
      cut = told.cut;
      shown = told.shown;
      is = λ clean is_open s at.
          let honest = c.send_all-in-Ok-keying_of.ensures.clean clean in
          let read = c.in-Ok-keying_of.ensures.read honest is_open s at in
          let first = state g.S.Store c.args.office.now.held in
          let mid = state g.S.Store c.keying_of.new.office.held in
          let next = state g.S.Store c.send_all-in-Ok-keying_of.new.office.held in
          let closed = c.send_all-in-Ok-keying_of.new.office.closed in
          let tells = since first mid next honest (reads_connection first mid c.keying_of.ensures.same) c.send_all-in-Ok-keying_of.ensures.keeps_connection in
          let it = told.is clean read.1.is_open s read.1.at in
          let sent = sent_turned {Then = IsOver closed next} {Else = IsOver closed next} {Q = Unit {0}} (g.R.Recorder.failed c.send_all-in-Ok-keying_of.new.recorder)
          first mid closed next c.args.keep_going c.args.line page_for tells (λ x e over gone. over) s (c.in-Ok-keying_of.request ∷ []) _ (λ gone. tt) it.2 in
          (it.0, it.1, (_, c.opened-file.ensures, rw c.in-ImportKeying.is (inl (c.in-Ok-keying_of.request ∷ [], read.0, sent))), it.3);
    }

pub returns-in-ImportKeying-clause-ran : goal.returns-in-ImportKeying-clause-ran
returns-in-ImportKeying-clause-ran g c =
    let told = c.tell-in-Err-keying_of.ensures in
    let page = page_of c.in-Err-keying_of.outcome in
    record {
      page = fronted c.args.line page;
      cut = told.0;
      shown = told.1;
      is = λ clean is_open s at. (
        [],
        0,
        (
          _,
          c.opened-file.ensures,
          rw c.in-ImportKeying.is (inr (unsent_told (state g.S.Store c.args.office.now.held) c.keying_of.new.office.closed
              (state g.S.Store c.keying_of.new.office.held) c.args.keep_going c.args.line _ s page told.0
              (c.in-Err-keying_of.ensures.read clean is_open s at))),
        ),
        none_recorded s [] (g.R.Recorder.found c.args.recorder.now) (g.R.Recorder.failed c.args.recorder.now),
      );
    }

pub returns-in-Ok-advances-clause-ran : goal.returns-in-Ok-advances-clause-ran
returns-in-Ok-advances-clause-ran g c =
    let told = c.count_stages.ensures.counted in
    record {
      page = told.page;
      cut = told.cut;
      shown = told.shown;
      is = λ clean is_open s at.
          let it = told.is clean is_open s at c.args.keep_going c.in-Count.ward c.in-Count.id.now (rw c.deref-in-Ok-advances.ensures.value c.in-Ok-advances.ensures) in
          (it.0, it.1, (_, c.opened-file.ensures, rw c.in-Count.is (inl it.2)), it.3);
    }

pub returns-in-Count-clause-ran : goal.returns-in-Count-clause-ran
returns-in-Count-clause-ran g c =
    let told = c.tell-in-Err-advances.ensures in
    let st = state g.S.Store c.args.office.now.held in
    let page = failed (Office Memory) in
    record {
      page = fronted c.args.line page;
      cut = told.0;
      shown = told.1;
      is = λ clean is_open s at.
          let here : IsOpenAt s c.args.office.now.closed st = record { is_open = is_open; at = at } in (
            [],
            0,
            (
              _,
              c.opened-file.ensures,
              rw c.in-Count.is (inr (unsent_told st c.args.office.now.closed st c.args.keep_going c.args.line _ s page told.0
                  (inr (Memory, refl, (inl refl, inl (record { memory = refl; open_at = here })))))),
            ),
            none_recorded s [] (g.R.Recorder.found c.args.recorder.now) (g.R.Recorder.failed c.args.recorder.now),
          );
    }

pub returns-in-PrintNext-clause-ran : goal.returns-in-PrintNext-clause-ran
returns-in-PrintNext-clause-ran g c =
    let told = c.tell-in-PrintNext.ensures in
    record {
      page = fronted c.args.line (page_of c.next_of.result);
      cut = told.0;
      shown = told.1;
      is = λ clean is_open s at. (
        [],
        0,
        (
          _,
          c.opened-file.ensures,
          rw c.in-PrintNext.is (inr (unsent_told (state g.S.Store c.args.office.now.held) c.next_of.new.office.closed
              (state g.S.Store c.next_of.new.office.held) c.args.keep_going c.args.line _ s (page_of c.next_of.result) told.0
              (c.next_of.ensures.found clean is_open s at))),
        ),
        none_recorded s [] (g.R.Recorder.found c.args.recorder.now) (g.R.Recorder.failed c.args.recorder.now),
      );
    }

pub returns-in-PrintStatus-clause-ran : goal.returns-in-PrintStatus-clause-ran
returns-in-PrintStatus-clause-ran g c =
    let told = c.tell-in-PrintStatus.ensures in
    record {
      page = fronted c.args.line (page_of c.ward_status_of.result);
      cut = told.0;
      shown = told.1;
      is = λ clean is_open s at. (
        [],
        0,
        (
          _,
          c.opened-file.ensures,
          rw c.in-PrintStatus.is (inr (unsent_told (state g.S.Store c.args.office.now.held) c.ward_status_of.new.office.closed
              (state g.S.Store c.ward_status_of.new.office.held) c.args.keep_going c.args.line _ s (page_of c.ward_status_of.result) told.0
              (c.ward_status_of.ensures.found clean is_open s at))),
        ),
        none_recorded s [] (g.R.Recorder.found c.args.recorder.now) (g.R.Recorder.failed c.args.recorder.now),
      );
    }

pub returns-in-Print-clause-ran : goal.returns-in-Print-clause-ran
returns-in-Print-clause-ran g c =
    let told = c.tell-in-Print.ensures in
    record {
      page = fronted c.args.line (page_of c.text_of.result);
      cut = told.0;
      shown = told.1;
      is = λ clean is_open s at. (
        [],
        0,
        (
          _,
          c.opened-file.ensures,
          rw c.in-Print.is (inr (unsent_told (state g.S.Store c.args.office.now.held) c.text_of.new.office.closed
              (state g.S.Store c.text_of.new.office.held) c.args.keep_going c.args.line _ s (page_of c.text_of.result) told.0
              (c.text_of.ensures.found clean is_open s at))),
        ),
        none_recorded s [] (g.R.Recorder.found c.args.recorder.now) (g.R.Recorder.failed c.args.recorder.now),
      );
    }

pub returns-in-PrintIndex-clause-ran : goal.returns-in-PrintIndex-clause-ran
returns-in-PrintIndex-clause-ran g c =
    let told = c.tell-in-PrintIndex.ensures in
    record {
      page = fronted c.args.line (page_of c.index_of.result);
      cut = told.0;
      shown = told.1;
      is = λ clean is_open s at. (
        [],
        0,
        (
          _,
          c.opened-file.ensures,
          rw c.in-PrintIndex.is (inr (unsent_told (state g.S.Store c.args.office.now.held) c.index_of.new.office.closed
              (state g.S.Store c.index_of.new.office.held) c.args.keep_going c.args.line _ s (page_of c.index_of.result) told.0
              (c.index_of.ensures.found clean is_open s at))),
        ),
        none_recorded s [] (g.R.Recorder.found c.args.recorder.now) (g.R.Recorder.failed c.args.recorder.now),
      );
    }

pub returns-clause-ran : goal.returns-clause-ran
returns-clause-ran g c =
    let told = c.tell-in-Ask.ensures in
    record {
      page = fronted c.args.line (page_of c.answer_to.result);
      cut = told.0;
      shown = told.1;
      is = λ clean is_open s at. (
        [],
        0,
        (
          _,
          c.opened-file.ensures,
          rw c.in-Ask.is (inr (unsent_told (state g.S.Store c.args.office.now.held) c.answer_to.new.office.closed
              (state g.S.Store c.answer_to.new.office.held) c.args.keep_going c.args.line _ s (page_of c.answer_to.result) told.0
              (c.answer_to.ensures.found clean is_open s at))),
        ),
        none_recorded s [] (g.R.Recorder.found c.args.recorder.now) (g.R.Recorder.failed c.args.recorder.now),
      );
    }

pub returns-in-ImportCandidates-clause-untouched : goal.returns-in-ImportCandidates-clause-untouched
returns-in-ImportCandidates-clause-untouched g c = stays_itself g.R.Recorder.failed c.args.recorder.now (state g.S.Store c.args.office.now.held)

pub returns-in-ImportBatches-clause-untouched : goal.returns-in-ImportBatches-clause-untouched
returns-in-ImportBatches-clause-untouched g c = stays_itself g.R.Recorder.failed c.args.recorder.now (state g.S.Store c.args.office.now.held)

pub returns-in-Ok-seal_of-clause-untouched : goal.returns-in-Ok-seal_of-clause-untouched
returns-in-Ok-seal_of-clause-untouched g c = stays_after_reading g.R.Recorder.failed c.args.recorder.now c.send_all-in-Ok-seal_of.new.recorder (state g.S.Store c.args.office.now.held)
    (state g.S.Store c.seal_of.new.office.held) (state g.S.Store c.send_all-in-Ok-seal_of.new.office.held) c.seal_of.ensures.same c.send_all-in-Ok-seal_of.ensures.untouched

pub returns-in-SealExpected-clause-untouched : goal.returns-in-SealExpected-clause-untouched
returns-in-SealExpected-clause-untouched g c = stays_reading g.R.Recorder.failed c.args.recorder.now (state g.S.Store c.args.office.now.held) (state g.S.Store c.seal_of.new.office.held)
    c.seal_of.ensures.same

pub returns-in-Ok-keying_of-clause-untouched : goal.returns-in-Ok-keying_of-clause-untouched
returns-in-Ok-keying_of-clause-untouched g c = stays_after_reading g.R.Recorder.failed c.args.recorder.now c.send_all-in-Ok-keying_of.new.recorder (state g.S.Store c.args.office.now.held)
    (state g.S.Store c.keying_of.new.office.held) (state g.S.Store c.send_all-in-Ok-keying_of.new.office.held) c.keying_of.ensures.same c.send_all-in-Ok-keying_of.ensures.untouched

pub returns-in-ImportKeying-clause-untouched : goal.returns-in-ImportKeying-clause-untouched
returns-in-ImportKeying-clause-untouched g c = stays_reading g.R.Recorder.failed c.args.recorder.now (state g.S.Store c.args.office.now.held) (state g.S.Store c.keying_of.new.office.held)
    c.keying_of.ensures.same

pub returns-in-Count-clause-untouched : goal.returns-in-Count-clause-untouched
returns-in-Count-clause-untouched g c = stays_itself g.R.Recorder.failed c.args.recorder.now (state g.S.Store c.args.office.now.held)

pub returns-in-PrintNext-clause-untouched : goal.returns-in-PrintNext-clause-untouched
returns-in-PrintNext-clause-untouched g c = stays_reading g.R.Recorder.failed c.args.recorder.now (state g.S.Store c.args.office.now.held) (state g.S.Store c.next_of.new.office.held)
    c.next_of.ensures.same

pub returns-in-PrintStatus-clause-untouched : goal.returns-in-PrintStatus-clause-untouched
returns-in-PrintStatus-clause-untouched g c = stays_reading g.R.Recorder.failed c.args.recorder.now (state g.S.Store c.args.office.now.held) (state g.S.Store c.ward_status_of.new.office.held)
    c.ward_status_of.ensures.same

pub returns-in-Print-clause-untouched : goal.returns-in-Print-clause-untouched
returns-in-Print-clause-untouched g c = stays_reading g.R.Recorder.failed c.args.recorder.now (state g.S.Store c.args.office.now.held) (state g.S.Store c.text_of.new.office.held)
    c.text_of.ensures.same

pub returns-in-PrintIndex-clause-untouched : goal.returns-in-PrintIndex-clause-untouched
returns-in-PrintIndex-clause-untouched g c = stays_reading g.R.Recorder.failed c.args.recorder.now (state g.S.Store c.args.office.now.held) (state g.S.Store c.index_of.new.office.held)
    c.index_of.ensures.same

pub returns-clause-untouched : goal.returns-clause-untouched
returns-clause-untouched g c = stays_reading g.R.Recorder.failed c.args.recorder.now (state g.S.Store c.args.office.now.held) (state g.S.Store c.answer_to.new.office.held) c.answer_to.ensures.same
