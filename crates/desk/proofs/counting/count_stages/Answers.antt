-- Proof that `count_stages` meets its contract.
use Rattle.std.proofs.Common.{◌≡◌, ◌≢◌, ◌∙◌, ◌<◌, ◌∷◌, [], false, true≢false, length, refl, sym, subst, arith}
use Rattle.sqlite.specs.Held.{state}
use Rattle.store.proofs.KeepLemmas.{connection_itself, connection_then}
use Rattle.desk.specs.Headline.{ended, told_above}
use Rattle.desk.specs.Pages.{below, cut_below, uncut, empty_page, fronted, page_counted, page_of}
use Rattle.desk.specs.Parts.{IsStageBy}
use Rattle.desk.specs.Records.{IsRecordOf}
use Rattle.desk.proofs.CauseLemmas.{since}
use Rattle.desk.proofs.CourseLemmas.{few_answered, nothing_more, replied_after}
use Rattle.desk.proofs.PageLemmas.{fronted_status, shown_last, whole_more}
use Rattle.desk.proofs.RecordLemmas.{recorded_all, recorded_end, recorded_last, stays_itself, stays_then}
use Rattle.desk.proofs.StageLemmas.{none_counted, page_under, stage_last, stage_more, stage_since, stages_all}
use Rattle.desk.proofs.TellingLemmas.{goes_after_zero, nothing_told, shown_else, shown_whole, shown_zero, told_all}
use Rattle.desk.proofs.counting.count_stages.Goals as goal

pub loop-request-init : goal.loop-request-init
loop-request-init g c = record {
  keeps_connection = connection_itself (state g.S.Store c.args.office.now.held);
  clean = λ clean. clean;
  same = refl;
  untouched = stays_itself g.R.Recorder.failed c.args.recorder.now (state g.S.Store c.args.office.now.held);
  so_far = record {
    said = _;
    shown = nothing_told _;
    is = λ clean is_open s at keep ward id are. (none_counted keep _ s ward id _ _ _ (record { is_open = is_open; at = at }) are, λ fine. (fine, λ was. was));
  };
}

pub loop-request-preserved : goal.loop-request-preserved
loop-request-preserved g c =
    let rs = c.args.requests.now in
    let line = c.args.line in
    let i = c.loop-request.request-index in
    let within : i < length rs = omega arith in
    let so_far = c.loop-request.invariant.so_far in
    let page = page_of c.stage_of-outcome.result.0 in
    let told = c.tell-status.ensures in
    let zero : c.tell-status.result ≡ 0 = c.if-status-ne0.false in
    let fine = shown_zero told.0 _ _ (fronted line page) c.tell-status.result told.1 zero in
    let first = state g.S.Store c.args.office.now.held in
    let mid = state g.S.Store c.loop-request.office.held in
    let next = state g.S.Store c.stage_of-outcome.new.office.held in
    let closed = c.stage_of-outcome.new.office.closed in
    record {
      keeps_connection = connection_then first mid next c.stage_of-outcome.ensures.clean c.loop-request.invariant.keeps_connection c.stage_of-outcome.ensures.keeps_connection;
      clean = λ clean. c.loop-request.invariant.clean (c.stage_of-outcome.ensures.clean clean);
      same = c.stage_of-outcome.ensures.same ∙ c.loop-request.invariant.same;
      untouched = stays_then g.R.Recorder.failed c.args.recorder.now c.loop-request.recorder c.stage_of-outcome.new.recorder first mid next c.loop-request.invariant.untouched
          c.stage_of-outcome.ensures.untouched;
      so_far = record {
        said = below so_far.said (fronted line page);
        shown = rw zero at (whole_more _ _ _ so_far.said (fronted line page) 0 c.tell-status.result so_far.shown
            (shown_whole false told.0 _ _ (fronted line page) c.tell-status.result told.1 (goes_after_zero false c.tell-status.result zero)));
        is = λ clean is_open s at keep ward id are.
            let so = so_far.is (c.stage_of-outcome.ensures.clean clean) is_open s at keep ward id are in
            let it = c.stage_of-outcome.ensures.told clean so.0.open_at.is_open so.0.end so.0.open_at.at in
            let known_is = rw (c.as_str.ensures.value, c.first_id-first.ensures ward id are) at c.eq-is_first.ensures in
            let recorded = g.R.Recorder.failed c.stage_of-outcome.new.recorder in
            let more = stage_more recorded first keep line s ward id rs mid i c.request-item.result so_far.said c.loop-request.office.closed mid page it.0 closed next within c.request-item.is so.0
            c.eq-is_first.result known_is
            (subst (IsStageBy recorded mid closed next c.eq-is_first.result so.0.end c.request-item.result page it.0) c.if-not-more.false it.1) (sym (fronted_status line page) ∙ fine.1) in
            let found = g.R.Recorder.found c.stage_of-outcome.new.recorder in (
              more.0,
              λ unfailed.
                  let before = so.1 unfailed in
                  let kept = it.2 before.0 in (
                    kept.unfailed more.2,
                    λ was. subst (IsRecordOf found) (sym more.1) (recorded_all so.0.end (c.request-item.result ∷ []) it.0 (g.R.Recorder.found c.loop-request.recorder) found
                        (g.R.Recorder.failed c.stage_of-outcome.new.recorder) more.2 kept (before.1 was)),
                  ),
            );
      };
    }

-- a page that ends the sequence with a status other than 0
pub returns-then-status-ne0-clause-counted : goal.returns-then-status-ne0-clause-counted
returns-then-status-ne0-clause-counted g c =
    let rs = c.args.requests.now in
    let line = c.args.line in
    let i = c.loop-request.request-index in
    let within : i < length rs = omega arith in
    let so_far = c.loop-request.invariant.so_far in
    let page = page_of c.stage_of-outcome.result.0 in
    let told = c.tell-status.ensures in
    let other : c.tell-status.result ≢ 0 = c.if-status-ne0.true in
    let first = state g.S.Store c.args.office.now.held in
    let mid = state g.S.Store c.loop-request.office.held in
    let next = state g.S.Store c.stage_of-outcome.new.office.held in
    let closed = c.stage_of-outcome.new.office.closed in
    record {
      page = below so_far.said (fronted line page);
      cut = cut_below so_far.said.out told.0;
      shown = shown_last told.0 _ _ _ so_far.said (fronted line page) 0 c.tell-status.result so_far.shown told.1 other;
      is = λ clean is_open s at keep ward id are.
          let honest = c.stage_of-outcome.ensures.clean clean in
          let so = so_far.is honest is_open s at keep ward id are in
          let tells = since first mid next honest c.loop-request.invariant.keeps_connection c.stage_of-outcome.ensures.keeps_connection in
          let known_is = rw (c.as_str.ensures.value, c.first_id-first.ensures ward id are) at c.eq-is_first.ensures in
          let it = c.stage_of-outcome.ensures.told clean so.0.open_at.is_open so.0.end so.0.open_at.at in
          let recorded = g.R.Recorder.failed c.stage_of-outcome.new.recorder in
          let first_is = c.eq-is_first.result in
          let goes = c.stage_of-outcome.result.1 in
          let r = c.request-item.result in
          let met = it.1 in
          let stage = stage_since recorded first mid closed next first_is so.0.end r page it.0 goes tells met in
          let counted = stage_last recorded first keep line s ward id rs i r so_far.said c.loop-request.office.closed mid page told.0 it.0
          goes closed next within c.request-item.is so.0 first_is known_is stage
          (λ yes zero. shown_else told.0 _ _ (fronted line page) c.tell-status.result told.1 other (fronted_status line page ∙ zero)) in
          let course = told_above so.0.front so_far.said (ended line (r ∷ counted.0) it.0 page told.0) in (
            course.requests,
            course.answered,
            counted.1,
            λ unfailed.
                let before = so.1 unfailed in
                recorded_last s so.0.end so.0.front r counted.0 it.0 (g.R.Recorder.found c.args.recorder.now) (g.R.Recorder.found c.loop-request.recorder)
                (g.R.Recorder.found c.stage_of-outcome.new.recorder) (g.R.Recorder.failed c.stage_of-outcome.new.recorder)
                (replied_after keep line (page_under id) s so.0.front so_far.said so.0.end so.0.replied) before.1
                (few_answered recorded mid closed next (λ t q. page_counted first_is) so.0.end r it.0 page met.0) (it.2 before.0),
          );
    }

pub returns-then-status-ne0-clause-keeps_connection : goal.returns-then-status-ne0-clause-keeps_connection
returns-then-status-ne0-clause-keeps_connection g c = connection_then (state g.S.Store c.args.office.now.held) (state g.S.Store c.loop-request.office.held)
    (state g.S.Store c.stage_of-outcome.new.office.held) c.stage_of-outcome.ensures.clean c.loop-request.invariant.keeps_connection
    c.stage_of-outcome.ensures.keeps_connection

-- the count rests, and its page was written whole
pub returns-then-not-more-clause-counted : goal.returns-then-not-more-clause-counted
returns-then-not-more-clause-counted g c =
    let rs = c.args.requests.now in
    let line = c.args.line in
    let i = c.loop-request.request-index in
    let within : i < length rs = omega arith in
    let so_far = c.loop-request.invariant.so_far in
    let page = page_of c.stage_of-outcome.result.0 in
    let told = c.tell-status.ensures in
    let zero : c.tell-status.result ≡ 0 = c.if-status-ne0.false in
    let fine = shown_zero told.0 _ _ (fronted line page) c.tell-status.result told.1 zero in
    let first = state g.S.Store c.args.office.now.held in
    let mid = state g.S.Store c.loop-request.office.held in
    let next = state g.S.Store c.stage_of-outcome.new.office.held in
    let closed = c.stage_of-outcome.new.office.closed in
    record {
      page = below so_far.said (fronted line page);
      cut = cut_below so_far.said.out told.0;
      shown = rw fine.0 (rw zero at (whole_more _ _ _ so_far.said (fronted line page) 0 c.tell-status.result so_far.shown
          (shown_whole false told.0 _ _ (fronted line page) c.tell-status.result told.1 (goes_after_zero false c.tell-status.result zero))));
      is = λ clean is_open s at keep ward id are.
          let honest = c.stage_of-outcome.ensures.clean clean in
          let so = so_far.is honest is_open s at keep ward id are in
          let tells = since first mid next honest c.loop-request.invariant.keeps_connection c.stage_of-outcome.ensures.keeps_connection in
          let known_is = rw (c.as_str.ensures.value, c.first_id-first.ensures ward id are) at c.eq-is_first.ensures in
          let it = c.stage_of-outcome.ensures.told clean so.0.open_at.is_open so.0.end so.0.open_at.at in
          let recorded = g.R.Recorder.failed c.stage_of-outcome.new.recorder in
          let first_is = c.eq-is_first.result in
          let goes = c.stage_of-outcome.result.1 in
          let r = c.request-item.result in
          let met = it.1 in
          let stage = stage_since recorded first mid closed next first_is so.0.end r page it.0 goes tells met in
          let counted = stage_last recorded first keep line s ward id rs i r so_far.said c.loop-request.office.closed mid page told.0 it.0
          goes closed next within c.request-item.is so.0 first_is known_is stage
          (λ yes none. absurd (true≢false (sym yes ∙ c.if-not-more.true))) in
          let course = told_above so.0.front so_far.said (ended line (r ∷ counted.0) it.0 page told.0) in (
            course.requests,
            course.answered,
            counted.1,
            λ unfailed.
                let before = so.1 unfailed in
                recorded_last s so.0.end so.0.front r counted.0 it.0 (g.R.Recorder.found c.args.recorder.now) (g.R.Recorder.found c.loop-request.recorder)
                (g.R.Recorder.found c.stage_of-outcome.new.recorder) (g.R.Recorder.failed c.stage_of-outcome.new.recorder)
                (replied_after keep line (page_under id) s so.0.front so_far.said so.0.end so.0.replied) before.1
                (few_answered recorded mid closed next (λ t q. page_counted first_is) so.0.end r it.0 page met.0) (it.2 before.0),
          );
    }

pub returns-then-not-more-clause-keeps_connection : goal.returns-then-not-more-clause-keeps_connection
returns-then-not-more-clause-keeps_connection g c = connection_then (state g.S.Store c.args.office.now.held) (state g.S.Store c.loop-request.office.held)
    (state g.S.Store c.stage_of-outcome.new.office.held) c.stage_of-outcome.ensures.clean c.loop-request.invariant.keeps_connection
    c.stage_of-outcome.ensures.keeps_connection

pub returns-clause-counted : goal.returns-clause-counted
returns-clause-counted g c =
    let so_far = c.loop-request.invariant.so_far in
    record {
      page = below so_far.said empty_page;
      cut = uncut;
      shown = told_all _ _ so_far.said 0 so_far.shown;
      is = λ clean is_open s at keep ward id are.
          let so = so_far.is clean is_open s at keep ward id are in
          let course = told_above so.0.front so_far.said nothing_more in (
            course.requests,
            course.answered,
            stages_all (g.R.Recorder.failed c.loop-request.recorder) (state g.S.Store c.args.office.now.held) keep c.args.line s ward id c.args.requests.now c.loop-request.request-index so_far.said
                c.loop-request.office.closed (state g.S.Store c.loop-request.office.held) c.loop-request-test.false so.0,
            λ unfailed.
                let before = so.1 unfailed in
                recorded_end s so.0.end so.0.front (g.R.Recorder.found c.args.recorder.now) (g.R.Recorder.found c.loop-request.recorder) (g.R.Recorder.failed c.loop-request.recorder)
                (replied_after keep c.args.line (page_under id) s so.0.front so_far.said so.0.end so.0.replied) before.0 before.1,
          );
    }

pub returns-then-status-ne0-clause-untouched : goal.returns-then-status-ne0-clause-untouched
returns-then-status-ne0-clause-untouched g c = stays_then g.R.Recorder.failed c.args.recorder.now c.loop-request.recorder c.stage_of-outcome.new.recorder (state g.S.Store c.args.office.now.held)
    (state g.S.Store c.loop-request.office.held) (state g.S.Store c.stage_of-outcome.new.office.held) c.loop-request.invariant.untouched c.stage_of-outcome.ensures.untouched

pub returns-then-not-more-clause-untouched : goal.returns-then-not-more-clause-untouched
returns-then-not-more-clause-untouched g c = stays_then g.R.Recorder.failed c.args.recorder.now c.loop-request.recorder c.stage_of-outcome.new.recorder (state g.S.Store c.args.office.now.held)
    (state g.S.Store c.loop-request.office.held) (state g.S.Store c.stage_of-outcome.new.office.held) c.loop-request.invariant.untouched c.stage_of-outcome.ensures.untouched
