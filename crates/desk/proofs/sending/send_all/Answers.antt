-- Proof that `send_all` meets its contract.
use Rattle.std.proofs.Common.{◌≡◌, ◌∙◌, ◌<◌, ◌+◌, ◌∷◌, [], true, false, drop, take, length, ap, refl, subst, sym, arith}
use Rattle.sqlite.specs.Held.{state}
use Rattle.store.proofs.KeepLemmas.{connection_itself, connection_then}
use Rattle.desk.specs.Headline.{ended, told_above}
use Rattle.desk.specs.Pages.{below, cut_below, uncut, empty_page, fronted, goes_on, page_of, page_for}
use Rattle.desk.specs.Records.{IsRecordOf}
use Rattle.desk.proofs.CauseLemmas.{since}
use Rattle.desk.proofs.CourseLemmas.{answered_since, few_answered, none_sent, nothing_more, replied_after, sent_all, sent_last, sent_more}
use Rattle.desk.proofs.PageLemmas.{shown_last, whole_more}
use Rattle.desk.proofs.RecordLemmas.{recorded_all, recorded_end, recorded_last, stays_itself, stays_then}
use Rattle.desk.proofs.TellingLemmas.{nothing_told, shown_goes, shown_stops, shown_whole, stops_by, told_all}
use Rattle.desk.proofs.sending.send_all.Goals as goal

pub loop-request-init : goal.loop-request-init
loop-request-init g c = record {
  keeps_connection = connection_itself (state g.S.Store c.args.office.now.held);
  clean = λ clean. clean;
  same = refl;
  untouched = stays_itself g.R.Recorder.failed c.args.recorder.now (state g.S.Store c.args.office.now.held);
  so_far = record { said = _; shown = nothing_told _; is = λ clean is_open s at. (none_sent _ _ _ s _ _ _ (record { is_open = is_open; at = at }), λ fine. (fine, λ was. was)) };
}

pub loop-request-preserved : goal.loop-request-preserved
loop-request-preserved g c =
    let rs = c.args.requests.now in
    let keep = c.args.keep_going in
    let line = c.args.line in
    let i = c.loop-request.request-index in
    let within : i < length rs = omega arith in
    let so_far = c.loop-request.invariant.so_far in
    let page = page_of c.outcome_of.result in
    let told = c.tell-status.ensures in
    let goes : goes_on keep c.tell-status.result ≡ true = sym c.goes_on.ensures ∙ c.if-not-goes_on.false in
    let fine = shown_goes keep told.0 _ _ (fronted line page) c.tell-status.result told.1 goes in
    let first = state g.S.Store c.args.office.now.held in
    let mid = state g.S.Store c.loop-request.office.held in
    let next = state g.S.Store c.outcome_of.new.office.held in
    record {
      keeps_connection = connection_then first mid next c.outcome_of.ensures.clean c.loop-request.invariant.keeps_connection c.outcome_of.ensures.keeps_connection;
      clean = λ clean. c.loop-request.invariant.clean (c.outcome_of.ensures.clean clean);
      same = c.outcome_of.ensures.same ∙ c.loop-request.invariant.same;
      untouched = stays_then g.R.Recorder.failed c.args.recorder.now c.loop-request.recorder c.outcome_of.new.recorder first mid next c.loop-request.invariant.untouched c.outcome_of.ensures.untouched;
      so_far = record {
        said = below so_far.said (fronted line page);
        shown = rw c.combined_status-ends.ensures (whole_more _ _ _ so_far.said (fronted line page) c.loop-request.ends c.tell-status.result so_far.shown
            (shown_whole keep told.0 _ _ (fronted line page) c.tell-status.result told.1 goes));
        is = λ clean is_open s at.
            let so = so_far.is (c.outcome_of.ensures.clean clean) is_open s at in
            let it = c.outcome_of.ensures.told clean so.0.open_at.is_open so.0.end so.0.open_at.at in
            let more = sent_more (g.R.Recorder.failed c.outcome_of.new.recorder) first keep line page_for s rs mid i c.request-item.result so_far.said c.loop-request.office.closed mid page it.0
            c.outcome_of.new.office.closed next within c.request-item.is so.0 it.1
            (ap (goes_on keep) fine.1 ∙ goes) in
            let found = g.R.Recorder.found c.outcome_of.new.recorder in (
              more.0,
              λ unfailed.
                  let before = so.1 unfailed in
                  let kept = it.2 before.0 in (
                    kept.unfailed more.2,
                    λ was. subst (IsRecordOf found) (sym more.1) (recorded_all so.0.end (c.request-item.result ∷ []) it.0 (g.R.Recorder.found c.loop-request.recorder) found
                        (g.R.Recorder.failed c.outcome_of.new.recorder) more.2 kept (before.1 was)),
                  ),
            );
      };
    }

pub returns-then-not-goes_on-clause-sent : goal.returns-then-not-goes_on-clause-sent
returns-then-not-goes_on-clause-sent g c =
    let rs = c.args.requests.now in
    let keep = c.args.keep_going in
    let line = c.args.line in
    let i = c.loop-request.request-index in
    let within : i < length rs = omega arith in
    let so_far = c.loop-request.invariant.so_far in
    let page = page_of c.outcome_of.result in
    let told = c.tell-status.ensures in
    let stops : goes_on keep c.tell-status.result ≡ false = sym c.goes_on.ensures ∙ c.if-not-goes_on.true in
    let first = state g.S.Store c.args.office.now.held in
    let mid = state g.S.Store c.loop-request.office.held in
    let next = state g.S.Store c.outcome_of.new.office.held in
    let closed = c.outcome_of.new.office.closed in
    let r = c.request-item.result in
    record {
      page = below so_far.said (fronted line page);
      cut = cut_below so_far.said.out told.0;
      shown = shown_last told.0 _ _ _ so_far.said (fronted line page) c.loop-request.ends c.tell-status.result so_far.shown told.1 (stops_by keep c.tell-status.result stops);
      is = λ clean is_open s at.
          let honest = c.outcome_of.ensures.clean clean in
          let so = so_far.is honest is_open s at in
          let tells = since first mid next honest c.loop-request.invariant.keeps_connection c.outcome_of.ensures.keeps_connection in
          let it = c.outcome_of.ensures.told clean so.0.open_at.is_open so.0.end so.0.open_at.at in
          let recorded = g.R.Recorder.failed c.outcome_of.new.recorder in
          let met = it.1 in
          let here = answered_since recorded first mid closed next page_for so.0.end r it.0 page tells met in
          let course = told_above (take i rs) so_far.said (ended line (r ∷ drop (i + 1) rs) it.0 page told.0) in (
            course.requests,
            course.answered,
            sent_last recorded first keep line page_for s rs i r so_far.said c.loop-request.office.closed mid page told.0 it.0 closed next within c.request-item.is so.0 here
                (shown_stops keep told.0 _ _ (fronted line page) c.tell-status.result told.1 stops),
            λ unfailed.
                let before = so.1 unfailed in
                recorded_last s so.0.end (take i rs) r (drop (i + 1) rs) it.0 (g.R.Recorder.found c.args.recorder.now) (g.R.Recorder.found c.loop-request.recorder)
                (g.R.Recorder.found c.outcome_of.new.recorder) (g.R.Recorder.failed c.outcome_of.new.recorder)
                (replied_after keep line page_for s (take i rs) so_far.said so.0.end so.0.replied) before.1
                (few_answered recorded mid closed next page_for so.0.end r it.0 page met) (it.2 before.0),
          );
    }

pub returns-then-not-goes_on-clause-keeps_connection : goal.returns-then-not-goes_on-clause-keeps_connection
returns-then-not-goes_on-clause-keeps_connection g c = connection_then (state g.S.Store c.args.office.now.held) (state g.S.Store c.loop-request.office.held)
    (state g.S.Store c.outcome_of.new.office.held) c.outcome_of.ensures.clean c.loop-request.invariant.keeps_connection
    c.outcome_of.ensures.keeps_connection

pub returns-clause-sent : goal.returns-clause-sent
returns-clause-sent g c =
    let rs = c.args.requests.now in
    let i = c.loop-request.request-index in
    let so_far = c.loop-request.invariant.so_far in
    record {
      page = below so_far.said empty_page;
      cut = uncut;
      shown = told_all _ _ so_far.said c.loop-request.ends so_far.shown;
      is = λ clean is_open s at.
          let so = so_far.is clean is_open s at in
          let course = told_above (take i rs) so_far.said nothing_more in (
            course.requests,
            course.answered,
            sent_all (g.R.Recorder.failed c.loop-request.recorder) (state g.S.Store c.args.office.now.held) c.args.keep_going c.args.line page_for s rs i so_far.said c.loop-request.office.closed
                (state g.S.Store c.loop-request.office.held) c.loop-request-test.false so.0,
            λ unfailed.
                let before = so.1 unfailed in
                recorded_end s so.0.end (take i rs) (g.R.Recorder.found c.args.recorder.now) (g.R.Recorder.found c.loop-request.recorder) (g.R.Recorder.failed c.loop-request.recorder)
                (replied_after c.args.keep_going c.args.line page_for s (take i rs) so_far.said so.0.end so.0.replied) before.0 before.1,
          );
    }

pub returns-then-not-goes_on-clause-untouched : goal.returns-then-not-goes_on-clause-untouched
returns-then-not-goes_on-clause-untouched g c = stays_then g.R.Recorder.failed c.args.recorder.now c.loop-request.recorder c.outcome_of.new.recorder (state g.S.Store c.args.office.now.held)
    (state g.S.Store c.loop-request.office.held) (state g.S.Store c.outcome_of.new.office.held) c.loop-request.invariant.untouched c.outcome_of.ensures.untouched
