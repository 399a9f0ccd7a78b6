-- Proof that `run_steps` meets its contract.
use Rattle.std.proofs.Common.{◌≡◌, ◌∙◌, ◌<◌, true, false, length, take, ap, refl, subst, sym, arith}
use Rattle.sqlite.specs.Held.{state}
use Rattle.store.proofs.KeepLemmas.{connection_itself, connection_then}
use Rattle.desk.specs.Headline.{told_above}
use Rattle.desk.specs.Pages.{below, cut_below, uncut, empty_page, goes_on}
use Rattle.desk.specs.Records.{IsRecordOf}
use Rattle.desk.proofs.CauseLemmas.{since}
use Rattle.desk.proofs.CourseLemmas.{made, none_taken, nothing_more, taken_after, turn_last, turn_more, turns_all}
use Rattle.desk.proofs.PageLemmas.{shown_last, whole_more}
use Rattle.desk.proofs.RecordLemmas.{recorded_all, recorded_end, recorded_then, stays_itself, stays_then}
use Rattle.desk.proofs.TellingLemmas.{nothing_told, shown_goes, shown_stops, shown_whole, stops_by, told_all}
use Rattle.desk.proofs.order_running.run_steps.Goals as goal

pub loop-turn-init : goal.loop-turn-init
loop-turn-init g c = record {
  keeps_connection = connection_itself (state g.S.Store c.args.office.now.held);
  clean = λ clean. clean;
  same = refl;
  untouched = stays_itself g.R.Recorder.failed c.args.recorder.now (state g.S.Store c.args.office.now.held);
  so_far = record { said = _; shown = nothing_told _; is = λ clean is_open s at. (none_taken _ _ s _ _ _ (record { is_open = is_open; at = at }), λ fine. (fine, λ was. was)) };
}

pub loop-turn-preserved : goal.loop-turn-preserved
loop-turn-preserved g c =
    let turns = c.args.turns.now in
    let keep = c.args.keep_going in
    let i = c.loop-turn.turn-index in
    let within : i < length turns = omega arith in
    let turn = c.turn-item.result in
    let so_far = c.loop-turn.invariant.so_far in
    let told = c.run-status.ensures.ran in
    let goes : goes_on keep c.run-status.result ≡ true = sym c.goes_on.ensures ∙ c.if-not-goes_on.false in
    let fine = shown_goes keep told.cut _ _ told.page c.run-status.result told.shown goes in
    let first = state g.S.Store c.args.office.now.held in
    let mid = state g.S.Store c.loop-turn.office.held in
    let next = state g.S.Store c.run-status.new.office.held in
    record {
      keeps_connection = connection_then first mid next c.run-status.ensures.clean c.loop-turn.invariant.keeps_connection c.run-status.ensures.keeps_connection;
      clean = λ clean. c.loop-turn.invariant.clean (c.run-status.ensures.clean clean);
      same = c.run-status.ensures.same ∙ c.loop-turn.invariant.same;
      untouched = stays_then g.R.Recorder.failed c.args.recorder.now c.loop-turn.recorder c.run-status.new.recorder first mid next c.loop-turn.invariant.untouched c.run-status.ensures.untouched;
      so_far = record {
        said = below so_far.said told.page;
        shown = rw c.combined_status-ends.ensures (whole_more _ _ _ so_far.said told.page c.loop-turn.ends c.run-status.result so_far.shown
            (shown_whole keep told.cut _ _ told.page c.run-status.result told.shown goes));
        is = λ clean is_open s at.
            let so = so_far.is (c.run-status.ensures.clean clean) is_open s at in
            let it = told.is clean so.0.open_at.is_open so.0.end so.0.open_at.at in
            let more = turn_more (g.R.Recorder.failed c.run-status.new.recorder) first keep (g.F.Folder.held c.args.folder.now) s turns mid i turn so_far.said c.loop-turn.office.closed mid
            (made it.0 it.1 told.page told.cut) c.run-status.new.office.closed next within c.turn-item.is so.0 it.2
            (ap (goes_on keep) fine.1 ∙ goes, fine.0) in
            let found = g.R.Recorder.found c.run-status.new.recorder in (
              more.0,
              λ unfailed.
                  let before = so.1 unfailed in
                  let kept = it.3 before.0 in (
                    kept.unfailed more.2,
                    λ was. subst (IsRecordOf found) (sym more.1) (recorded_all so.0.end it.0 it.1 (g.R.Recorder.found c.loop-turn.recorder) found
                        (g.R.Recorder.failed c.run-status.new.recorder) more.2 kept (before.1 was)),
                  ),
            );
      };
    }

pub returns-then-not-goes_on-clause-sent : goal.returns-then-not-goes_on-clause-sent
returns-then-not-goes_on-clause-sent g c =
    let turns = c.args.turns.now in
    let keep = c.args.keep_going in
    let i = c.loop-turn.turn-index in
    let within : i < length turns = omega arith in
    let turn = c.turn-item.result in
    let so_far = c.loop-turn.invariant.so_far in
    let told = c.run-status.ensures.ran in
    let stops : goes_on keep c.run-status.result ≡ false = sym c.goes_on.ensures ∙ c.if-not-goes_on.true in
    let first = state g.S.Store c.args.office.now.held in
    let mid = state g.S.Store c.loop-turn.office.held in
    let next = state g.S.Store c.run-status.new.office.held in
    record {
      page = below so_far.said told.page;
      cut = cut_below so_far.said.out told.cut;
      shown = shown_last told.cut _ _ _ so_far.said told.page c.loop-turn.ends c.run-status.result so_far.shown told.shown (stops_by keep c.run-status.result stops);
      is = λ clean is_open s at.
          let honest = c.run-status.ensures.clean clean in
          let so = so_far.is honest is_open s at in
          let tells = since first mid next honest c.loop-turn.invariant.keeps_connection c.run-status.ensures.keeps_connection in
          let it = told.is clean so.0.open_at.is_open so.0.end so.0.open_at.at in
          let recorded = g.R.Recorder.failed c.run-status.new.recorder in
          let folder = g.F.Folder.held c.args.folder.now in
          let closed = c.run-status.new.office.closed in
          let last = made it.0 it.1 told.page told.cut in
          let played = it.2 in
          let worse = shown_stops keep told.cut _ _ told.page c.run-status.result told.shown stops in
          let course = told_above so.0.own so_far.said last in (
            course.requests,
            course.answered,
            turn_last recorded first keep folder s turns mid i turn so_far.said c.loop-turn.office.closed mid last closed
                next within c.turn-item.is tells so.0 played
                (λ gone. worse gone.0 gone.1),
            λ unfailed.
                let before = so.1 unfailed in
                recorded_then s so.0.end so.0.own it.0 it.1 (g.R.Recorder.found c.args.recorder.now) (g.R.Recorder.found c.loop-turn.recorder)
                (g.R.Recorder.found c.run-status.new.recorder) (g.R.Recorder.failed c.run-status.new.recorder)
                (taken_after keep folder s (take i turns) so.0.own so_far.said so.0.end so.0.taken) before.1 (it.3 before.0),
          );
    }

pub returns-then-not-goes_on-clause-keeps_connection : goal.returns-then-not-goes_on-clause-keeps_connection
returns-then-not-goes_on-clause-keeps_connection g c =
    connection_then (state g.S.Store c.args.office.now.held) (state g.S.Store c.loop-turn.office.held) (state g.S.Store c.run-status.new.office.held) c.run-status.ensures.clean
    c.loop-turn.invariant.keeps_connection
    c.run-status.ensures.keeps_connection

pub returns-clause-sent : goal.returns-clause-sent
returns-clause-sent g c =
    let so_far = c.loop-turn.invariant.so_far in
    record {
      page = below so_far.said empty_page;
      cut = uncut;
      shown = told_all _ _ so_far.said c.loop-turn.ends so_far.shown;
      is = λ clean is_open s at.
          let so = so_far.is clean is_open s at in
          let course = told_above so.0.own so_far.said nothing_more in (
            course.requests,
            course.answered,
            turns_all (g.R.Recorder.failed c.loop-turn.recorder) (state g.S.Store c.args.office.now.held) c.args.keep_going (g.F.Folder.held c.args.folder.now) s c.args.turns.now
                c.loop-turn.turn-index so_far.said c.loop-turn.office.closed
                (state g.S.Store c.loop-turn.office.held) c.loop-turn-test.false so.0,
            λ unfailed.
                let before = so.1 unfailed in
                recorded_end s so.0.end so.0.own (g.R.Recorder.found c.args.recorder.now) (g.R.Recorder.found c.loop-turn.recorder) (g.R.Recorder.failed c.loop-turn.recorder)
                (taken_after c.args.keep_going (g.F.Folder.held c.args.folder.now) s (take c.loop-turn.turn-index c.args.turns.now) so.0.own so_far.said so.0.end so.0.taken) before.0 before.1,
          );
    }

pub returns-then-not-goes_on-clause-untouched : goal.returns-then-not-goes_on-clause-untouched
returns-then-not-goes_on-clause-untouched g c = stays_then g.R.Recorder.failed c.args.recorder.now c.loop-turn.recorder c.run-status.new.recorder (state g.S.Store c.args.office.now.held)
    (state g.S.Store c.loop-turn.office.held) (state g.S.Store c.run-status.new.office.held) c.loop-turn.invariant.untouched c.run-status.ensures.untouched
