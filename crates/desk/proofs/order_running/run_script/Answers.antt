-- Proof that `run_script` meets its contract.
use Rattle.std.proofs.Common.{[], inl, inr, refl}
use Rattle.sqlite.specs.Held.{state}
use Rattle.desk.specs.Pages.{script_page}
use Rattle.desk.proofs.PageLemmas.{error_shown}
use Rattle.desk.proofs.RecordLemmas.{none_recorded, stays_itself}
use Rattle.desk.proofs.ScriptEnds.{no_output}
use Rattle.desk.proofs.order_running.run_script.Goals as goal

pub returns-in-Ok-clause-sent : goal.returns-in-Ok-clause-sent
returns-in-Ok-clause-sent g c =
    let told = c.begin_steps.ensures.sent in
    record {
      page = told.page;
      cut = told.cut;
      shown = told.shown;
      is = λ clean is_open s at. let it = told.is clean is_open s at in (it.0, it.1, inl (c.in-Ok.turns.items, c.in-Ok.ensures.ok, rw c.deref.ensures.value at it.2), it.3);
    }

pub returns-in-Err-clause-sent : goal.returns-in-Err-clause-sent
returns-in-Err-clause-sent g c =
    let why = c.in-Err.fault in
    let told = error_shown g.O.Sink.taken g.O.Sink.failed g.E.Sink.taken g.E.Sink.failed c.args.out.now c.args.err.now c.tell_script_fault.new.err
    (script_page why) c.tell_script_fault.result (no_output why) c.tell_script_fault.ensures in
    record {
      page = script_page why;
      cut = told.0;
      shown = told.1;
      is = λ clean is_open s at. (
        [],
        0,
        inr (why, told.0, refl, c.in-Err.ensures.err, record { is_open = is_open; at = at }),
        none_recorded s [] (g.R.Recorder.found c.args.recorder.now) (g.R.Recorder.failed c.args.recorder.now),
      );
    }

pub returns-in-Err-clause-untouched : goal.returns-in-Err-clause-untouched
returns-in-Err-clause-untouched g c = stays_itself g.R.Recorder.failed c.args.recorder.now (state g.S.Store c.args.office.now.held)
