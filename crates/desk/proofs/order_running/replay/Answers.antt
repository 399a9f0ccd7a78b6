-- Proof that `replay` meets its contract.
use Rattle.std.proofs.Common.{[], inr, map, refl}
use Rattle.sqlite.specs.Held.{state}
use Rattle.desk.specs.Lexing.{line_entry, typed_line_entry}
use Rattle.desk.specs.Pages.{page_of, script_page}
use Rattle.desk.specs.declared.scripts.ScriptFault.TheVariants as script
use Rattle.desk.proofs.PageLemmas.{error_shown}
use Rattle.desk.proofs.RecordLemmas.{none_recorded, stays_itself}
use Rattle.desk.proofs.ScriptEnds.{holds_lines, replay_of, replay_unread}
use Rattle.desk.proofs.order_running.replay.Goals as goal

pub returns-in-Err-clause-ran : goal.returns-in-Err-clause-ran
returns-in-Err-clause-ran g c =
    let told = c.tell.ensures in
    let st = state g.S.Store c.args.office.now.held in
    record {
      page = page_of c.in-Err.outcome;
      cut = told.0;
      shown = told.1;
      is = λ clean is_open s at. (
        [],
        0,
        replay_unread (g.R.Recorder.failed c.args.recorder.now) (g.F.Folder.held c.args.folder.now) s c.args.asked _ c.open.ensures st c.args.office.now.closed st
            (page_of c.in-Err.outcome) told.0 c.in-Err.ensures.unread (record { is_open = is_open; at = at }),
        none_recorded s [] (g.R.Recorder.found c.args.recorder.now) (g.R.Recorder.failed c.args.recorder.now),
      );
    }

pub returns-in-Ok-typed_lines-clause-ran : goal.returns-in-Ok-typed_lines-clause-ran
returns-in-Ok-typed_lines-clause-ran g c =
    let told = c.run_script.ensures.sent in
    let lines = map typed_line_entry c.in-Ok-typed_lines.said.items in
    let left_out = c.in-Ok.script.left_out in
    let holds = holds_lines c.args.asked.cut _ (map line_entry c.in-Ok.script.lines.items) lines left_out (rw c.deref.ensures.value at c.in-Ok-typed_lines.ensures) c.in-Ok.ensures.read in
    record {
      page = told.page;
      cut = told.cut;
      shown = told.shown;
      is = λ clean is_open s at.
          let it = told.is clean is_open s at in (
            it.0,
            it.1,
            replay_of (g.R.Recorder.failed c.run_script.new.recorder) (g.F.Folder.held c.args.folder.now) s c.args.asked _ c.open.ensures
                (state g.S.Store c.args.office.now.held) c.run_script.new.office.closed (state g.S.Store c.run_script.new.office.held) lines left_out _ holds
                (rw c.deref-in-Ok-typed_lines.ensures.value at it.2),
            it.3,
          );
    }

pub returns-clause-ran : goal.returns-clause-ran
returns-clause-ran g c =
    let page = script_page script.Memory in
    let told = error_shown g.O.Sink.taken g.O.Sink.failed g.E.Sink.taken g.E.Sink.failed c.args.out.now c.args.err.now c.tell_script_fault.new.err page
    c.tell_script_fault.result refl c.tell_script_fault.ensures in
    let st = state g.S.Store c.args.office.now.held in
    record {
      page = page;
      cut = told.0;
      shown = told.1;
      is = λ clean is_open s at. (
        [],
        0,
        replay_unread (g.R.Recorder.failed c.args.recorder.now) (g.F.Folder.held c.args.folder.now) s c.args.asked _ c.open.ensures st c.args.office.now.closed st page told.0
            (inr refl) (record { is_open = is_open; at = at }),
        none_recorded s [] (g.R.Recorder.found c.args.recorder.now) (g.R.Recorder.failed c.args.recorder.now),
      );
    }

pub returns-in-Err-clause-untouched : goal.returns-in-Err-clause-untouched
returns-in-Err-clause-untouched g c = stays_itself g.R.Recorder.failed c.args.recorder.now (state g.S.Store c.args.office.now.held)

pub returns-clause-untouched : goal.returns-clause-untouched
returns-clause-untouched g c = stays_itself g.R.Recorder.failed c.args.recorder.now (state g.S.Store c.args.office.now.held)
