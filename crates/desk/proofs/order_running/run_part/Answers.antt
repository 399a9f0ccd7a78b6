-- Proof that `run_part` meets its contract.
use Rattle.std.proofs.Common.{◌≡◌, ◌+◌, ◌++◌, [], false, true, inl, inr, refl}
use Rattle.sqlite.specs.Held.{state}
use Rattle.desk.specs.Pages.{below, cut_below, cut_note, goes_on}
use Rattle.desk.proofs.PageLemmas.{error_shown, shown_next}
use Rattle.desk.proofs.RecordLemmas.{none_recorded, recorded_then, stays_itself}
use Rattle.desk.proofs.TellingLemmas.{shown_else, shown_whole}
use Rattle.desk.proofs.order_running.run_part.Goals as goal

-- the note couldn't be written
pub returns-then-status-ne0-clause-sent : goal.returns-then-status-ne0-clause-sent
returns-then-status-ne0-clause-sent g c =
    let note = error_shown g.O.Sink.taken g.O.Sink.failed g.E.Sink.taken g.E.Sink.failed c.args.out.now c.args.err.now c.tell_cut_note-status.new.err cut_note
    c.tell_cut_note-status.result refl c.tell_cut_note-status.ensures in
    record {
      page = cut_note;
      cut = note.0;
      shown = note.1;
      is = λ clean is_open s at. (
        [],
        0,
        inr (cut_note, note.0, refl, (λ goes. shown_else note.0 _ _ cut_note c.tell_cut_note-status.result note.1 c.if-status-ne0.true refl), inl (refl, record { is_open = is_open; at = at })),
        none_recorded s [] (g.R.Recorder.found c.args.recorder.now) (g.R.Recorder.failed c.args.recorder.now),
      );
    }

-- it was, and the steps were run
pub returns-clause-sent : goal.returns-clause-sent
returns-clause-sent g c =
    let note = error_shown g.O.Sink.taken g.O.Sink.failed g.E.Sink.taken g.E.Sink.failed c.args.out.now c.args.err.now c.tell_cut_note-status.new.err cut_note
    c.tell_cut_note-status.result refl c.tell_cut_note-status.ensures in
    let zero : c.tell_cut_note-status.result ≡ 0 = c.if-status-ne0.false in
    let goes : goes_on false c.tell_cut_note-status.result ≡ true = rw zero refl in
    let whole = rw zero at (shown_whole false note.0 _ _ cut_note c.tell_cut_note-status.result note.1 goes) in
    let told = c.run_steps.ensures.sent in
    record {
      page = below cut_note told.page;
      cut = cut_below [] told.cut;
      shown = shown_next told.cut _ _ _ cut_note told.page c.run_steps.result refl whole told.shown;
      is = λ clean is_open s at.
          let it = told.is clean is_open s at in (
            [] ++ it.0,
            it.1 + 0,
            inl (cut_note, record { requests = it.0; answered = it.1; page = told.page; cut = told.cut }, refl, refl, refl, it.2),
            λ fine. recorded_then s s [] it.0 it.1 (g.R.Recorder.found c.args.recorder.now) (g.R.Recorder.found c.args.recorder.now) (g.R.Recorder.found c.run_steps.new.recorder)
                (g.R.Recorder.failed c.run_steps.new.recorder) refl (λ was. was) (it.3 fine),
          );
    }

pub returns-then-status-ne0-clause-untouched : goal.returns-then-status-ne0-clause-untouched
returns-then-status-ne0-clause-untouched g c = stays_itself g.R.Recorder.failed c.args.recorder.now (state g.S.Store c.args.office.now.held)
