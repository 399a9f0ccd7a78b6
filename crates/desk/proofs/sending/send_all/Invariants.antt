-- The invariant of the loop in `send_all`: the requests so far have been answered and recorded, and their pages have been printed.
use Rattle.std.proofs.Common.{◌≡◌, false}
use Rattle.sqlite.specs.State.{HasCleanDisk}
use Rattle.sqlite.specs.Held.{state}
use Rattle.store.specs.StateTables.{KeepsConnection}
use Rattle.office.specs.Answers.{WhenOpenAt}
use Rattle.desk.specs.Pages.{outputs_of, page_for}
use Rattle.desk.specs.Records.{IsRecordOf, StaysOnceFailed}
use Rattle.desk.proofs.CourseLemmas.{SentSo}
use Rattle.desk.proofs.TellingLemmas.{ToldSo}
use Rattle.desk.proofs.sending.send_all.Given as goal

abbrev pub invariant-loop-request : goal.invariant-loop-request
invariant-loop-request g l = record {
  keeps_connection : KeepsConnection (state g.S.Store l.initial.office.held) (state g.S.Store l.office.held);
  clean : HasCleanDisk (state g.S.Store l.office.held) → HasCleanDisk (state g.S.Store l.initial.office.held);
  same : g.R.Recorder.records l.recorder ≡ g.R.Recorder.records l.initial.recorder;
  untouched : StaysOnceFailed g.R.Recorder.failed l.initial.recorder l.recorder (state g.S.Store l.initial.office.held) (state g.S.Store l.office.held);
  so_far : ToldSo (outputs_of g.O.Sink.taken g.O.Sink.failed g.E.Sink.taken g.E.Sink.failed l.initial.out l.initial.err)
      (outputs_of g.O.Sink.taken g.O.Sink.failed g.E.Sink.taken g.E.Sink.failed l.out l.err) l.ends
      (λ said. WhenOpenAt (state g.S.Store) l.initial.office l.office
      (λ s. (so : SentSo l.keep_going l.line page_for s l.requests l.request-index said l.office.closed (state g.S.Store l.office.held))
      × (g.R.Recorder.failed l.initial.recorder ≡ false
      → (g.R.Recorder.failed l.recorder ≡ false) × (IsRecordOf (g.R.Recorder.found l.initial.recorder) s → IsRecordOf (g.R.Recorder.found l.recorder) so.end))));
}
