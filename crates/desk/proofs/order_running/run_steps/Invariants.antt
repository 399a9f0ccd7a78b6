-- The invariant of the loop in `run_steps`: the steps so far have been run, their requests have been recorded, and their pages have been printed.
use Rattle.std.proofs.Common.{◌≡◌, false}
use Rattle.sqlite.specs.State.{HasCleanDisk}
use Rattle.sqlite.specs.Held.{state}
use Rattle.store.specs.StateTables.{KeepsConnection}
use Rattle.office.specs.Answers.{WhenOpenAt}
use Rattle.desk.specs.Pages.{outputs_of}
use Rattle.desk.specs.Records.{IsRecordOf, StaysOnceFailed}
use Rattle.desk.proofs.CourseLemmas.{TakenSo}
use Rattle.desk.proofs.TellingLemmas.{ToldSo}
use Rattle.desk.proofs.order_running.run_steps.Given as goal

abbrev pub invariant-loop-turn : goal.invariant-loop-turn
invariant-loop-turn g l = record {
  keeps_connection : KeepsConnection (state g.S.Store l.initial.office.held) (state g.S.Store l.office.held);
  clean : HasCleanDisk (state g.S.Store l.office.held) → HasCleanDisk (state g.S.Store l.initial.office.held);
  same : g.R.Recorder.records l.recorder ≡ g.R.Recorder.records l.initial.recorder;
  untouched : StaysOnceFailed g.R.Recorder.failed l.initial.recorder l.recorder (state g.S.Store l.initial.office.held) (state g.S.Store l.office.held);
  so_far : ToldSo (outputs_of g.O.Sink.taken g.O.Sink.failed g.E.Sink.taken g.E.Sink.failed l.initial.out l.initial.err)
      (outputs_of g.O.Sink.taken g.O.Sink.failed g.E.Sink.taken g.E.Sink.failed l.out l.err) l.ends
      (λ said. WhenOpenAt (state g.S.Store) l.initial.office l.office
      (λ s. (so : TakenSo l.keep_going (g.F.Folder.held l.folder) s l.turns l.turn-index said l.office.closed (state g.S.Store l.office.held))
      × (g.R.Recorder.failed l.initial.recorder ≡ false
      → (g.R.Recorder.failed l.recorder ≡ false) × (IsRecordOf (g.R.Recorder.found l.initial.recorder) s → IsRecordOf (g.R.Recorder.found l.recorder) so.end))));
}
