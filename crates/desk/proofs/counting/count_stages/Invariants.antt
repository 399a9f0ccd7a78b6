-- The invariant of the loop in `count_stages`: the stages so far have been counted and recorded, and their pages have been printed.
use Rattle.std.proofs.Common.{◌≡◌, ℕ, Bool, false, map}
use Rattle.clap.specs.Words.{Text}
use Rattle.sqlite.specs.State.{HasCleanDisk}
use Rattle.sqlite.specs.Held.{state}
use Rattle.store.specs.StateTables.{KeepsConnection}
use Rattle.office.specs.Answers.{WhenOpenAt}
use Rattle.desk.specs.Orders.{sent_as}
use Rattle.desk.specs.Pages.{outputs_of}
use Rattle.desk.specs.Records.{IsRecordOf, StaysOnceFailed}
use Rattle.desk.specs.Requests.{advances, most_advances}
use Rattle.desk.proofs.StageLemmas.{CountedSo}
use Rattle.desk.proofs.TellingLemmas.{ToldSo}
use Rattle.desk.proofs.counting.count_stages.Given as goal

abbrev pub invariant-loop-request : goal.invariant-loop-request
invariant-loop-request g l = record {
  keeps_connection : KeepsConnection (state g.S.Store l.initial.office.held) (state g.S.Store l.office.held);
  clean : HasCleanDisk (state g.S.Store l.office.held) → HasCleanDisk (state g.S.Store l.initial.office.held);
  same : g.R.Recorder.records l.recorder ≡ g.R.Recorder.records l.initial.recorder;
  untouched : StaysOnceFailed g.R.Recorder.failed l.initial.recorder l.recorder (state g.S.Store l.initial.office.held) (state g.S.Store l.office.held);
  so_far : ToldSo (outputs_of g.O.Sink.taken g.O.Sink.failed g.E.Sink.taken g.E.Sink.failed l.initial.out l.initial.err)
      (outputs_of g.O.Sink.taken g.O.Sink.failed g.E.Sink.taken g.E.Sink.failed l.out l.err) 0
      (λ said. WhenOpenAt (state g.S.Store) l.initial.office l.office
      (λ s. (keep : Bool) (ward : ℕ) (id : Text) → map sent_as l.requests ≡ advances ward id most_advances
      → (so : CountedSo keep l.line s ward id l.requests l.request-index said l.office.closed (state g.S.Store l.office.held))
      × (g.R.Recorder.failed l.initial.recorder ≡ false
      → (g.R.Recorder.failed l.recorder ≡ false) × (IsRecordOf (g.R.Recorder.found l.initial.recorder) s → IsRecordOf (g.R.Recorder.found l.recorder) so.end))));
}
