-- Proof that `tell` meets its contract.
use Rattle.std.proofs.Common.{refl, string_bytes}
use Rattle.desk.specs.Pages.{failed, refused, unformed, unjournalled, unmended, unread, unsealed}
use Rattle.desk.specs.declared.lines.Failure.TheVariants.{Office, SecondRecord}
use Rattle.desk.proofs.PageLemmas.{front_shown, fronted_shown, printed_shown}
use Rattle.desk.proofs.lines.tell.Goals as goal

pub returns-in-Ready : goal.returns-in-Ready
returns-in-Ready g c = rw c.in-Ready.is (printed_shown c.args.line _ _ _ _ c.tell_text.ensures)

pub returns-in-Migrated : goal.returns-in-Migrated
returns-in-Migrated g c = rw c.in-Migrated.is (printed_shown c.args.line _ _ _ _ (rw c.migrated_text.ensures at c.tell_text-in-Migrated.ensures))

pub returns-in-Replied : goal.returns-in-Replied
returns-in-Replied g c = rw c.in-Replied.is (printed_shown c.args.line _ _ _ _ (rw c.as_str.ensures.value at c.tell_text-in-Replied.ensures))

pub returns-in-Noted : goal.returns-in-Noted
returns-in-Noted g c = rw c.in-Noted.is (rw (c.as_str-in-Noted.ensures.value, c.as_str-in-Noted-2.ensures.value) at c.tell_noted.ensures)

pub returns-in-CountFinished : goal.returns-in-CountFinished
returns-in-CountFinished g c = rw c.in-CountFinished.is (printed_shown c.args.line _ _ _ _ c.tell_text-in-CountFinished.ensures)

pub returns-in-LotNeeded : goal.returns-in-LotNeeded
returns-in-LotNeeded g c = rw c.in-LotNeeded.is (printed_shown c.args.line _ _ _ _ (rw c.text.ensures at c.tell_text-in-LotNeeded.ensures))

pub returns-in-Refused : goal.returns-in-Refused
returns-in-Refused g c =
    rw c.in-Refused.is (front_shown g.O.Sink.taken g.O.Sink.failed g.E.Sink.taken g.E.Sink.failed c.args.line _ _ _
    (refused c.in-Refused.refusal) c.tell_refusal.result _ _ refl refl c.tell_refusal.ensures)

pub returns-in-Unread : goal.returns-in-Unread
returns-in-Unread g c =
    rw c.in-Unread.is (front_shown g.O.Sink.taken g.O.Sink.failed g.E.Sink.taken g.E.Sink.failed c.args.line _ _ _
    (unread c.in-Unread.fault) c.tell_file_fault.result _ _ refl refl c.tell_file_fault.ensures)

pub returns-in-Failed : goal.returns-in-Failed
returns-in-Failed g c =
    rw c.in-Failed.is (front_shown g.O.Sink.taken g.O.Sink.failed g.E.Sink.taken g.E.Sink.failed c.args.line _ _ _
    (failed (Office c.in-Failed.fault)) c.tell_failure_at.result _ _ refl refl c.tell_failure_at.ensures)

pub returns-in-Unrecorded : goal.returns-in-Unrecorded
returns-in-Unrecorded g c =
    rw c.in-Unrecorded.is (front_shown g.O.Sink.taken g.O.Sink.failed g.E.Sink.taken g.E.Sink.failed c.args.line _ _ _
    (failed SecondRecord) c.tell_failure_at-in-Unrecorded.result _ _ refl refl c.tell_failure_at-in-Unrecorded.ensures)

pub returns-in-Unjournalled : goal.returns-in-Unjournalled
returns-in-Unjournalled g c =
    rw c.in-Unjournalled.is (front_shown g.O.Sink.taken g.O.Sink.failed g.E.Sink.taken g.E.Sink.failed c.args.line _ _ _ unjournalled c.tell_no_journal.result _ _ refl refl c.tell_no_journal.ensures)

pub returns-in-Unsealed : goal.returns-in-Unsealed
returns-in-Unsealed g c =
    rw c.in-Unsealed.is (front_shown g.O.Sink.taken g.O.Sink.failed g.E.Sink.taken g.E.Sink.failed c.args.line _ _ _
    (unsealed c.in-Unsealed.given_out c.in-Unsealed.expected) c.tell_unsealed.result _ _ refl refl c.tell_unsealed.ensures)

pub returns-in-Unformed : goal.returns-in-Unformed
returns-in-Unformed g c =
    rw c.in-Unformed.is (front_shown g.O.Sink.taken g.O.Sink.failed g.E.Sink.taken g.E.Sink.failed c.args.line _ _ _
    (unformed c.in-Unformed.why) c.tell_unformed.result _ _ refl refl c.tell_unformed.ensures)

pub returns-in-Unmended : goal.returns-in-Unmended
returns-in-Unmended g c =
    rw c.in-Unmended.is (fronted_shown g.O.Sink.taken g.O.Sink.failed g.E.Sink.taken g.E.Sink.failed c.args.line _ _ _
    (unmended (string_bytes c.in-Unmended.text)) c.tell_unmended.result refl (rw c.as_str-in-Unmended.ensures.value at c.tell_unmended.ensures))
