-- Proof that `write` meets its contract.
use Rattle.std.proofs.Common.{string_bytes}
use Rattle.desk.proofs.ScriptRecordLemmas.{records_all, records_some}
use Rattle.desk.proofs.script_record.ScriptRecord.write.Goals as goal

-- the entry was appended and flushed
pub returns-in-Ok-clause-recorded : goal.returns-in-Ok-clause-recorded
returns-in-Ok-clause-recorded g c =
    let kept = g.W.DurableSink.kept in
    records_all (kept c.args.self.now.file) (kept c.put_durably.new.file) (string_bytes c.in-Ok-Some.text) c.args.request.now
    (rw c.in-Ok-Some.field-0-is at c.in-Ok-Some.ensures.some) (rw c.as_bytes.ensures.value at c.in-Ok.ensures.all)

-- a beginning of it was appended
pub returns-clause-recorded : goal.returns-clause-recorded
returns-clause-recorded g c =
    let kept = g.W.DurableSink.kept in
    records_some (kept c.args.self.now.file) (kept c.put_durably.new.file) (string_bytes c.in-Ok-Some.text) c.args.request.now
    (rw c.in-Ok-Some.field-0-is at c.in-Ok-Some.ensures.some) (rw c.as_bytes.ensures.value at c.in-Err-put_durably.ensures.some)
