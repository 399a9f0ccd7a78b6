-- Proof that `new` meets its contract.
use Rattle.desk.proofs.ScriptRecordLemmas.{begins_record}
use Rattle.desk.proofs.script_record.ScriptRecord.new.Goals as goal

pub returns-clause-begins : goal.returns-clause-begins
returns-clause-begins g c = begins_record (g.W.DurableSink.kept c.args.file)
