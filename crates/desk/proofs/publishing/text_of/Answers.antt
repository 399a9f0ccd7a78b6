-- Proof that `text_of` meets its contract.
use Rattle.desk.proofs.PublishLemmas.{read_failed, read_ok, read_refused}
use Rattle.desk.proofs.publishing.text_of.Goals as goal

pub returns-in-Ok : goal.returns-in-Ok
returns-in-Ok g c = read_ok c.text.ensures.same c.in-Ok.ensures.reads

pub returns-in-Err-Fault : goal.returns-in-Err-Fault
returns-in-Err-Fault g c = read_failed c.text.ensures.same (rw c.in-Err-Fault.field-0-is at c.in-Err-Fault.ensures.reads)

pub returns : goal.returns
returns g c = read_refused c.text.ensures.same (rw c.in-Err-Refused.field-0-is at c.in-Err-Refused.ensures.reads)
