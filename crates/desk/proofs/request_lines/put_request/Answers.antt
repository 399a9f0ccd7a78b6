-- Proof that `put_request` meets its contract for a verdict.
use Rattle.desk.proofs.request_lines.put_request.Goals as goal

pub returns-in-Verdict : goal.returns-in-Verdict
returns-in-Verdict c = rw c.in-Verdict.is (rw c.as_str-id.ensures.value at (c.put_verdict.ensures c.args.request.now.actor))
