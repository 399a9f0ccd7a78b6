-- Proof that `json_in` meets its contract.
use Rattle.wire.proofs.TextLemmas.{json_in-none, json_in-some}
use Rattle.wire.proofs.body.json_in.Goals as goal

pub returns-in-Ok : goal.returns-in-Ok
returns-in-Ok c = json_in-some c.args.text.now _ c.in-Ok.ensures.ok.0 c.in-Ok.ensures.ok.1

pub returns-in_default : goal.returns-in_default
returns-in_default c = json_in-none c.args.text.now (c.in-Err.ensures.err (λ memory. c.in_default.not-Memory (c.classify.ensures.memory.1 memory)))
