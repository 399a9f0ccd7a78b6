-- Proof that `first_id` meets its contract: one of these requests is the first.
use Rattle.std.proofs.Common.{◌∙◌}
use Rattle.desk.proofs.StageLemmas.{first_named, none_numbered}
use Rattle.desk.proofs.counting.first_id.Goals as goal

pub returns-in-Some : goal.returns-in-Some
returns-in-Some c = λ ward id are. c.as_str.ensures.value ∙ first_named ward id c.args.requests.now c.in-Some.request.now c.in-Some.ensures.value are

pub returns-in-None : goal.returns-in-None
returns-in-None c = λ ward id are. absurd (none_numbered ward id c.args.requests.now c.in-None.ensures.value are)
