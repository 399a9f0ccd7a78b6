-- Proof that `paper_body` meets its contract.
use Rattle.std.proofs.Common.{◌∙◌, ap}
use Rattle.std.proofs.lemmas.Result.{IfOk-weaker}
use Rattle.serde_json.specs.Written.{compact_text, has_float}
use Rattle.register.specs.Status.{paper_entry}
use Rattle.wire.proofs.ReplyLemmas.{paper-float}
use Rattle.wire.proofs.candidates.paper_body.Goals as goal

pub returns : goal.returns
returns c =
    IfOk-weaker c.to_string.result _ _ (λ s h. h (ap has_float c.in_ok-paper_value.ensures ∙ paper-float c.args.batch (paper_entry c.args.paper.now)) ∙ ap compact_text c.in_ok-paper_value.ensures)
    c.to_string.ensures.text
