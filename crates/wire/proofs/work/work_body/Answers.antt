-- Proof that `work_body` meets its contract.
use Rattle.std.proofs.Common.{◌∙◌, ap, map}
use Rattle.std.proofs.lemmas.Result.{IfOk-weaker}
use Rattle.serde_json.specs.Written.{compact_text, has_float}
use Rattle.register.specs.Status.{work_entry}
use Rattle.wire.proofs.ReplyLemmas.{clerk-float}
use Rattle.wire.proofs.work.work_body.Goals as goal

pub returns : goal.returns
returns c =
    IfOk-weaker c.to_string.result _ _ (λ s h. h (ap has_float c.in_ok-work_value.ensures ∙ clerk-float c.args.clerk (map work_entry c.args.work.now)) ∙ ap compact_text c.in_ok-work_value.ensures)
    c.to_string.ensures.text
