-- Proof that `reply_body` meets its contract.
use Rattle.std.proofs.Common.{◌∙◌, ap}
use Rattle.std.proofs.lemmas.Result.{IfOk-weaker}
use Rattle.serde_json.specs.Written.{compact_text, has_float}
use Rattle.wire.proofs.ReplyLemmas.{reply_body-written}
use Rattle.wire.proofs.bodies.reply_body.Goals as goal

pub returns : goal.returns
returns c =
    IfOk-weaker c.to_string.result _ _ (λ s h. h (ap has_float c.in_ok-reply_value.ensures) ∙ (ap compact_text c.in_ok-reply_value.ensures ∙ reply_body-written c.args.text.now))
    c.to_string.ensures.text
