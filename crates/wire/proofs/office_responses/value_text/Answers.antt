-- Proof that `value_text` meets its contract.
use Rattle.std.proofs.Common.{◌≡◌, ◌∙◌, ap}
use Rattle.std.proofs.lemmas.Result.{IfOk-weaker}
use Rattle.serde_json.specs.View.{view}
use Rattle.serde_json.specs.Written.{compact_text, has_float}
use Rattle.wire.proofs.office_responses.value_text.Goals as goal

pub returns-in-Ok : goal.returns-in-Ok
returns-in-Ok c = λ value none made.
    let is : view c.in-Ok.value ≡ value = rw c.in-Ok.is at made in
    IfOk-weaker c.to_string.result _ _ (λ s h. h (ap has_float is ∙ none) ∙ ap compact_text is) c.to_string.ensures.text
