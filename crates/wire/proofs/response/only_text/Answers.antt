-- Proof that `only_text` meets its contract.
use Rattle.std.proofs.Common.{◌∙◌, ap, sym}
use Rattle.wire.specs.Responses.{denied_response, response_bytes}
use Rattle.wire.specs.declared.request_error.RequestError.TheVariants.{MethodNotAllowed}
use Rattle.wire.proofs.ResponseLemmas.{only_get-told, only_post-told}
use Rattle.wire.proofs.response.only_text.Goals as goal

pub returns-in-Get : goal.returns-in-Get
returns-in-Get c = only_get-told ∙ ap (λ verb. response_bytes (denied_response (MethodNotAllowed verb))) (sym c.in-Get.is)

pub returns-in-Post : goal.returns-in-Post
returns-in-Post c = only_post-told ∙ ap (λ verb. response_bytes (denied_response (MethodNotAllowed verb))) (sym c.in-Post.is)
