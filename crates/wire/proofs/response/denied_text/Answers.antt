-- Proof that `denied_text` meets its contract.
use Rattle.std.proofs.Common.{◌∙◌, ap, sym}
use Rattle.wire.specs.Responses.{denied_response, response_bytes}
use Rattle.wire.proofs.ResponseLemmas.{bad_request-told, forbidden-told, not_found-told, too_large-told}
use Rattle.wire.proofs.response.denied_text.Goals as goal

pub returns-in-BadRequest : goal.returns-in-BadRequest
returns-in-BadRequest c = bad_request-told ∙ ap (λ why. response_bytes (denied_response why)) (sym c.in-BadRequest.is)

pub returns-in-Forbidden : goal.returns-in-Forbidden
returns-in-Forbidden c = forbidden-told ∙ ap (λ why. response_bytes (denied_response why)) (sym c.in-Forbidden.is)

pub returns-in-NotFound : goal.returns-in-NotFound
returns-in-NotFound c = not_found-told ∙ ap (λ why. response_bytes (denied_response why)) (sym c.in-NotFound.is)

pub returns-in-TooLarge : goal.returns-in-TooLarge
returns-in-TooLarge c = too_large-told ∙ ap (λ why. response_bytes (denied_response why)) (sym c.in-TooLarge.is)
