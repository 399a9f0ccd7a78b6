-- Proof that `response_with` meets its contract.
use Rattle.wire.specs.Responses.{lines_and_body}
use Rattle.wire.proofs.response.response_with.Goals as goal

pub returns : goal.returns
unfolding lines_and_body
returns c = rw (← c.phrase-phrase.ensures, ← c.media_type-media_type.ensures, ← c.as_u16-code.ensures.value) c.format.ensures.ok
