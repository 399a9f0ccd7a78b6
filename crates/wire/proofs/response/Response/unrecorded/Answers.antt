-- Proof that `unrecorded` meets its contract.
use Rattle.std.proofs.Common.{refl}
use Rattle.wire.proofs.ResponseLemmas.{unrecorded-told}
use Rattle.wire.proofs.response.Response.unrecorded.Goals as goal

pub returns : goal.returns
returns c = record { status = refl; bytes = unrecorded-told }
