-- Proof that `left` meets its contract.
use Rattle.std.proofs.Common.{refl}
use Rattle.wire.proofs.ResponseLemmas.{left-told}
use Rattle.wire.proofs.response.Response.left.Goals as goal

pub returns : goal.returns
returns c = record { status = refl; bytes = left-told }
