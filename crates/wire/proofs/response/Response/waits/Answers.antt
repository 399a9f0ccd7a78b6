-- Proof that `waits` meets its contract.
use Rattle.std.proofs.Common.{refl}
use Rattle.wire.proofs.ResponseLemmas.{waits-told}
use Rattle.wire.proofs.response.Response.waits.Goals as goal

pub returns : goal.returns
returns c = record { status = refl; bytes = waits-told }
