-- Proof that `no_memory` meets its contract.
use Rattle.std.proofs.Common.{refl}
use Rattle.wire.proofs.ResponseLemmas.{no_memory-told}
use Rattle.wire.proofs.response.Response.no_memory.Goals as goal

pub returns : goal.returns
returns c = record { status = refl; bytes = no_memory-told }
