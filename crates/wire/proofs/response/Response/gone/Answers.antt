-- Proof that `gone` meets its contract.
use Rattle.std.proofs.Common.{refl}
use Rattle.wire.proofs.ResponseLemmas.{gone-told}
use Rattle.wire.proofs.response.Response.gone.Goals as goal

pub returns : goal.returns
returns c = record { status = refl; bytes = gone-told }
