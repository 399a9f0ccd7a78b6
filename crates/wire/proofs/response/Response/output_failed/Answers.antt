-- Proof that `output_failed` meets its contract.
use Rattle.std.proofs.Common.{refl}
use Rattle.wire.proofs.ResponseLemmas.{output_failed-told}
use Rattle.wire.proofs.response.Response.output_failed.Goals as goal

pub returns : goal.returns
returns c = record { status = refl; bytes = output_failed-told }
