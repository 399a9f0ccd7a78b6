-- Proof that `unrecorded_response` meets its contract.
use Rattle.std.proofs.Common.{◌∙◌}
use Rattle.connections.specs.Clients.{written_in}
use Rattle.server.proofs.ServicingLemmas.{told_unrecorded}
use Rattle.server.proofs.servicing.unrecorded_response.Goals as goal

pub returns-clause-told : goal.returns-clause-told
returns-clause-told c = λ exchange is.
    told_unrecorded exchange (written_in c.new-writer.result) (written_in c.write_unrecorded_response.new.writer) c.write_unrecorded_response.result c.new-writer.ensures.bytes
    (is ∙ c.into_bytes.ensures) c.write_unrecorded_response.ensures.told
