-- Proof that `no_memory_response` meets its contract.
use Rattle.connections.specs.Clients.{written_in}
use Rattle.server.proofs.ServicingLemmas.{told_first}
use Rattle.server.proofs.servicing.no_memory_response.Goals as goal

pub returns-clause-told : goal.returns-clause-told
returns-clause-told c =
    told_first _ c.into_bytes.result.items (written_in c.new-writer.result) (written_in c.write_no_memory_response.new.writer) c.write_no_memory_response.result
    c.new-writer.ensures.bytes c.into_bytes.ensures c.write_no_memory_response.ensures.told
