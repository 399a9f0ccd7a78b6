-- Proof that `written` meets its contract.
use Rattle.connections.specs.Clients.{written_in}
use Rattle.server.proofs.AnswerLemmas.{put_first}
use Rattle.server.proofs.servicing.written.Goals as goal

pub returns-clause-put : goal.returns-clause-put
returns-clause-put c =
    put_first c.args.response.now c.into_bytes.result.items (written_in c.new-writer.result) (written_in c.write_response.new.writer) c.write_response.result
    c.new-writer.ensures.bytes c.into_bytes.ensures c.write_response.ensures.puts
