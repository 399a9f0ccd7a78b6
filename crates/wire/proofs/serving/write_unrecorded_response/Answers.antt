-- Proof that `write_unrecorded_response` meets its contract.
use Rattle.wire.proofs.ServingLemmas.{IsServed-put}
use Rattle.wire.proofs.serving.write_unrecorded_response.Goals as goal

pub returns-clause-told : goal.returns-clause-told
returns-clause-told g c = IsServed-put _ (g.W.Sink.taken c.args.writer.now) (g.W.Sink.taken c.write_response.new.writer) c.unrecorded.result c.write_response.result
    c.unrecorded.ensures c.write_response.ensures.puts
