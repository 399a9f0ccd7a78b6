-- Proof that `respond` meets its contract.
use Rattle.wire.proofs.ServingLemmas.{IsServed-put, put-apart}
use Rattle.wire.proofs.serving.respond.Goals as goal

pub returns-clause-served : goal.returns-clause-served
returns-clause-served g c = λ clean open_before s at.
    IsServed-put _ (g.W.Sink.taken c.args.writer.now) (g.W.Sink.taken c.write_response.new.writer) c.answer-response.result c.write_response.result
    (c.answer-response.ensures.answers clean open_before s at) c.write_response.ensures.puts

pub returns-clause-put : goal.returns-clause-put
returns-clause-put g c = put-apart (g.W.Sink.taken c.args.writer.now) (g.W.Sink.taken c.write_response.new.writer) c.answer-response.result c.write_response.result c.write_response.ensures.puts

pub returns-clause-closed_served : goal.returns-clause-closed_served
returns-clause-closed_served g c = λ closed.
    IsServed-put _ (g.W.Sink.taken c.args.writer.now) (g.W.Sink.taken c.write_response.new.writer) c.answer-response.result c.write_response.result
    (c.answer-response.ensures.closed_told closed) c.write_response.ensures.puts
