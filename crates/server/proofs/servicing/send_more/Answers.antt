-- Proof that `send_more` meets its contract.
use Rattle.connections.specs.Streams.{stream_of}
use Rattle.server.proofs.ServicingLemmas.{told_on}
use Rattle.server.proofs.servicing.send_more.Goals as goal

pub returns-in-Ok-true-clause-is : goal.returns-in-Ok-true-clause-is
returns-in-Ok-true-clause-is g c = λ start own.
    c.drop_rest.ensures.is start
    (told_on (stream_of g.L.Stream.held g.L.Stream.taken g.L.Stream.failed) start c.args.client.now.stream c.deliver.new.stream c.args.client.now.got.items c.args.client.now.answer c.in-Some.answer
    c.deliver.new.answer c.in-Some.is c.deliver.ensures.delivers c.deliver.ensures.same own)
