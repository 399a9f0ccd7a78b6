-- Proof that `serve_connections` meets its contract.
use Rattle.server.proofs.serving.serve_connections.Goals as goal

pub returns-clause-served : goal.returns-clause-served
returns-clause-served g c = c.serve_recorded-ended.ensures.served
