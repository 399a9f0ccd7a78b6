-- Proof that `is_without_file` meets its contract.
use Rattle.std.proofs.Common.{◌∙◌, sym}
use Rattle.server.proofs.ServicingLemmas.{known_gone, untrue}
use Rattle.server.proofs.servicing.is_without_file.Goals as goal

pub returns-then-is_closed-clause-unknown : goal.returns-then-is_closed-clause-unknown
returns-then-is_closed-clause-unknown g c = λ gone. known_gone (g.A.ServedFile.whole c.args.served_file.now) c.is_whole.result c.is_whole.ensures (untrue c.is_whole.result gone)

pub returns-in-None-clause-unknown : goal.returns-in-None-clause-unknown
returns-in-None-clause-unknown g c = λ gone. known_gone (g.A.ServedFile.whole c.args.served_file.now) c.is_whole-in-None.result c.is_whole-in-None.ensures (untrue c.is_whole-in-None.result gone)

pub returns-in-None-clause-reads_none : goal.returns-in-None-clause-reads_none
returns-in-None-clause-reads_none g c = λ gone is_open its got parsed what asks. cc (sym c.in-None.is ∙ c.reading.ensures.each its got parsed what asks)
