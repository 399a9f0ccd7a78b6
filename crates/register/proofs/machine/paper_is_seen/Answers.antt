use Rattle.register.proofs.SeenLemmas.{paper_seen}
use Rattle.register.proofs.machine.paper_is_seen.Goals as goal

pub returns : goal.returns
returns c s clerk batch = paper_seen s clerk batch
