use Rattle.register.proofs.SeenLemmas.{work_seen}
use Rattle.register.proofs.machine.work_is_seen.Goals as goal

pub returns : goal.returns
returns c s clerk = work_seen s clerk
