-- Proof that `settled_papers_suffice` meets its contract.
use Rattle.register.proofs.ElectionLemmas.{settled_in_count}
use Rattle.register.proofs.PollLemmas.{settled_alone}
use Rattle.register.specs.Agreement.{batches_of}
use Rattle.register.proofs.elections.settled_papers_suffice.Goals as goal

pub returns : goal.returns
returns c s w columns is there counted = settled_alone s columns (batches_of s w.number) (settled_in_count s w is there counted)
