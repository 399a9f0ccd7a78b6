-- Proof that `counted` meets its contract.
use Rattle.store.proofs.ElectionLemmas.{counted_shown}
use Rattle.store.proofs.views.counts.counted.Goals as goal

pub returns-clause-count : goal.returns-clause-count
returns-clause-count c entry found = counted_shown entry c.args.found c.in-Some.found c.in-Some.is found
