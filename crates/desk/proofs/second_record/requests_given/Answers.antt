-- Proof that `requests_given` meets its contract.
use Rattle.desk.proofs.SecondLemmas.{ungiven_found}
use Rattle.desk.proofs.second_record.requests_given.Goals as goal

-- each step sends a request
pub returns-in-Some-clause-some : goal.returns-in-Some-clause-some
returns-in-Some-clause-some c = rw c.in-Some.is at c.in_ok-found.ensures.some

-- one of them does something else
pub returns-in-None-clause-none : goal.returns-in-None-clause-none
returns-in-None-clause-none c = ungiven_found c.args.turns.items c.ungiven_line-line.result (rw c.deref.ensures.value at c.ungiven_line-line.ensures) (rw c.in-None.is at c.in_ok-found.ensures.none)
