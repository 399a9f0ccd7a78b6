-- Proof that `draft_of` meets its contract.
use Rattle.desk.proofs.journal_check.draft_of.Goals as goal

-- the text was parsed, and isn't a script of requests
pub returns-clause-none : goal.returns-clause-none
returns-clause-none c = rw c.as_str.ensures.value at c.in_ok-requests.ensures.none
