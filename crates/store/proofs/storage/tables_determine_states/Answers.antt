-- Proof that `tables_determine_states` meets its contract.
use Rattle.store.proofs.StateLemmas.{equal_states, one_state}
use Rattle.store.proofs.storage.tables_determine_states.Goals as goal

pub returns-clause-equal : goal.returns-clause-equal
returns-clause-equal c = equal_states

pub returns-clause-alone : goal.returns-clause-alone
returns-clause-alone c = one_state
