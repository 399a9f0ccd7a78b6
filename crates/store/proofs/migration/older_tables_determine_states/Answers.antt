-- Proof that `older_tables_determine_states` meets its contract.
use Rattle.store.proofs.MigrationLemmas.{same_older, older_once, older_again}
use Rattle.store.proofs.migration.older_tables_determine_states.Goals as goal

pub returns-clause-equal : goal.returns-clause-equal
returns-clause-equal c = same_older

pub returns-clause-alone : goal.returns-clause-alone
returns-clause-alone c = older_once

pub returns-clause-again : goal.returns-clause-again
returns-clause-again c = older_again
