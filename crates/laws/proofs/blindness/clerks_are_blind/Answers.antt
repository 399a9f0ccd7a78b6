-- Proof that `clerks_are_blind` meets its contract.
use Rattle.laws.proofs.ObservationLemmas.{alike_offices_answer_alike, clerks_blind, decided_by_observed, own_observed, seen_alike, seen_is_observed}
use Rattle.laws.proofs.blindness.clerks_are_blind.Goals as goal

pub returns-clause-alike : goal.returns-clause-alike
returns-clause-alike c = alike_offices_answer_alike

pub returns-clause-seen : goal.returns-clause-seen
returns-clause-seen c = seen_is_observed

pub returns-clause-decided : goal.returns-clause-decided
returns-clause-decided c = decided_by_observed

pub returns-clause-blind : goal.returns-clause-blind
returns-clause-blind c = clerks_blind

pub returns-clause-own : goal.returns-clause-own
returns-clause-own c = own_observed

pub returns-clause-itself : goal.returns-clause-itself
returns-clause-itself c = seen_alike
