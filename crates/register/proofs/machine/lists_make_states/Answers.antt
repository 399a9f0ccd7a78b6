use Rattle.register.specs.Offices.{empty_office}
use Rattle.register.proofs.ListLaws.{after-accepted_of, after_stays, empty_is_a_state}
use Rattle.register.proofs.machine.lists_make_states.Goals as goal

pub returns-clause-from_empty : goal.returns-clause-from_empty
returns-clause-from_empty c rs = after_stays empty_office rs empty_is_a_state

pub returns-clause-from_state : goal.returns-clause-from_state
returns-clause-from_state c s rs is = after_stays s rs is

pub returns-clause-of_accepted : goal.returns-clause-of_accepted
returns-clause-of_accepted c s rs = after-accepted_of s rs
