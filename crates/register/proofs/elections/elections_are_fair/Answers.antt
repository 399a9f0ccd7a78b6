-- Proof that `elections_are_fair` meets its contract.
use Rattle.register.proofs.ContestLemmas.{contest_is_fair, seats_and_papers_are_few}
use Rattle.register.proofs.TotalLemmas.{polls_add_up}
use Rattle.register.proofs.elections.elections_are_fair.Goals as goal

pub returns-clause-fair : goal.returns-clause-fair
returns-clause-fair c = contest_is_fair

pub returns-clause-adds_up : goal.returns-clause-adds_up
returns-clause-adds_up c = polls_add_up

pub returns-clause-few : goal.returns-clause-few
returns-clause-few c = seats_and_papers_are_few
