-- Proof that `ballots_read_back` meets its contract.
use Rattle.checker.proofs.OwnBallots.{own_check, own_problem}
use Rattle.checker.proofs.ReadBackLaws.{ballots_back}
use Rattle.checker.proofs.reading_back.ballots_read_back.Goals as goal

pub returns-clause-back : goal.returns-clause-back
returns-clause-back c = ballots_back

pub returns-clause-checked : goal.returns-clause-checked
returns-clause-checked c = own_check

pub returns-clause-hindered : goal.returns-clause-hindered
returns-clause-hindered c = own_problem
