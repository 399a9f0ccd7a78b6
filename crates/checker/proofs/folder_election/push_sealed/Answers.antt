-- Proof that `push_sealed` meets its contract.
use Rattle.checker.proofs.folder_election.push_sealed.Goals as goal

pub returns-in-Ok-clause-again : goal.returns-in-Ok-clause-again
returns-in-Ok-clause-again c = λ ward from. c.in-Ok.ensures.again c.args.title.now ward (c.in_ok-made.ensures.again ward from)
