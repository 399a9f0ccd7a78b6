-- Proof that `Election::poll` meets its contract.
use Rattle.std.proofs.Common.{ap}
use Rattle.register.specs.Offices.{WardEntry}
use Rattle.register.proofs.BundledLemmas.{poll-alike}
use Rattle.register.proofs.elections.Election.poll.Goals as goal

pub returns-clause-is : goal.returns-clause-is
returns-clause-is c e is =
    poll-alike e c.papers-valid.result c.args.self.now.ward.seats c.quota.result c.args.self.now.ballots.papers
    c.args.self.now.ballots.rejected c.args.self.now.ballots.settled is.ballots_are.papers_held
    c.papers-valid.ensures.is is.ballots_are.rejected_are is.ballots_are.settled_is (ap (λ (w : WardEntry). w.seats) is.ward_is) c.quota.ensures.is
