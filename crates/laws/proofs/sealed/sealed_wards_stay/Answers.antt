-- Proof that `sealed_wards_stay` meets its contract.
use Rattle.laws.proofs.SealedLemmas.{papers_stay, wards_stay}
use Rattle.laws.proofs.sealed.sealed_wards_stay.Goals as goal

pub returns-clause-wards : goal.returns-clause-wards
returns-clause-wards c = wards_stay

pub returns-clause-papers : goal.returns-clause-papers
returns-clause-papers c = papers_stay
