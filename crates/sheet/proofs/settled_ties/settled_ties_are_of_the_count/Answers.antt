-- Proof that `settled_ties_are_of_the_count` meets its contract.
use Rattle.sheet.proofs.SettledLaw.{settled_on_a_page}
use Rattle.sheet.proofs.settled_ties.settled_ties_are_of_the_count.Goals as goal

pub returns : goal.returns
returns c = settled_on_a_page
