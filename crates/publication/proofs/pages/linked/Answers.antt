-- Proof that `linked` meets its contract.
use Rattle.publication.proofs.pages.linked.Goals as goal

pub returns : goal.returns
returns c = rw c.front_of.ensures at c.joined.ensures
