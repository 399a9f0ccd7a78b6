-- Proof that `part_link` meets its contract.
use Rattle.publication.proofs.links.part_link.Goals as goal

pub returns : goal.returns
returns c = rw (c.as_str.ensures.value, c.in_ok-name.ensures) at c.joined.ensures
