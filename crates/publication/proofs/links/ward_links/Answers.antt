-- Proof that `ward_links` meets its contract.
use Rattle.publication.proofs.links.ward_links.Goals as goal

pub returns : goal.returns
returns c = rw (c.as_str.ensures.value, c.in_ok-links.ensures) at c.joined.ensures
