-- Proof that `index_links` meets its contract.
use Rattle.publication.proofs.links.index_links.Goals as goal

pub returns : goal.returns
returns c = rw (c.as_str.ensures.value, c.in_ok-push_index_items.ensures, c.new-items.ensures.bytes) at c.joined.ensures
