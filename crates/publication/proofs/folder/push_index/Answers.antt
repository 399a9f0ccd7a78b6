-- Proof that `push_index` meets its contract.
use Rattle.publication.proofs.folder.push_index.Goals as goal

pub returns : goal.returns
returns c = rw (c.in_ok-page.ensures, c.as_str.ensures.value, c.in_ok-links.ensures) at c.push_named.ensures
