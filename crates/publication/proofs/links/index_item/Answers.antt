-- Proof that `index_item` meets its contract.
use Rattle.publication.proofs.links.index_item.Goals as goal

pub returns : goal.returns
returns c =
    rw (
      c.as_str.ensures.value,
      c.in_ok-page.ensures,
      c.format.ensures.text,
      c.as_str-2.ensures.value,
      c.in_ok-name.ensures,
      c.as_str-3.ensures.value,
      c.in_ok-links.ensures,
    ) at c.joined.ensures
