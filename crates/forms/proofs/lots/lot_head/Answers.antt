-- Proof that `lot_head` meets its contract: the words are those of the purpose.
use Rattle.forms.specs.Lots.{lot_head}
use Rattle.forms.proofs.lots.lot_head.Goals as goal

pub returns : goal.returns
unfolding lot_head
returns c = rw c.purpose_words-decides.ensures at c.format.ensures.ok
