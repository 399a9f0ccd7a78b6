-- Proof that `lot_page` meets its contract: the page around the body.
use Rattle.forms.specs.Lots.{lot_page}
use Rattle.forms.proofs.lots.lot_page.Goals as goal

pub returns : goal.returns
unfolding lot_page
returns c = rw (c.as_str.ensures.value, c.in_ok-body.ensures) at c.page.ensures
