-- Proof that `slips_page` meets its contract: the page around the body.
use Rattle.forms.specs.Slips.{slips_page}
use Rattle.forms.proofs.slips.slips_page.Goals as goal

pub returns : goal.returns
unfolding slips_page
returns c = rw (c.as_str.ensures.value, c.in_ok-body.ensures) at c.page.ensures
