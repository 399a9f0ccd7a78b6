-- Proof that `covers_page` meets its contract: the page around the body.
use Rattle.forms.specs.Covers.{covers_page}
use Rattle.forms.proofs.covers.covers_page.Goals as goal

pub returns : goal.returns
unfolding covers_page
returns c = rw (c.as_str.ensures.value, c.in_ok-body.ensures) at c.page.ensures
