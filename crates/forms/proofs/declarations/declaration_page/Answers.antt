-- Proof that `declaration_page` meets its contract: the page around the body.
use Rattle.forms.specs.Declarations.{declaration_page}
use Rattle.forms.proofs.declarations.declaration_page.Goals as goal

pub returns : goal.returns
unfolding declaration_page
returns c = rw (c.as_str.ensures.value, c.in_ok-body.ensures) at c.page.ensures
