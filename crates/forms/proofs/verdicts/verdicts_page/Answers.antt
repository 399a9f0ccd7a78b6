-- Proof that `verdicts_page` meets its contract: the page around the body.
use Rattle.forms.specs.Verdicts.{verdicts_page}
use Rattle.forms.proofs.verdicts.verdicts_page.Goals as goal

pub returns : goal.returns
unfolding verdicts_page
returns c = rw (c.as_str.ensures.value, c.in_ok-body.ensures) at c.page.ensures
