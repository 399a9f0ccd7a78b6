-- Proof that `check_page` meets its contract.
use Rattle.publication.proofs.check_page.check_page.Goals as goal

pub returns : goal.returns
returns c = rw (c.before_title.ensures, c.as_str.ensures.value, c.in_ok-title.ensures, c.after_title.ensures) at c.joined.ensures
