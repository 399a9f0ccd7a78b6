-- Proof that `after_title` meets its contract.
use Rattle.std.proofs.Common.{refl}
use Rattle.publication.specs.CheckPage.{after_title}
use Rattle.publication.proofs.check_page.after_title.Goals as goal

pub returns : goal.returns
unfolding after_title
returns c = refl
