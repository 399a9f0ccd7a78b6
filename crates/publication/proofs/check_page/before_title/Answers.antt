-- Proof that `before_title` meets its contract.
use Rattle.std.proofs.Common.{refl}
use Rattle.publication.specs.CheckPage.{before_title}
use Rattle.publication.proofs.check_page.before_title.Goals as goal

pub returns : goal.returns
unfolding before_title
returns c = refl
