-- Proof that `style` meets its contract.
use Rattle.std.proofs.Common.{refl}
use Rattle.forms.specs.Pages.{style}
use Rattle.forms.proofs.page.style.Goals as goal

pub returns : goal.returns
unfolding style
returns c = refl
