-- Proof that `style` meets its contract.
use Rattle.std.proofs.Common.{refl}
use Rattle.sheet.specs.Look.{style}
use Rattle.sheet.proofs.look.style.Goals as goal

pub returns : goal.returns
unfolding style
returns c = refl
