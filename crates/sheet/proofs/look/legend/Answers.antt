-- Proof that `legend` meets its contract.
use Rattle.std.proofs.Common.{refl}
use Rattle.sheet.specs.Look.{legend}
use Rattle.sheet.proofs.look.legend.Goals as goal

pub returns : goal.returns
unfolding legend
returns c = refl
