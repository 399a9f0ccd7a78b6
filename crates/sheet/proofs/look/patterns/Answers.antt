-- Proof that `patterns` meets its contract.
use Rattle.std.proofs.Common.{refl}
use Rattle.sheet.specs.Look.{patterns}
use Rattle.sheet.proofs.look.patterns.Goals as goal

pub returns : goal.returns
unfolding patterns
returns c = refl
