-- Proof that `put_under` meets its contract.
use Rattle.std.proofs.Common.{arith}
use Rattle.std.proofs.lemmas.Grind.{text_groups}
use Rattle.store.proofs.overviews.piles.put_under.Goals as goal

pub returns : goal.returns
returns c = λ q. grind (arith, text_groups)
