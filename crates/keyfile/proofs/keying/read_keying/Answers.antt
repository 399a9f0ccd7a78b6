-- Proof that `read_keying` meets its contract.
use Rattle.keyfile.proofs.KeyedLemmas.{read_as_keyed}
use Rattle.keyfile.proofs.keying.read_keying.Goals as goal

pub returns-clause-spelled : goal.returns-clause-spelled
returns-clause-spelled g c = read_as_keyed c.args.columns
