-- Proof that `is_same` of a table meets its contract.
use Rattle.std.proofs.Common.{◌≡◌}
use Rattle.store.proofs.SchemaLemmas.{same_table}
use Rattle.store.proofs.schemas.TableAlike.is_same.Goals as goal

pub returns : goal.returns
returns c = λ last.
    same_table c.args.self.now c.args.other.now (c.same_names.ensures c.if-not-same_names.false) (c.same_columns.ensures c.if-not-same_columns.false) (c.same_rules.ensures last)
