-- Proof that `columns_of` meets its contract.
use Rattle.std.proofs.Common.{arith}
use Rattle.checker.proofs.RecordLemmas.{columns_more}
use Rattle.checker.proofs.records.columns_of.Goals as goal

pub loop-below-preserved : goal.loop-below-preserved
loop-below-preserved c = columns_more c.loop-below.below c.loop-below.columns c.with-columns.result (omega arith) c.loop-below.invariant c.with-columns.ensures.last
