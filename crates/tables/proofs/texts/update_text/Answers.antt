-- Proof that `update_text` meets its contract.
use Rattle.std.proofs.Common.{refl}
use Rattle.tables.specs.Texts.{update_text}
use Rattle.tables.proofs.texts.update_text.Goals as goal

pub returns-in-Ward : goal.returns-in-Ward
unfolding update_text
returns-in-Ward c = rw c.in-Ward.is refl

pub returns-in-Batch : goal.returns-in-Batch
unfolding update_text
returns-in-Batch c = rw c.in-Batch.is refl

pub returns-in-Bundle : goal.returns-in-Bundle
unfolding update_text
returns-in-Bundle c = rw c.in-Bundle.is refl
