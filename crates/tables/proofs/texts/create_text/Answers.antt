-- Proof that `create_text` meets its contract.
use Rattle.std.proofs.Common.{refl}
use Rattle.tables.specs.Texts.{create_text}
use Rattle.tables.proofs.texts.create_text.Goals as goal

pub returns-in-Ward : goal.returns-in-Ward
unfolding create_text
returns-in-Ward c = rw c.in-Ward.is refl

pub returns-in-Candidate : goal.returns-in-Candidate
unfolding create_text
returns-in-Candidate c = rw c.in-Candidate.is refl

pub returns-in-Batch : goal.returns-in-Batch
unfolding create_text
returns-in-Batch c = rw c.in-Batch.is refl

pub returns-in-Keying : goal.returns-in-Keying
unfolding create_text
returns-in-Keying c = rw c.in-Keying.is refl

pub returns-in-Verdict : goal.returns-in-Verdict
unfolding create_text
returns-in-Verdict c = rw c.in-Verdict.is refl

pub returns-in-Lot : goal.returns-in-Lot
unfolding create_text
returns-in-Lot c = rw c.in-Lot.is refl

pub returns-in-Receipt : goal.returns-in-Receipt
unfolding create_text
returns-in-Receipt c = rw c.in-Receipt.is refl

pub returns-in-Bundle : goal.returns-in-Bundle
unfolding create_text
returns-in-Bundle c = rw c.in-Bundle.is refl

pub returns-in-Vote : goal.returns-in-Vote
unfolding create_text
returns-in-Vote c = rw c.in-Vote.is refl

pub returns-in-Third : goal.returns-in-Third
unfolding create_text
returns-in-Third c = rw c.in-Third.is refl
