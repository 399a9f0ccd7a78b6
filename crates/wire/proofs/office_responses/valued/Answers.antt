-- Proof that `valued` meets its contract.
use Rattle.std.specs.Prelude.{string_bytes}
use Rattle.wire.proofs.ToldLemmas.{IsTold-data}
use Rattle.wire.proofs.office_responses.valued.Goals as goal

pub returns : goal.returns
returns c = λ value none made. IsTold-data string_bytes value c.value_text.result c.made.result (c.value_text.ensures value none made) c.made.ensures.told c.made.ensures.memory
