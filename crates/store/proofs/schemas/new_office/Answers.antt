-- Proof that `new_office` meets its contract.
use Rattle.std.proofs.Common.{◌≡◌, refl}
use Rattle.sqlite.specs.Held.{state}
use Rattle.sqlite.specs.Steps.{over_memory}
use Rattle.store.proofs.SchemaLemmas.{clean_memory, made_schema}
use Rattle.store.proofs.schemas.new_office.Goals as goal

pub returns-in-Ok-create : goal.returns-in-Ok-create
returns-in-Ok-create c =
    rw c.into_connection.ensures
    (made_schema (state over_memory c.in-Ok.conn) (state over_memory c.in-Ok-create.store) clean_memory refl c.in-Ok.ensures.empty c.in-Ok-create.ensures.made)
