-- Proof that `affected_batches` meets its contract.
use Rattle.std.proofs.Common.{◌≡◌}
use Rattle.store.proofs.MemoryLemmas.{keyed_apart}
use Rattle.store.proofs.batch_cache.affected_batches.Goals as goal

pub returns-in-Some : goal.returns-in-Some
returns-in-Some c b apart =
    rw c.in-PapersKeyed.is (keyed_apart c.in-Some.number b.number c.in-PapersKeyed.papers.items (rw c.deref.ensures.value at c.in-Some.ensures) apart)
