-- Proof that `older_rows` meets its contract.
use Rattle.store.proofs.older.older_rows.Goals as goal

pub returns-in-WithCounts-clause-lists : goal.returns-in-WithCounts-clause-lists
returns-in-WithCounts-clause-lists g c = rw c.in-WithCounts.is c.counted_rows.ensures.lists

pub returns-in-WithoutCounts-clause-lists : goal.returns-in-WithoutCounts-clause-lists
returns-in-WithoutCounts-clause-lists g c = rw c.in-WithoutCounts.is c.first_rows.ensures.lists
