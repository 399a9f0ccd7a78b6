-- Proof that `create_table` meets its contract.
use Rattle.std.proofs.Common.{Ok}
use Rattle.sqlite.specs.Held.{state}
use Rattle.tables.proofs.MakeLemmas.{table_made}
use Rattle.tables.proofs.AlterLemmas.{executed}
use Rattle.tables.proofs.making.create_table.Goals as goal

pub returns-clause-makes : goal.returns-clause-makes
returns-clause-makes g c =
    executed (rw c.create_text.ensures at c.execute.ensures)
    (λ contents had. (
      had.1.inside,
      λ count ran. table_made c.args.table contents had.0 (state g.S.Store c.args.tx.now.conn.now) (state g.S.Store c.execute.new.tx.conn.now) (Ok count) (λ inside. ran) had.1,
    ))

pub returns-clause-told : goal.returns-clause-told
returns-clause-told g c = (rw c.create_text.ensures at c.execute.ensures).told
