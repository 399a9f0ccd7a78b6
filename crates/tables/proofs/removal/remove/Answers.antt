-- Proof that `remove` meets its contract.
use Rattle.std.proofs.Common.{Ok}
use Rattle.sqlite.specs.Values.{bound}
use Rattle.sqlite.specs.Held.{state}
use Rattle.tables.proofs.ChangeLemmas.{row_removed}
use Rattle.tables.proofs.AlterLemmas.{executed}
use Rattle.tables.proofs.removal.remove.Goals as goal

pub returns-clause-removes : goal.returns-clause-removes
returns-clause-removes g c =
    executed (rw c.delete_text.ensures at c.execute.ensures)
    (λ contents sees. (
      sees.inside,
      λ count ran. row_removed c.args.table c.requires.changes (bound c.args.key.now) (state g.S.Store c.args.tx.now.conn.now) (state g.S.Store c.execute.new.tx.conn.now)
          (Ok count) (λ inside. ran) contents sees,
    ))

pub returns-clause-told : goal.returns-clause-told
returns-clause-told g c = (rw c.delete_text.ensures at c.execute.ensures).told
