-- Proof that `replace` meets its contract.
use Rattle.std.proofs.Common.{Ok}
use Rattle.sqlite.specs.Values.{bound}
use Rattle.sqlite.specs.Held.{state}
use Rattle.tables.proofs.ChangeLemmas.{row_replaced}
use Rattle.tables.proofs.AlterLemmas.{executed}
use Rattle.tables.proofs.replacement.replace.Goals as goal

pub returns-clause-replaces : goal.returns-clause-replaces
returns-clause-replaces g c =
    executed (rw c.update_text.ensures at c.execute.ensures)
    (λ contents sees. (
      sees.inside,
      λ count ran. row_replaced c.args.table c.requires.changes (bound c.args.values.now) c.requires.kinds (state g.S.Store c.args.tx.now.conn.now)
          (state g.S.Store c.execute.new.tx.conn.now) (Ok count) (λ inside. ran) contents sees,
    ))

pub returns-clause-told : goal.returns-clause-told
returns-clause-told g c = (rw c.update_text.ensures at c.execute.ensures).told
