-- Proof that `insert` meets its contract.
use Rattle.std.proofs.Common.{Ok}
use Rattle.sqlite.specs.Values.{bound}
use Rattle.sqlite.specs.Held.{state}
use Rattle.tables.proofs.ContentsLemmas.{row_added}
use Rattle.tables.proofs.AlterLemmas.{executed}
use Rattle.tables.proofs.insertion.insert.Goals as goal

pub returns-clause-adds : goal.returns-clause-adds
returns-clause-adds g c =
    executed (rw c.insert_text.ensures at c.execute.ensures)
    (λ contents sees. (
      sees.inside,
      λ count ran. row_added c.args.table (bound c.args.values.now) c.requires.kinds (state g.S.Store c.args.tx.now.conn.now) (state g.S.Store c.execute.new.tx.conn.now)
          (Ok count) (λ inside. ran) contents sees,
    ))

pub returns-clause-told : goal.returns-clause-told
returns-clause-told g c = (rw c.insert_text.ensures at c.execute.ensures).told
