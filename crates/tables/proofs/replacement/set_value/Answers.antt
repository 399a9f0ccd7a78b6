-- Proof that `set_value` meets its contract.
use Rattle.std.proofs.Common.{Ok}
use Rattle.sqlite.specs.Values.{bound}
use Rattle.sqlite.specs.Held.{state}
use Rattle.tables.proofs.ChangeLemmas.{value_set_there}
use Rattle.tables.proofs.AlterLemmas.{executed}
use Rattle.tables.proofs.replacement.set_value.Goals as goal

pub returns-clause-sets : goal.returns-clause-sets
returns-clause-sets g c =
    executed (rw c.set_text.ensures at c.execute.ensures)
    (λ contents sees. (
      sees.inside,
      λ count ran. value_set_there c.args.setting (bound c.args.values.now) c.requires.kind (state g.S.Store c.args.tx.now.conn.now)
          (state g.S.Store c.execute.new.tx.conn.now) (Ok count) (λ inside. ran) contents sees,
    ))

pub returns-clause-told : goal.returns-clause-told
returns-clause-told g c = (rw c.set_text.ensures at c.execute.ensures).told
