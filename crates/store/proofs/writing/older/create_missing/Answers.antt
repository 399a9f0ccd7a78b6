-- Proof that `create_missing` meets its contract.
use Rattle.sqlite.specs.Held.{state}
use Rattle.store.specs.declared.older.OlderForm.TheVariants.{WithCounts, WithoutCounts}
use Rattle.store.specs.Migrations.{older_tables}
use Rattle.tables.proofs.MakeLemmas.{all_made}
use Rattle.tables.proofs.AlterLemmas.{alters_told}
use Rattle.store.proofs.MigrationLemmas.{third_none, bundles_none, figures_none}
use Rattle.store.proofs.writing.older.create_missing.Goals as goal

pub returns-in-WithCounts : goal.returns-in-WithCounts
returns-in-WithCounts g c = rw c.in-WithCounts.is (alters_told c.create_table.ensures.makes
    (λ s sees. (
      older_tables WithCounts s,
      (third_none WithCounts s sees.0, sees.1),
      all_made (older_tables WithCounts s) (state g.S.Store c.create_table.new.tx.conn.now),
    )))

pub returns-in-WithoutCounts : goal.returns-in-WithoutCounts
returns-in-WithoutCounts g c = rw c.in-WithoutCounts.is (alters_told c.create_last_three.ensures
    (λ s sees. (
      older_tables WithoutCounts s,
      (bundles_none s sees.0, figures_none s sees.0, third_none WithoutCounts s sees.0, sees.1),
      all_made (older_tables WithoutCounts s) (state g.S.Store c.create_last_three.new.tx.conn.now),
    )))
