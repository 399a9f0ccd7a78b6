-- Proof that `write_new_office` meets its contract.
use Rattle.sqlite.specs.Held.{state}
use Rattle.tables.specs.Making.{no_contents}
use Rattle.tables.proofs.SameLemmas.{sees_same}
use Rattle.tables.proofs.AlterLemmas.{alters_both, alters_failed}
use Rattle.store.proofs.WriteLemmas.{office_put}
use Rattle.store.proofs.writing.write_new_office.Goals as goal

pub returns-in_err-create_tables : goal.returns-in_err-create_tables
returns-in_err-create_tables g c = alters_failed c.from_residual.ensures.1 c.in_err-create_tables.ensures

pub returns : goal.returns
returns g c =
    alters_both c.in_ok-create_tables.ensures (rw (c.number.ensures, c.number-2.ensures) at c.insert.ensures.adds)
    (λ x was sees. (no_contents, sees, λ given. sees_same _ _ (state g.S.Store c.insert.new.tx.conn.now) office_put given))
