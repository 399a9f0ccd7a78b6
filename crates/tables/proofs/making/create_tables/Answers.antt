-- Proof that `create_tables` meets its contract.
use Rattle.std.proofs.Common.{◌≡◌, ◌+◌, ℕ, sym, subst, arith}
use Rattle.sqlite.specs.Held.{state}
use Rattle.tables.specs.Making.{no_contents, SeesMade}
use Rattle.tables.proofs.SameLemmas.{no_rows}
use Rattle.tables.proofs.TableLemmas.{place_there}
use Rattle.tables.proofs.MakeLemmas.{none_made, all_made}
use Rattle.tables.proofs.AlterLemmas.{alters_none, alters_told, alters_both, alters_cut}
use Rattle.tables.proofs.making.create_tables.Goals as goal

pub loop-table-init : goal.loop-table-init
loop-table-init g c = alters_none (λ x made. made)

pub loop-table-preserved : goal.loop-table-preserved
loop-table-preserved g c =
    let place = place_there c.loop-table.table-index c.loop-table-test.true in
    alters_both c.loop-table.invariant c.in_ok-create_table.ensures.makes
    (λ x from made. (
      no_contents,
      (no_rows _, subst (λ (n : ℕ). SeesMade n no_contents (state g.S.Store c.loop-table.tx.conn.now)) (sym place) made),
      λ given. subst (λ (n : ℕ). SeesMade (n + 1) no_contents (state g.S.Store c.create_table.new.tx.conn.now)) place given,
    ))

pub returns-in_err-create_table : goal.returns-in_err-create_table
returns-in_err-create_table g c = alters_cut c.from_residual.ensures.1 c.loop-table.invariant c.in_err-create_table.ensures.makes

pub returns : goal.returns
returns g c =
    let all : c.loop-table.table-index ≡ 11 = omega arith in
    alters_told c.loop-table.invariant
    (λ x sees. (
      tt,
      none_made no_contents (state g.S.Store c.args.tx.now.conn.now) sees.inside sees.schema sees.sound,
      λ given. all_made no_contents (state g.S.Store c.loop-table.tx.conn.now) (subst (λ (n : ℕ). SeesMade n no_contents (state g.S.Store c.loop-table.tx.conn.now)) all given),
    ))
