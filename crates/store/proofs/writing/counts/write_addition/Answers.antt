-- Proof that `write_addition` meets its contract.
use Rattle.sqlite.specs.Held.{state}
use Rattle.register.specs.Offices.{OfficeState}
use Rattle.register.specs.Tabulated.{TabulationEntries}
use Rattle.tables.specs.Contents.{Contents}
use Rattle.tables.proofs.SameLemmas.{sees_same}
use Rattle.tables.proofs.AlterLemmas.{alters_same, alters_both, alters_failed}
use Rattle.store.specs.StateTables.{tables_with}
use Rattle.store.proofs.WriteLemmas.{with_moved, bundles_moved, both_put}
use Rattle.store.proofs.writing.counts.write_addition.Goals as goal

pub returns-in_err-replace_entries : goal.returns-in_err-replace_entries
returns-in_err-replace_entries g c = alters_failed c.from_residual.ensures.1 c.in_err-replace_entries.ensures

pub returns : goal.returns
returns g c =
    let a = c.args.addition.now in
    let moved = alters_same {from = λ (x : OfficeState × TabulationEntries). tables_with x.0 x.1} {to = λ x. tables_with x.0 (with_moved a.moved.items x.1)}
    (rw c.deref.ensures.value at c.in_ok-replace_entries.ensures)
    (λ x. bundles_moved x.0 x.1 a.moved.items) in
    alters_both moved (rw (c.deref-2.ensures.value, c.deref-3.ensures.value) at c.add_both.ensures)
    (λ x was sees. (
      tables_with x.0 (with_moved a.moved.items x.1),
      sees,
      λ given. sees_same _ _ (state g.S.Store c.add_both.new.tx.conn.now) (both_put x.0 (with_moved a.moved.items x.1) a.placed.items a.figures.items) given,
    ))
