-- Proof that `check_rowids` meets its contract.
use Rattle.std.proofs.Common.{◌≡◌, inl, inr, sym, ◌∙◌}
use Rattle.std.proofs.lemmas.Result.{err_from_is_err_and}
use Rattle.sqlite.specs.Held.{state}
use Rattle.tables.specs.declared.fault.Fault.TheVariants.{Memory, Store}
use Rattle.tables.proofs.CauseLemmas.{failed_by, rowids_fail}
use Rattle.tables.proofs.RowidLemmas.{keyed_from, repeated}
use Rattle.tables.proofs.rowids.check_rowids.Goals as goal

pub returns-clause-keyed : goal.returns-clause-keyed
returns-clause-keyed g c clean db begins rests =
    keyed_from c.args.table db c.in_ok-rows.rows.items (c.in_ok-rows.ensures.lists clean db begins rests) (rw c.deref.ensures.value at c.in_ok-check_each.ensures.rise)

pub returns-in_err-check_each-clause-cause : goal.returns-in_err-check_each-clause-cause
returns-in_err-check_each-clause-cause g c clean db begins rests =
    let p = err_from_is_err_and c.from_residual-in_err-check_each.result c.from_residual-in_err-check_each.ensures.1 in
    rw (p.1, p.2) (elim c.in_err-check_each.ensures.fall [
      | inl memory ↦ inr (inl memory)
      | inr wrong ↦ inr (inr (wrong.0, repeated c.args.table db c.in_ok-rows.rows.items (c.in_ok-rows.ensures.lists clean db begins rests) (rw c.deref.ensures.value at wrong.1)))
    ])

pub returns-in_err-rows-clause-fails : goal.returns-in_err-rows-clause-fails
returns-in_err-rows-clause-fails g c clean db begins rests =
    let p = err_from_is_err_and c.from_residual.result c.from_residual.ensures.1 in
    let fails = rowids_fail c.args.table c.requires.changes db begins (state g.S.Store c.args.conn.now) (state g.S.Store c.all_rowids.new.conn) _ clean rests c.in_err-rows.ensures.cause in
    rw (p.1, p.2) (λ store. inl (failed_by (state g.S.Store c.args.conn.now) (state g.S.Store c.all_rowids.new.conn) _ fails store))

pub returns-in_err-check_each-clause-fails : goal.returns-in_err-check_each-clause-fails
returns-in_err-check_each-clause-fails g c clean db begins rests =
    let p = err_from_is_err_and c.from_residual-in_err-check_each.result c.from_residual-in_err-check_each.ensures.1 in
    rw (p.1, p.2) (λ store. elim c.in_err-check_each.ensures.fall [
      | inl memory ↦ absurd (let no : Memory ≡ Store = sym memory ∙ store in cc)
      | inr wrong ↦ inr (c.args.table, c.requires.changes, repeated c.args.table db c.in_ok-rows.rows.items (c.in_ok-rows.ensures.lists clean db begins rests) (rw c.deref.ensures.value at wrong.1))
    ])
