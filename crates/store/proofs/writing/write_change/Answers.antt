-- Proof that `write_change` meets its contract.
use Rattle.std.proofs.Common.{sym, subst}
use Rattle.sqlite.specs.Held.{state}
use Rattle.register.specs.Offices.{OfficeState, receipt_entry}
use Rattle.register.specs.Effects.{with_effect, with_receipt, effect_entry}
use Rattle.register.specs.Tabulated.{TabulationEntries, tabulation_of, addition_entries, with_addition}
use Rattle.tables.specs.Contents.{Contents, Sees}
use Rattle.tables.proofs.SameLemmas.{sees_same}
use Rattle.tables.proofs.AlterLemmas.{alters_told, alters_both, alters_failed, alters_cut}
use Rattle.store.specs.StateTables.{tables_of, tables_with, SeesState}
use Rattle.store.proofs.WriteLemmas.{receipt_put}
use Rattle.store.proofs.writing.write_change.Goals as goal

pub returns-in_err-write_effect : goal.returns-in_err-write_effect
returns-in_err-write_effect g c = alters_failed c.from_residual.ensures.1 c.in_err-write_effect.ensures

pub returns-in_err-write_addition : goal.returns-in_err-write_addition
returns-in_err-write_addition g c = alters_cut c.from_residual-in_err-write_addition.ensures.1 c.in_ok-write_effect.ensures c.in_err-write_addition.ensures

pub returns : goal.returns
unfolding tables_of
returns g c =
    let e = effect_entry c.args.change.now.effect in
    let a = addition_entries c.args.change.now.addition in
    let r = receipt_entry c.args.change.now.receipt in
    let put = alters_both {To = λ (x : OfficeState × TabulationEntries). SeesState (with_effect e x.0, with_addition a x.1)} c.in_ok-write_effect.ensures c.in_ok-write_addition.ensures
    (λ x was sees. ((with_effect e x.0, x.1), sees, λ given. given)) in
    let all = alters_both {To = λ (x : OfficeState × TabulationEntries). SeesState (with_receipt r (with_effect e x.0), with_addition a x.1)} put c.add_entry.ensures
    (λ x was sees. (
      tables_with (with_effect e x.0) (with_addition a x.1),
      sees,
      λ given. sees_same _ _ (state g.S.Store c.add_entry.new.tx.conn.now) (receipt_put (with_effect e x.0) (with_addition a x.1) r) given,
    )) in
    alters_told all
    (λ p told. (
      (told.0.old, tabulation_of told.0.old),
      subst (λ (x : Contents). Sees x (state g.S.Store c.args.tx.now.conn.now)) told.0.from told.1,
      λ given. subst (λ (x : Contents). Sees x (state g.S.Store c.add_entry.new.tx.conn.now)) (sym told.0.to) given,
    ))
