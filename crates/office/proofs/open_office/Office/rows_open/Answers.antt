-- Proof that `rows_open` meets its contract.
use Rattle.std.proofs.Common.{inl, inr, refl, sym, subst}
use Rattle.sqlite.specs.Held.{state}
use Rattle.store.specs.StateTables.{IsAt}
use Rattle.office.specs.Values.{OfficeValue}
use Rattle.office.proofs.StopLemmas.{left_reading}
use Rattle.office.proofs.open_office.Office.rows_open.Goals as goal

pub returns-in-Ok-clause-kept : goal.returns-in-Ok-clause-kept
returns-in-Ok-clause-kept g c clean is_open s at =
    let here = subst (λ (o : OfficeValue _). IsAt s (state g.S.Store o.held)) (sym c.self.view_is) at in
    (c.in-Ok.ensures.kept clean s here, tt, left_reading s _ _ _ c.rows.ensures.reads clean here)

pub returns-in-Err-Memory-clause-kept : goal.returns-in-Err-Memory-clause-kept
returns-in-Err-Memory-clause-kept g c clean is_open s at =
    let here = subst (λ (o : OfficeValue _). IsAt s (state g.S.Store o.held)) (sym c.self.view_is) at in
    (tt, inl refl, left_reading s _ _ _ c.rows.ensures.reads clean here)

pub returns-in-Err-clause-kept : goal.returns-in-Err-clause-kept
returns-in-Err-clause-kept g c clean is_open s at =
    let here = subst (λ (o : OfficeValue _). IsAt s (state g.S.Store o.held)) (sym c.self.view_is) at in
    (tt, inr refl, left_reading s _ _ _ c.rows.ensures.reads clean here)
