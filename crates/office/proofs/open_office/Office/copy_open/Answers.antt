-- Proof that `copy_open` meets its contract.
use Rattle.std.proofs.Common.{sym, subst}
use Rattle.sqlite.specs.Held.{state}
use Rattle.store.specs.StateTables.{IsAt}
use Rattle.office.specs.Values.{OfficeValue}
use Rattle.office.proofs.StopLemmas.{left_reading}
use Rattle.std.specs.Prelude.{IsTrue}
use Rattle.tables.specs.Reading.{FailsBy}
use Rattle.store.proofs.ReopenLemmas.{at_left}
use Rattle.office.proofs.open_office.Office.copy_open.Goals as goal

pub returns-in-Ok-clause-copies : goal.returns-in-Ok-clause-copies
returns-in-Ok-clause-copies g c clean is_open s at =
    let here = subst (λ (o : OfficeValue _). IsAt s (state g.S.Store o.held)) (sym c.self.view_is) at in
    (c.in-Ok.ensures.kept clean s here, left_reading s c.self.inside.closed (state g.S.Store c.self.inside.store) (state g.S.Store c.copy_to.new.self) c.copy_to.ensures.reads clean here)

pub returns-in-Err-Office-clause-copies : goal.returns-in-Err-Office-clause-copies
returns-in-Err-Office-clause-copies g c clean is_open s at =
    let here = subst (λ (o : OfficeValue _). IsAt s (state g.S.Store o.held)) (sym c.self.view_is) at in (
      rw c.in-Err-Office.field-0-is at (c.in-Err-Office.ensures.kept clean s here),
      left_reading s _ (state g.S.Store c.self.inside.store)
          (state g.S.Store c.copy_to.new.self) c.copy_to.ensures.reads clean here,
    )

pub returns-in-Err-Taken-clause-copies : goal.returns-in-Err-Taken-clause-copies
returns-in-Err-Taken-clause-copies g c clean is_open s at =
    let here = subst (λ (o : OfficeValue _). IsAt s (state g.S.Store o.held)) (sym c.self.view_is) at in (
      rw c.in-Err-Taken.field-0-is at (c.in-Err-Taken.ensures.kept clean s here),
      left_reading s c.self.inside.closed (state g.S.Store c.self.inside.store)
          (state g.S.Store c.copy_to.new.self) c.copy_to.ensures.reads clean here,
    )

pub returns-in-Err-Copy-clause-copies : goal.returns-in-Err-Copy-clause-copies
returns-in-Err-Copy-clause-copies g c clean is_open s at =
    let here = subst (λ (o : OfficeValue _). IsAt s (state g.S.Store o.held)) (sym c.self.view_is) at in (
      rw c.in-Err-Copy.field-0-is at (c.in-Err-Copy.ensures.kept clean s here),
      left_reading s c.self.inside.closed (state g.S.Store c.self.inside.store)
          (state g.S.Store c.copy_to.new.self) c.copy_to.ensures.reads clean here,
    )

pub returns-in-Err-Office-clause-cause : goal.returns-in-Err-Office-clause-cause
returns-in-Err-Office-clause-cause g c clean is_open s at opened blank =
    let here = subst (λ (o : OfficeValue _). IsAt s (state g.S.Store o.held)) (sym c.self.view_is) at in
    let open_here = subst (λ (o : OfficeValue _). IsTrue (state g.S.Store o.held).is_open) (sym c.self.view_is) opened in
    let was = at_left s (state g.S.Store c.self.inside.store) here open_here in
    subst (λ (o : OfficeValue _). FailsBy (state g.S.Store o.held) (state g.S.Store c.copy_to.new.self) c.in-Err-Office.fault) c.self.view_is
    (rw c.in-Err-Office.field-0-is at (c.in-Err-Office.ensures.cause clean (state g.S.Store c.self.inside.store).now was.0 s was.1 blank))

pub returns-in-Err-Taken-clause-cause : goal.returns-in-Err-Taken-clause-cause
returns-in-Err-Taken-clause-cause g c clean is_open s at opened blank =
    let here = subst (λ (o : OfficeValue _). IsAt s (state g.S.Store o.held)) (sym c.self.view_is) at in
    let open_here = subst (λ (o : OfficeValue _). IsTrue (state g.S.Store o.held).is_open) (sym c.self.view_is) opened in
    let was = at_left s (state g.S.Store c.self.inside.store) here open_here in
    rw c.in-Err-Taken.field-0-is at (c.in-Err-Taken.ensures.cause clean (state g.S.Store c.self.inside.store).now was.0 s was.1 blank)

pub returns-in-Err-Copy-clause-cause : goal.returns-in-Err-Copy-clause-cause
returns-in-Err-Copy-clause-cause g c clean is_open s at opened blank =
    let here = subst (λ (o : OfficeValue _). IsAt s (state g.S.Store o.held)) (sym c.self.view_is) at in
    let open_here = subst (λ (o : OfficeValue _). IsTrue (state g.S.Store o.held).is_open) (sym c.self.view_is) opened in
    let was = at_left s (state g.S.Store c.self.inside.store) here open_here in
    rw c.in-Err-Copy.field-0-is at (c.in-Err-Copy.ensures.cause clean (state g.S.Store c.self.inside.store).now was.0 s was.1 blank)
