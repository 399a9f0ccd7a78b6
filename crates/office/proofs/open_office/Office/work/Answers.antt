use Rattle.std.proofs.Common.{sym, subst, ◌∙◌}
use Rattle.sqlite.specs.Held.{state}
use Rattle.register.proofs.SeenLemmas.{work_seen}
use Rattle.store.specs.StateTables.{IsAt}
use Rattle.office.specs.Values.{OfficeValue}
use Rattle.office.proofs.open_office.Office.work.Goals as goal

pub returns-in-Ok-clause-blind : goal.returns-in-Ok-clause-blind
returns-in-Ok-clause-blind g c clean is_open s at =
    let here = subst (λ (o : OfficeValue _). IsAt s (state g.S.Store o.held)) (sym c.self.view_is) at in
    c.in-Ok.ensures.shows clean s here ∙ sym (work_seen s c.args.clerk)
