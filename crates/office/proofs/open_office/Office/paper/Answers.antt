use Rattle.std.proofs.Common.{◌≡◌, Some, option_map, sym, subst, ◌∙◌}
use Rattle.sqlite.specs.Held.{state}
use Rattle.register.specs.Status.{paper_at, paper_entry}
use Rattle.register.proofs.SeenLemmas.{paper_seen}
use Rattle.store.specs.StateTables.{IsAt}
use Rattle.office.specs.Values.{OfficeValue}
use Rattle.office.proofs.open_office.Office.paper.Goals as goal

pub returns-in-Ok-Some-clause-blind : goal.returns-in-Ok-Some-clause-blind
returns-in-Ok-Some-clause-blind g c clean is_open s at =
    let here = subst (λ (o : OfficeValue _). IsAt s (state g.S.Store o.held)) (sym c.self.view_is) at in
    let told : option_map paper_entry c.in-Ok-Some.field-0 ≡ paper_at s c.args.clerk c.args.batch = c.in-Ok-Some.ensures.shows clean s here in
    let shown : Some (paper_entry c.in-Ok-Some.found) ≡ paper_at s c.args.clerk c.args.batch = rw c.in-Ok-Some.field-0-is at told in
    shown ∙ sym (paper_seen s c.args.clerk c.args.batch)
