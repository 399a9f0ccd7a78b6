-- Proof that `earlier_keying` meets its contract.
use Rattle.std.proofs.Common.{◌≡◌, Some, option_map, sym, subst, ◌∙◌}
use Rattle.sqlite.specs.Held.{state}
use Rattle.store.specs.EarlierKeyings.{earlier_at, keyed_round_entry}
use Rattle.store.specs.StateTables.{IsAt}
use Rattle.store.proofs.EarlierLemmas.{earlier_seen}
use Rattle.office.specs.Values.{OfficeValue}
use Rattle.office.proofs.open_office.Office.earlier_keying.Goals as goal

pub returns-in-Ok-Some-clause-blind : goal.returns-in-Ok-Some-clause-blind
returns-in-Ok-Some-clause-blind g c clean is_open s at =
    let here = subst (λ (o : OfficeValue _). IsAt s (state g.S.Store o.held)) (sym c.self.view_is) at in
    let told : option_map (option_map keyed_round_entry) c.in-Ok-Some.field-0 ≡ earlier_at s c.args.clerk c.args.batch = c.in-Ok-Some.ensures.shows clean s here in
    let shown : Some (option_map keyed_round_entry c.in-Ok-Some.found) ≡ earlier_at s c.args.clerk c.args.batch = rw c.in-Ok-Some.field-0-is at told in
    shown ∙ sym (earlier_seen s c.args.clerk c.args.batch)
