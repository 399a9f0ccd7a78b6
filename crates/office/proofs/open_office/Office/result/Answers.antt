-- Proof that `result` meets its contract.
use Rattle.std.proofs.Common.{rules, ◌≡◌, false, true, Some, option_map, sym, ap, subst, ◌∙◌}
use Rattle.sqlite.specs.Held.{state}
use Rattle.sqlite.specs.State.{HasCleanDisk}
use Rattle.register.specs.Ranges.{is_ward_number}
use Rattle.register.specs.Offices.{WardEntry, ward_at}
use Rattle.register.specs.Elections.{election_of}
use Rattle.register.specs.Tabulated.{IsCountedWard}
use Rattle.store.specs.Elections.{IsCountedInFor}
use Rattle.store.specs.StateTables.{IsAt}
use Rattle.office.specs.declared.sheets.WardText.TheVariants.{Declaration}
use Rattle.office.specs.Values.{OfficeValue}
use Rattle.office.proofs.StopLemmas.{if_of_memory}
use Rattle.office.proofs.TextLemmas.{counted_found, textual_at, text_read}
use Rattle.office.proofs.open_office.Office.result.Goals as goal

pub returns-in-Ok-Some-clause-reads : goal.returns-in-Ok-Some-clause-reads
returns-in-Ok-Some-clause-reads g c clean is_open s at =
    let here = subst (λ (o : OfficeValue _). IsAt s (state g.S.Store o.held)) (sym c.self.view_is) at in
    let opened : c.self.inside.closed ≡ false = ap (λ (o : OfficeValue _). o.closed) c.self.view_is ∙ is_open in
    let before : HasCleanDisk (state g.S.Store c.load_counted.new.self) = subst (λ h. HasCleanDisk (state g.S.Store h)) c.declaration_of.ensures.held clean in
    let in_range : is_ward_number c.args.ward ≡ true = search rules in
    let found : IsCountedInFor (option_map (election_of s) (ward_at s c.args.ward)) (Some c.in-Ok-Some.counted) = rw c.in-Ok-Some.field-0-is at (c.in-Ok-Some.ensures.shows before s here) in
    let still = subst (λ h. IsAt s (state g.S.Store h)) (sym c.declaration_of.ensures.held) (c.load_counted.ensures.keeps before s here) in
    counted_found s c.args.ward c.in-Ok-Some.counted found (λ w there is.
    text_read Declaration (λ e. IsCountedWard e c.in-Ok-Some.counted) s c.args.ward w c.in-Ok-Some.counted.ward.phase c.declaration_of.result
    c.self.inside.closed c.declaration_of.new.self.closed (state g.S.Store c.declaration_of.new.self.held)
    in_range there (ap (λ (x : WardEntry). x.phase) is.ward_is) is opened still c.declaration_of.ensures.told c.declaration_of.ensures.open_still (c.declaration_of.ensures.stopped opened))

pub returns-in-Ok-Some-clause-cause : goal.returns-in-Ok-Some-clause-cause
returns-in-Ok-Some-clause-cause g c clean is_open s at =
    let here = subst (λ (o : OfficeValue _). IsAt s (state g.S.Store o.held)) (sym c.self.view_is) at in
    let before : HasCleanDisk (state g.S.Store c.load_counted.new.self) = subst (λ h. HasCleanDisk (state g.S.Store h)) c.declaration_of.ensures.held clean in
    let found : IsCountedInFor (option_map (election_of s) (ward_at s c.args.ward)) (Some c.in-Ok-Some.counted) = rw c.in-Ok-Some.field-0-is at (c.in-Ok-Some.ensures.shows before s here) in
    if_of_memory (state g.S.Store c.args.self.now.held) (state g.S.Store c.declaration_of.new.self.held) c.declaration_of.result
    (counted_found s c.args.ward c.in-Ok-Some.counted found (λ w there is. c.declaration_of.ensures.cause (election_of s w) is
    (textual_at s c.args.ward w (λ x at_x. c.texts_are_there.ensures s x here.is at_x) there)))
