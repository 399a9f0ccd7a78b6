-- Proof that `text` meets its contract.
use Rattle.std.proofs.Common.{rules, ◌≡◌, false, true, Some, option_map, sym, ap, subst, ◌∙◌}
use Rattle.sqlite.specs.Held.{state}
use Rattle.sqlite.specs.State.{HasCleanDisk}
use Rattle.register.specs.Ranges.{is_ward_number}
use Rattle.register.specs.Offices.{WardEntry, ward_at}
use Rattle.register.specs.Elections.{election_of}
use Rattle.register.specs.Tabulated.{IsSheetOf}
use Rattle.store.specs.Elections.{IsSheetFor}
use Rattle.store.specs.StateTables.{IsAt}
use Rattle.office.specs.Values.{OfficeValue}
use Rattle.office.proofs.StopLemmas.{if_of_memory}
use Rattle.office.proofs.TextLemmas.{sheet_found, textual_at, text_read}
use Rattle.office.proofs.open_office.Office.text.Goals as goal

pub returns-in-Ok-Some-clause-reads : goal.returns-in-Ok-Some-clause-reads
returns-in-Ok-Some-clause-reads g c clean is_open s at =
    let here = subst (λ (o : OfficeValue _). IsAt s (state g.S.Store o.held)) (sym c.self.view_is) at in
    let opened : c.self.inside.closed ≡ false = ap (λ (o : OfficeValue _). o.closed) c.self.view_is ∙ is_open in
    let before : HasCleanDisk (state g.S.Store c.load_sheet.new.self) = subst (λ h. HasCleanDisk (state g.S.Store h)) c.read_text.ensures.held clean in
    let in_range : is_ward_number c.args.ward ≡ true = search rules in
    let found : IsSheetFor (option_map (election_of s) (ward_at s c.args.ward)) (Some c.in-Ok-Some.sheet) = rw c.in-Ok-Some.field-0-is at (c.in-Ok-Some.ensures.shows before s here) in
    let still = subst (λ h. IsAt s (state g.S.Store h)) (sym c.read_text.ensures.held) (c.load_sheet.ensures.keeps before s here) in
    sheet_found s c.args.ward c.in-Ok-Some.sheet found (λ w there is.
    text_read c.args.text (λ e. IsSheetOf e c.in-Ok-Some.sheet) s c.args.ward w c.in-Ok-Some.sheet.counted.ward.phase c.read_text.result c.self.inside.closed c.read_text.new.self.closed
    (state g.S.Store c.read_text.new.self.held)
    in_range there (ap (λ (x : WardEntry). x.phase) is.counted_is.ward_is) is opened still c.read_text.ensures.told c.read_text.ensures.open_still (c.read_text.ensures.stopped opened))

pub returns-in-Ok-Some-clause-cause : goal.returns-in-Ok-Some-clause-cause
returns-in-Ok-Some-clause-cause g c clean is_open s at =
    let here = subst (λ (o : OfficeValue _). IsAt s (state g.S.Store o.held)) (sym c.self.view_is) at in
    let before : HasCleanDisk (state g.S.Store c.load_sheet.new.self) = subst (λ h. HasCleanDisk (state g.S.Store h)) c.read_text.ensures.held clean in
    let found : IsSheetFor (option_map (election_of s) (ward_at s c.args.ward)) (Some c.in-Ok-Some.sheet) = rw c.in-Ok-Some.field-0-is at (c.in-Ok-Some.ensures.shows before s here) in
    if_of_memory (state g.S.Store c.args.self.now.held) (state g.S.Store c.read_text.new.self.held) c.read_text.result
    (sheet_found s c.args.ward c.in-Ok-Some.sheet found (λ w there is. c.read_text.ensures.cause (election_of s w) is
    (textual_at s c.args.ward w (λ x at_x. c.texts_are_there.ensures s x here.is at_x) there)))
