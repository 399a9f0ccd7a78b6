-- Proof that `sealed_ward` meets its contract: six texts are read, one after the other.
use Rattle.std.proofs.Common.{◌≡◌, ◌∙◌, None, Some, ap, arith, rules, string_bytes, sym}
use Rattle.std.proofs.lemmas.Grind.{common_steps}
use Rattle.std.specs.Prelude.{if◌then◌else◌}
use Rattle.register.specs.Elections.{ElectionEntry, election_of}
use Rattle.register.specs.Offices.{OfficeState, ward_entry}
use Rattle.office.specs.Sheets.{declaration_of}
use Rattle.office.specs.declared.sheets.WardText.TheVariants.{Ballots, Declaration, Page, Results, Sheet, Table}
use Rattle.published_office.specs.OfficeFolder.{texts_of}
use Rattle.desk.specs.Publications.{sealed_entry}
use Rattle.desk.proofs.PublishLemmas.{declared_counted, reads_as, reads_both, reads_cut, reads_failed, reads_none, reads_stopped, same_texts, text_if_there, text_there}
use Rattle.desk.proofs.publishing.sealed_ward.Goals as goal

pub returns-in_err-page : goal.returns-in_err-page
returns-in_err-page g c = reads_failed c.from_residual.ensures.1 c.in_err-page.ensures

pub returns-in_err-sheet : goal.returns-in_err-sheet
returns-in_err-sheet g c = reads_cut c.from_residual-in_err-sheet.ensures.1 c.in_ok-page.ensures c.in_err-sheet.ensures

pub returns-in_err-declaration : goal.returns-in_err-declaration
returns-in_err-declaration g c = reads_cut c.from_residual-in_err-declaration.ensures.1 (reads_both c.in_ok-page.ensures c.in_ok-sheet.ensures) c.in_err-declaration.ensures

pub returns-in_err-table : goal.returns-in_err-table
returns-in_err-table g c =
    reads_cut c.from_residual-in_err-table.ensures.1 (reads_both (reads_both c.in_ok-page.ensures c.in_ok-sheet.ensures) c.in_ok-declaration.ensures) c.in_err-table.ensures

pub returns-in_err-results : goal.returns-in_err-results
returns-in_err-results g c =
    reads_cut c.from_residual-in_err-results.ensures.1 (reads_both (reads_both (reads_both c.in_ok-page.ensures c.in_ok-sheet.ensures) c.in_ok-declaration.ensures) c.in_ok-table.ensures)
    c.in_err-results.ensures

pub returns-in_err-ballots : goal.returns-in_err-ballots
returns-in_err-ballots g c =
    reads_cut c.from_residual-in_err-ballots.ensures.1
    (reads_both (reads_both (reads_both (reads_both c.in_ok-page.ensures c.in_ok-sheet.ensures) c.in_ok-declaration.ensures) c.in_ok-table.ensures) c.in_ok-results.ensures)
    c.in_err-ballots.ensures

pub returns : goal.returns
returns g c =
    let w = ward_entry c.args.overview.now.ward in
    let e : OfficeState → ElectionEntry = λ s. election_of s w in
    let number : c.in-Ok-Ok.number ≡ c.args.overview.now.ward.number = first_of (search rules, grind (arith, common_steps)) in
    let name : string_bytes c.in-Ok-Ok.name ≡ string_bytes c.args.overview.now.ward.name = first_of (search rules, grind (arith, common_steps)) in
    reads_as
    (reads_both
    (reads_both (reads_both (reads_both (reads_both c.in_ok-page.ensures c.in_ok-sheet.ensures) c.in_ok-declaration.ensures) c.in_ok-table.ensures) c.in_ok-results.ensures)
    c.in_ok-ballots.ensures)
    (λ s is told. λ state there sealed.
    same_texts _ (texts_of c.args.asked.title.now c.args.asked.with_ballots (e s)) number name
    (text_there s w (Page c.args.asked.title) _ is there sealed told.0.0.0.0.0)
    (text_there s w Sheet _ is there sealed told.0.0.0.0.1)
    (text_if_there s w Declaration c.is_declared_in-is_declared.result _ is there (λ yes. sym c.is_declared_in-is_declared.ensures ∙ yes) told.0.0.0.1
    ∙ ap (λ b. if b then Some (declaration_of (e s)) else None) c.is_declared_in-is_declared.ensures)
    (text_there s w Table _ is there sealed told.0.0.1)
    (text_there s w Results _ is there sealed told.0.1)
    (text_if_there s w Ballots c.args.asked.with_ballots _ is there (λ yes. sealed) told.1))
