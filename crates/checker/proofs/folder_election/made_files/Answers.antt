-- Proof that `made_files` meets its contract.
use Rattle.std.proofs.Common.{◌≡◌, ◌∙◌, ap, sym, Some, None}
use Rattle.std.specs.Prelude.{Option, option_copied, option_map}
use Rattle.checker.specs.IndexPage.{PageEntry, page_entry, page_in}
use Rattle.checker.proofs.PublishedLaws.{office_given, office_index, office_page}
use Rattle.checker.proofs.folder_election.made_files.Goals as goal

no_page : (page : Option PageEntry) (entry : PageEntry) → None ≡ page → page ≡ Some entry → ⊥
no_page page entry none some = absurd (cc)

one_page : (page : Option PageEntry) (entry other : PageEntry) → Some entry ≡ page → page ≡ Some other → entry ≡ other
one_page page entry other is also = cc

pub returns-in_default-clause-again : goal.returns-in_default-clause-again
returns-in_default-clause-again c = λ files are office. absurd (office_index c.args.found.now files are office (sym (ap option_copied c.in_default.is) ∙ c.bytes_in.ensures))

pub returns-in-Ok-None-clause-again : goal.returns-in-Ok-None-clause-again
returns-in-Ok-None-clause-again c = λ files are office.
    let page = office_page c.args.found.now files are office c.in-Some.bytes.now (sym (ap option_copied c.in-Some.is) ∙ c.bytes_in.ensures) in
    absurd (no_page (page_in c.in-Some.bytes.now) _ (sym (ap (option_map page_entry) c.in-Ok-None.field-0-is) ∙ c.in-Ok-None.ensures) page)

pub returns-in-Ok-clause-again : goal.returns-in-Ok-clause-again
returns-in-Ok-clause-again c = λ files are office.
    let found = c.args.found.now in
    let page = office_page found files are office c.in-Some.bytes.now (sym (ap option_copied c.in-Some.is) ∙ c.bytes_in.ensures) in
    c.in-Ok.ensures.again office.title office.wards files office.title_text (office_given found files are office)
    (one_page _ (page_entry c.in-Ok-Some.page) _ (sym (ap (option_map page_entry) c.in-Ok-Some.field-0-is) ∙ c.in-Ok-Some.ensures) page) office.so

pub returns-clause-again : goal.returns-clause-again
returns-clause-again c = λ files are office.
    let found = c.args.found.now in
    let page = office_page found files are office c.in-Some.bytes.now (sym (ap option_copied c.in-Some.is) ∙ c.bytes_in.ensures) in
    c.told_fault.ensures (c.in-Err-files_for.ensures.again office.title office.wards files office.title_text (office_given found files are office)
    (one_page _ (page_entry c.in-Ok-Some.page) _ (sym (ap (option_map page_entry) c.in-Ok-Some.field-0-is) ∙ c.in-Ok-Some.ensures) page) office.so)
