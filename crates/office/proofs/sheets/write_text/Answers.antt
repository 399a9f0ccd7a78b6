-- Proof that `write_text` meets its contract.
use Rattle.std.proofs.Common.{◌∙◌, ap, sym}
use Rattle.std.proofs.lemmas.Result.{IfOk-weaker}
use Rattle.office.specs.Sheets.{text_shown}
use Rattle.office.proofs.sheets.write_text.Goals as goal

pub returns-in-Page : goal.returns-in-Page
returns-in-Page c =
    IfOk-weaker c.write_page.result _ _ (λ told is e counted phase same. is e counted phase same ∙ sym (ap (λ asked. text_shown asked e) c.in-Page.is)) c.write_page.ensures
