-- Proof that `write_page` meets its contract.
use Rattle.std.proofs.Common.{◌∙◌, ap}
use Rattle.std.proofs.lemmas.Result.{IfOk-weaker}
use Rattle.sheet.specs.Page.{page}
use Rattle.register.specs.Elections.{is_declared}
use Rattle.office.specs.Sheets.{election_shown, lots_shown, stages_shown}
use Rattle.office.proofs.sheets.write_page.Goals as goal

pub returns : goal.returns
returns c =
    IfOk-weaker c.page_text.result _ _
    (λ text is e counted phase same.
    let declared = c.is_printable_in-is_declared.ensures.is ∙ ap (λ w. is_declared w.phase) counted.ward_is in
    let title = c.args.title.now in
    let stages = c.stages_of.result.now in
    let lots = c.lots_of.result.now in
    let groups = c.deref.result.now in
    is ∙ ap (λ ward. page ward title c.is_printable_in-is_declared.result stages lots groups) same
    ∙ ap (λ done. page (election_shown e) title done stages lots groups) declared
    ∙ ap (λ all. page (election_shown e) title (is_declared e.ward.phase) all lots groups) (c.stages_of.ensures e counted phase)
    ∙ ap (λ drawn. page (election_shown e) title (is_declared e.ward.phase) (stages_shown e) drawn groups) (c.lots_of.ensures e counted phase)
    ∙ ap (page (election_shown e) title (is_declared e.ward.phase) (stages_shown e) (lots_shown e)) (c.deref.ensures.value ∙ c.in_ok-surpluses.ensures e counted phase same))
    c.page_text.ensures
