-- Proof that `shown_stages` meets its contract.
use Rattle.std.proofs.Common.{sym, subst, ap, false}
use Rattle.std.specs.Prelude.{option_copied}
use Rattle.sheet.specs.Entries.{shown}
use Rattle.checker.specs.FolderWards.{AreShownBy}
use Rattle.checker.proofs.StageLaws.{shown_declared, shown_unread}
use Rattle.checker.proofs.folder_wards.shown_stages.Goals as goal

pub returns-then-progress : goal.returns-then-progress
returns-then-progress c =
    let ward = shown c.args.ward.now in
    let all = c.args.all.now in
    let text = option_copied c.args.progress.sheet in
    subst (λ declared. AreShownBy ward declared text all all) (sym c.if-progress.true) (shown_declared ward text all)

pub returns-in-None : goal.returns-in-None
returns-in-None c =
    let ward = shown c.args.ward.now in
    let all = c.args.all.now in
    let text = option_copied c.args.progress.sheet in
    subst (λ declared. AreShownBy ward declared text all all) (sym c.if-progress.false)
    (subst (λ t. AreShownBy ward false t all all) (sym (ap option_copied c.in-None.is)) (shown_unread ward all))
