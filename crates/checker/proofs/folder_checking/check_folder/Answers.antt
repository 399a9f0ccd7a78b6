-- Proof that `check_folder` meets its contract.
use Rattle.std.proofs.Common.{◌∙◌, ap, map, subst}
use Rattle.std.specs.Prelude.{string_bytes}
use Rattle.checker.specs.FolderChecks.{IsFoundChecked}
use Rattle.checker.proofs.FoundLaws.{folder_checked}
use Rattle.checker.proofs.folder_checking.check_folder.Goals as goal

pub returns-in-Ok-checked_files-clause-ok : goal.returns-in-Ok-checked_files-clause-ok
returns-in-Ok-checked_files-clause-ok g c =
    folder_checked (g.F.InputFiles.held c.args.files.now) c.args.path.now (map string_bytes c.in-Ok.names.items) c.in-Ok-files_in.found.items c.in-Ok-checked_files.checked
    c.in-Ok.ensures.ok (c.in-Ok-files_in.ensures.names ∙ ap (map string_bytes) c.deref.ensures.value) c.in-Ok-files_in.ensures.contents
    (subst (λ found. IsFoundChecked found c.in-Ok-checked_files.checked) c.deref-2.ensures.value c.in-Ok-checked_files.ensures)
