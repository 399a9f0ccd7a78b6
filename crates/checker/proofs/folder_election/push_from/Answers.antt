-- Proof that `push_from` meets its contract.
use Rattle.std.proofs.Common.{◌≡◌, ◌∙◌, ap, sym, Some}
use Rattle.std.specs.Prelude.{codes, option_copied}
use Rattle.publication.specs.Parts.{ward_file}
use Rattle.checker.specs.FolderViews.{bytes_named}
use Rattle.checker.proofs.OfficeFolders.{from_texts}
use Rattle.checker.proofs.folder_election.push_from.Goals as goal

pub returns-in-Ok-clause-again : goal.returns-in-Ok-clause-again
returns-in-Ok-clause-again c = λ entry has numbered declared.
    let found = c.args.found.now in
    let read : Some c.in-Some.ballots.now ≡ bytes_named (ward_file c.args.ward (codes "-ballots.txt")) found =
    sym (ap option_copied c.in-Some.is) ∙ (c.bytes_in.ensures ∙ ap (λ n. bytes_named n found) (c.as_str.ensures.value ∙ c.in-Ok-Ok.ensures)) in
    let sheet_read : option_copied c.bytes_in-sheet.result ≡ bytes_named (ward_file c.args.ward (codes "-sheet.txt")) found =
    c.bytes_in-sheet.ensures ∙ ap (λ n. bytes_named n found) (c.as_str-2.ensures.value ∙ c.in-Ok-Ok.ensures') in
    c.in-Ok.ensures.again entry (from_texts found entry c.args.ward c.in-Some.ballots.now (option_copied c.bytes_in-sheet.result) c.args.is_declared has numbered read sheet_read declared)

pub returns-clause-again : goal.returns-clause-again
returns-clause-again c = λ entry has numbered declared.
    let found = c.args.found.now in
    let read : Some c.in-Some.ballots.now ≡ bytes_named (ward_file c.args.ward (codes "-ballots.txt")) found =
    sym (ap option_copied c.in-Some.is) ∙ (c.bytes_in.ensures ∙ ap (λ n. bytes_named n found) (c.as_str.ensures.value ∙ c.in-Ok-Ok.ensures)) in
    let sheet_read : option_copied c.bytes_in-sheet.result ≡ bytes_named (ward_file c.args.ward (codes "-sheet.txt")) found =
    c.bytes_in-sheet.ensures ∙ ap (λ n. bytes_named n found) (c.as_str-2.ensures.value ∙ c.in-Ok-Ok.ensures') in
    c.ward_fault.ensures (c.in-Err.ensures.again entry
    (from_texts found entry c.args.ward c.in-Some.ballots.now (option_copied c.bytes_in-sheet.result) c.args.is_declared has numbered read sheet_read declared))
