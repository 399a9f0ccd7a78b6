-- Proof that `published_files` meets its contract.
use Rattle.std.proofs.Common.{◌≡◌, true, arith, bytes_eq, map, subst, sym}
use Rattle.std.proofs.lemmas.Grind.{common_steps}
use Rattle.std.specs.List.{IsDistinct}
use Rattle.publication.specs.Election.{are_in_order, election_entry, ward_entry}
use Rattle.publication.specs.Files.{names}
use Rattle.publication.specs.Folder.{summed_files}
use Rattle.publication.proofs.FileNames.{names_distinct}
use Rattle.publication.proofs.Pinned.{files_pinned}
use Rattle.publication.proofs.folder.published_files.Goals as goal

pub returns-in-Ok-clause-names : goal.returns-in-Ok-clause-names
returns-in-Ok-clause-names c =
    let order : are_in_order (map ward_entry c.args.election.now.wards.now) ≡ true = grind (arith, common_steps) in
    subst (λ files. IsDistinct bytes_eq (names files)) (sym c.in-Ok.ensures) (names_distinct (election_entry c.args.election.now) order)

pub returns-in-Ok-clause-pinned : goal.returns-in-Ok-clause-pinned
returns-in-Ok-clause-pinned c = λ others same_names same_sums. files_pinned others (summed_files (election_entry c.args.election.now)) same_names same_sums
