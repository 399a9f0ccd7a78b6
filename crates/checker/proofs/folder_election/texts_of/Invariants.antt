-- The invariant of the loop in `texts_of`: the texts so far, followed by those of the remaining wards, are all texts.
use Rattle.std.proofs.Common.{◌≡◌, ◌++◌, drop, map}
use Rattle.publication.specs.Election.{ward_entry}
use Rattle.checker.specs.FolderWards.{told_texts}
use Rattle.checker.proofs.folder_election.texts_of.Given as goal

abbrev pub invariant-loop-ward : goal.invariant-loop-ward
invariant-loop-ward l = map ward_entry l.texts.items ++ map told_texts (drop l.ward-index l.wards) ≡ map told_texts l.wards
