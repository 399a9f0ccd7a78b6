-- The invariant of the loop in `push_wards`.
use Rattle.std.proofs.Common.{◌≡◌, ◌++◌, map, drop}
use Rattle.std.specs.List.{flat_map}
use Rattle.publication.specs.Election.{ward_entry}
use Rattle.publication.specs.Files.{file_entry}
use Rattle.publication.specs.Folder.{ward_files}
use Rattle.publication.proofs.folder.push_wards.Given as goal

abbrev pub invariant-loop-ward : goal.invariant-loop-ward
invariant-loop-ward l = map file_entry l.files.items ++ flat_map ward_files (map ward_entry (drop l.ward-index l.wards))
    ≡ map file_entry l.fn.files.items ++ flat_map ward_files (map ward_entry l.wards)
