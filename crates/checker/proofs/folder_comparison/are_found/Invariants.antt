-- The invariant of the loop in `are_found`: each of the files so far is in the folder.
use Rattle.std.proofs.Common.{◌≡◌, drop, map}
use Rattle.std.specs.List.{list_all}
use Rattle.publication.specs.Files.{file_entry}
use Rattle.checker.specs.FolderViews.{is_found}
use Rattle.checker.proofs.folder_comparison.are_found.Given as goal

abbrev pub invariant-loop-file : goal.invariant-loop-file
invariant-loop-file l = list_all (is_found l.found) (map file_entry (drop l.file-index l.files)) ≡ list_all (is_found l.found) (map file_entry l.files)
