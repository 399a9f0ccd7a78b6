-- The invariant of the loop in `is_named`: none of the files so far has the name.
use Rattle.std.proofs.Common.{◌≡◌, drop, map}
use Rattle.std.specs.List.{list_any}
use Rattle.publication.specs.Files.{file_entry}
use Rattle.checker.specs.FolderViews.{has_name, name_of}
use Rattle.checker.proofs.folder_comparison.is_named.Given as goal

abbrev pub invariant-loop-file : goal.invariant-loop-file
invariant-loop-file l = list_any (has_name (name_of l.found)) (map file_entry (drop l.file-index l.files)) ≡ list_any (has_name (name_of l.found)) (map file_entry l.files)
