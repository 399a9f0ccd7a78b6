-- The invariant of the loop in `files_in`: the names of the files so far, followed by the remaining names, are all names, and each of the files was read.
use Rattle.std.proofs.Common.{◌≡◌, ◌++◌, drop, map}
use Rattle.std.specs.Prelude.{string_bytes}
use Rattle.std.specs.List.{All}
use Rattle.checker.specs.FolderViews.{IsFileIn, name_of}
use Rattle.checker.proofs.folder_files.files_in.Given as goal

abbrev pub invariant-loop-name : goal.invariant-loop-name
invariant-loop-name g l = (map name_of l.found.items ++ map string_bytes (drop l.name-index l.names) ≡ map string_bytes l.names)
    × All (IsFileIn (g.F.InputFiles.held l.files) l.path) l.found.items
