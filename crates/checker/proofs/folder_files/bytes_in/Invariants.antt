-- The invariant of the loop in `bytes_in`: none of the files so far has the name and was read.
use Rattle.std.proofs.Common.{◌≡◌, drop}
use Rattle.checker.specs.FolderViews.{bytes_named}
use Rattle.checker.proofs.folder_files.bytes_in.Given as goal

abbrev pub invariant-loop-file : goal.invariant-loop-file
invariant-loop-file l = bytes_named l.name (drop l.file-index l.found) ≡ bytes_named l.name l.found
