-- The invariant of the loop in `put_files`: some files have been put into the folder, and they, followed by the remaining ones, are all files.
use Rattle.std.proofs.Common.{◌≡◌, ◌++◌, List, drop, map}
use Rattle.publication.specs.Files.{FileEntry, file_entry}
use Rattle.desk.specs.Publications.{PutsFiles}
use Rattle.desk.proofs.publishing.put_files.Given as goal

abbrev pub invariant-loop-file : goal.invariant-loop-file
invariant-loop-file g l = (done : List FileEntry) × PutsFiles (g.F.PublicFolder.held l.initial.folder) (g.F.PublicFolder.held l.folder) done
    × (done ++ map file_entry (drop l.file-index l.files) ≡ map file_entry l.files)
