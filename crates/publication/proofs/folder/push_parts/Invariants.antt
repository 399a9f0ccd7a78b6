-- The invariant of the loop in `push_parts`.
use Rattle.std.proofs.Common.{◌≡◌, ◌++◌, map, drop}
use Rattle.publication.specs.Files.{file_entry}
use Rattle.publication.specs.Folder.{part_file}
use Rattle.publication.specs.Parts.{part_entry}
use Rattle.publication.proofs.folder.push_parts.Given as goal

abbrev pub invariant-loop-part : goal.invariant-loop-part
invariant-loop-part l = map file_entry l.files.items ++ map (part_file l.number) (map part_entry (drop l.part-index l.parts))
    ≡ map file_entry l.fn.files.items ++ map (part_file l.number) (map part_entry l.parts)
