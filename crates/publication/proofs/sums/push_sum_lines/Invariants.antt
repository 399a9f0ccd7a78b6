-- The invariant of the loop in `push_sum_lines`.
use Rattle.std.proofs.Common.{◌≡◌, ◌++◌, map, drop, string_bytes}
use Rattle.std.specs.List.{flat_map}
use Rattle.publication.specs.Files.{file_entry}
use Rattle.publication.specs.Sums.{sum_line}
use Rattle.publication.proofs.sums.push_sum_lines.Given as goal

abbrev pub invariant-loop-file : goal.invariant-loop-file
invariant-loop-file l = string_bytes l.text ++ flat_map sum_line (map file_entry (drop l.file-index l.files)) ≡ string_bytes l.fn.text ++ flat_map sum_line (map file_entry l.files)
