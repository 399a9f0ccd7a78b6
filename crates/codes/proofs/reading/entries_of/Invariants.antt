-- The invariant of the loop in `entries_of`: reading the remaining lines after those read so far has the same result as reading all the lines.
use Rattle.std.proofs.Common.{◌≡◌, ◌+◌, map, drop}
use Rattle.codes.specs.Files.{file_entry, file_from, no_codes}
use Rattle.codes.proofs.reading.entries_of.Given as goal

abbrev pub invariant-loop-index : goal.invariant-loop-index
invariant-loop-index l =
    file_from (l.index + 1) (file_entry l.found) (map (λ line. line.items) (drop l.index l.lines)) ≡ file_from 1 no_codes (map (λ line. line.items) l.lines)
