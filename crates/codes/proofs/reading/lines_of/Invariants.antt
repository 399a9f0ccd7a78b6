-- The invariant of the loop in `lines_of`: the lines read so far, followed by those of the remaining bytes, are the lines of the text.
use Rattle.std.proofs.Common.{◌≡◌, ◌++◌, [], map, drop}
use Rattle.codes.specs.Files.{lines_from}
use Rattle.codes.proofs.reading.lines_of.Given as goal

abbrev pub invariant-loop-byte : goal.invariant-loop-byte
invariant-loop-byte l = map (λ line. line.items) l.lines.items ++ lines_from l.line.items (drop l.byte-index l.text) ≡ lines_from [] l.text
