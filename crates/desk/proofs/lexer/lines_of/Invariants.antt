-- The invariant of the loop in `lines_of`: the lines read so far, followed by those of the remaining bytes, are the lines of the text without its byte order mark.
use Rattle.std.proofs.Common.{◌≡◌, ◌++◌, map, drop}
use Rattle.desk.specs.Scripts.{lines_from, lines_of}
use Rattle.desk.proofs.lexer.lines_of.Given as goal

abbrev pub invariant-loop-byte : goal.invariant-loop-byte
invariant-loop-byte l = map (λ line. line.items) l.lines.items ++ lines_from l.line.items (drop l.byte-index l.byte-items) ≡ lines_of l.text
