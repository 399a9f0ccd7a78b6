-- The invariant of the loop in `passes_over`: all bytes read so far are whitespace.
use Rattle.std.proofs.Common.{◌≡◌, drop}
use Rattle.desk.specs.Scripts.{passes_over}
use Rattle.desk.proofs.lexer.passes_over.Given as goal

abbrev pub invariant-loop-byte : goal.invariant-loop-byte
invariant-loop-byte l = passes_over (drop l.byte-index l.line) ≡ passes_over l.line
