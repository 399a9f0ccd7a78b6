-- The invariant of the loop in `kind_of`: the bytes read so far are blanks.
use Rattle.std.proofs.Common.{◌≡◌, drop}
use Rattle.checker.specs.Tokens.{kind_of}
use Rattle.checker.proofs.tokens.kind_of.Given as goal

abbrev pub invariant-loop-byte : goal.invariant-loop-byte
invariant-loop-byte l = kind_of (drop l.byte-index l.line) ≡ kind_of l.line
