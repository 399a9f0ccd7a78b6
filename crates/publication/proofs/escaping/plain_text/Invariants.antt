-- The invariant of the loop in `plain_text`.
use Rattle.std.proofs.Common.{◌≡◌, ◌++◌, drop}
use Rattle.sheet.specs.Lines.{plain}
use Rattle.publication.proofs.escaping.plain_text.Given as goal

abbrev pub invariant-loop-byte : goal.invariant-loop-byte
invariant-loop-byte l = l.bytes.items ++ plain (drop l.byte-index l.byte-items) ≡ plain l.byte-items
