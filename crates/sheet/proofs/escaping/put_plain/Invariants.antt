-- The invariant of the loop in `put_plain`.
use Rattle.std.proofs.Common.{take, Ok}
use Rattle.std.specs.List.{flat_map}
use Rattle.streams.specs.declared.streams.Broken.{Broken}
use Rattle.sheet.specs.Lines.{plain_byte}
use Rattle.sheet.specs.Writing.{Puts}
use Rattle.sheet.proofs.escaping.put_plain.Given as goal

abbrev pub invariant-loop-byte : goal.invariant-loop-byte
invariant-loop-byte g l = Puts {E = Broken} g.W.Sink.taken g.W.Sink.failed l.fn.sink l.sink (flat_map plain_byte (take l.byte-index l.bytes)) (Ok (tt {0}))
