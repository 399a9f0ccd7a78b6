-- The invariant of the loop in `put_escaped`.
use Rattle.std.proofs.Common.{take, Ok}
use Rattle.std.specs.List.{flat_map}
use Rattle.streams.specs.declared.streams.Broken.{Broken}
use Rattle.sheet.specs.Lines.{escaped}
use Rattle.sheet.specs.Writing.{Puts}
use Rattle.sheet.proofs.line.put_escaped.Given as goal

abbrev pub invariant-loop-byte : goal.invariant-loop-byte
invariant-loop-byte g l = Puts {E = Broken} g.W.Sink.taken g.W.Sink.failed l.fn.sink l.sink (flat_map escaped (take l.byte-index l.bytes)) (Ok (tt {0}))
