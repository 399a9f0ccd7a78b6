-- The invariant of the loop in `write_preferences`.
use Rattle.std.proofs.Common.{take, Ok}
use Rattle.std.specs.List.{flat_map}
use Rattle.streams.specs.declared.streams.Broken.{Broken}
use Rattle.sheet.specs.Lines.{preference}
use Rattle.sheet.specs.Writing.{Writes}
use Rattle.sheet.proofs.line.write_preferences.Given as goal

abbrev pub invariant-loop-c : goal.invariant-loop-c
invariant-loop-c g l = Writes {E = Broken} g.W.Sink.taken g.W.Sink.failed l.fn.sink l.sink (flat_map preference (take l.c-index l.list)) (Ok (tt {0}))
