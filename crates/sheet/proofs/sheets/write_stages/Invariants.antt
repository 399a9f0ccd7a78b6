-- The invariant of the loop in `write_stages`.
use Rattle.std.proofs.Common.{take, Ok}
use Rattle.streams.specs.declared.streams.Broken.{Broken}
use Rattle.sheet.specs.Entries.{shown}
use Rattle.sheet.specs.Sheet.{stages_text}
use Rattle.sheet.specs.Writing.{Writes}
use Rattle.sheet.proofs.sheets.write_stages.Given as goal

abbrev pub invariant-loop-k : goal.invariant-loop-k
invariant-loop-k g l = Writes {E = Broken} g.W.Sink.taken g.W.Sink.failed l.fn.sink l.sink (stages_text (shown l.ward) (take l.k l.stages)) (Ok (tt {0}))
