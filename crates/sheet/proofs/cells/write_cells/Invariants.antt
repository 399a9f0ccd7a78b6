-- The invariant of the loop in `write_cells`.
use Rattle.std.proofs.Common.{take, Ok}
use Rattle.streams.specs.declared.streams.Broken.{Broken}
use Rattle.sheet.specs.Cells.{from_place}
use Rattle.sheet.specs.Cells.{cell_text}
use Rattle.sheet.specs.Writing.{Writes}
use Rattle.sheet.proofs.cells.write_cells.Given as goal

abbrev pub invariant-loop-k : goal.invariant-loop-k
invariant-loop-k g l = Writes {E = Broken} g.W.Sink.taken g.W.Sink.failed l.fn.sink l.sink (from_place (cell_text l.cell) l.place (take l.k l.stages)) (Ok (tt {0}))
