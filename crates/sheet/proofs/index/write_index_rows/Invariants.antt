-- The invariant of the loop in `write_index_rows`.
use Rattle.std.proofs.Common.{take, Ok}
use Rattle.std.specs.List.{flat_map}
use Rattle.streams.specs.declared.streams.Broken.{Broken}
use Rattle.sheet.specs.Index.{index_row, listed}
use Rattle.sheet.specs.Writing.{Writes}
use Rattle.sheet.proofs.index.write_index_rows.Given as goal

abbrev pub invariant-loop-ward : goal.invariant-loop-ward
invariant-loop-ward g l = Writes {E = Broken} g.W.Sink.taken g.W.Sink.failed l.fn.sink l.sink (flat_map (λ ward. index_row (listed ward)) (take l.ward-index l.wards)) (Ok (tt {0}))
