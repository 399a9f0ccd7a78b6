-- The invariant of the loop in `write_tables`.
use Rattle.std.proofs.Common.{take, length, Ok}
use Rattle.std.specs.List.{flat_map, range_with_len}
use Rattle.streams.specs.declared.streams.Broken.{Broken}
use Rattle.sheet.specs.Entries.{shown}
use Rattle.sheet.specs.Table.{table_at}
use Rattle.sheet.specs.Writing.{Writes}
use Rattle.sheet.proofs.table.write_tables.Given as goal

abbrev pub invariant-loop-place : goal.invariant-loop-place
invariant-loop-place g l =
    Writes {E = Broken} g.W.Sink.taken g.W.Sink.failed l.fn.sink l.sink (flat_map (table_at (shown l.ward) l.stages) (take l.place (range_with_len 0 (length l.stages)))) (Ok (tt {0}))
