-- The invariant of the loop in `write_ties_at_stages`.
use Rattle.std.proofs.Common.{take, Ok}
use Rattle.streams.specs.declared.streams.Broken.{Broken}
use Rattle.sheet.specs.Cells.{from_place}
use Rattle.sheet.specs.Entries.{shown}
use Rattle.sheet.specs.Ties.{ties_at}
use Rattle.sheet.specs.Writing.{Writes}
use Rattle.sheet.proofs.settled_ties.write_ties_at_stages.Given as goal

abbrev pub invariant-loop-k : goal.invariant-loop-k
invariant-loop-k g l = Writes {E = Broken} g.W.Sink.taken g.W.Sink.failed l.fn.sink l.sink (from_place (ties_at (shown l.ward)) 0 (take l.k l.stages)) (Ok (tt {0}))
