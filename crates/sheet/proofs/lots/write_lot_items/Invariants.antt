-- The invariant of the loop in `write_lot_items`.
use Rattle.std.proofs.Common.{take, Ok}
use Rattle.std.specs.List.{flat_map}
use Rattle.streams.specs.declared.streams.Broken.{Broken}
use Rattle.sheet.specs.Entries.{shown}
use Rattle.sheet.specs.Lots.{lot_item}
use Rattle.sheet.specs.Writing.{Writes}
use Rattle.sheet.proofs.lots.write_lot_items.Given as goal

abbrev pub invariant-loop-lot : goal.invariant-loop-lot
invariant-loop-lot g l = Writes {E = Broken} g.W.Sink.taken g.W.Sink.failed l.fn.sink l.sink (flat_map (lot_item (shown l.ward) l.stages) (take l.lot-index l.lots)) (Ok (tt {0}))
