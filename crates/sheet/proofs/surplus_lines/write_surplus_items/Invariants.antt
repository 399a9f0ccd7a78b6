-- The invariant of the loop in `write_surplus_items`.
use Rattle.std.proofs.Common.{take, Ok}
use Rattle.std.specs.List.{flat_map}
use Rattle.streams.specs.declared.streams.Broken.{Broken}
use Rattle.sheet.specs.Entries.{shown}
use Rattle.sheet.specs.Surpluses.{surplus_item}
use Rattle.sheet.specs.Writing.{Writes}
use Rattle.sheet.proofs.surplus_lines.write_surplus_items.Given as goal

abbrev pub invariant-loop-group : goal.invariant-loop-group
invariant-loop-group g l = Writes {E = Broken} g.W.Sink.taken g.W.Sink.failed l.fn.sink l.sink (flat_map (surplus_item (shown l.ward)) (take l.group-index l.groups)) (Ok (tt {0}))
