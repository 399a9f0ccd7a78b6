-- The invariant of the loop in `is_drawn`.
use Rattle.std.proofs.Common.{◌≡◌, map, drop}
use Rattle.std.specs.List.{list_any}
use Rattle.register.specs.Offices.{lot_entry}
use Rattle.register.specs.Repeats.{is_drawn}
use Rattle.register.proofs.repeats.is_drawn.Given as goal

abbrev pub invariant-loop-lot : goal.invariant-loop-lot
invariant-loop-lot l = list_any (is_drawn l.stage l.candidate) (map lot_entry l.lots) ≡ list_any (is_drawn l.stage l.candidate) (map lot_entry (drop l.lot-index l.lots))
