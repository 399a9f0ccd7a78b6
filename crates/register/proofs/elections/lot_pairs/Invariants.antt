-- The invariant of the loop in `lot_pairs`.
use Rattle.std.proofs.Common.{◌≡◌, true, ◌++◌, map, drop}
use Rattle.std.specs.List.{list_all}
use Rattle.register.specs.Offices.{lot_entry}
use Rattle.register.specs.Elections.{lot_pair}
use Rattle.register.specs.StateConditions.{is_lot}
use Rattle.register.proofs.elections.lot_pairs.Given as goal

abbrev pub invariant-loop-lot : goal.invariant-loop-lot
invariant-loop-lot l = record {
  pairs : l.pairs.items ++ map lot_pair (map lot_entry (drop l.lot-index l.lots)) ≡ map lot_pair (map lot_entry l.lots);
  left : list_all is_lot (map lot_entry l.lots) ≡ true → list_all is_lot (map lot_entry (drop l.lot-index l.lots)) ≡ true;
}
