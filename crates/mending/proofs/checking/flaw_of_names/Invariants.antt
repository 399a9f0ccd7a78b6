-- The invariant of the loop in `flaw_of_names`: each name so far is that of an order, so the remaining names decide.
use Rattle.std.proofs.Common.{◌≡◌, drop, map, string_bytes}
use Rattle.std.specs.List.{list_all}
use Rattle.mending.specs.Changes.{first_unnamed, is_name_of_one}
use Rattle.mending.proofs.checking.flaw_of_names.Given as goal

abbrev pub invariant-loop-name : goal.invariant-loop-name
invariant-loop-name l = record {
  all : list_all (is_name_of_one l.changes.orders.now) (map string_bytes l.changes.without.now)
      ≡ list_all (is_name_of_one l.changes.orders.now) (map string_bytes (drop l.name-index l.changes.without.now));
  first : first_unnamed l.changes.orders.now (map string_bytes l.changes.without.now)
      ≡ first_unnamed l.changes.orders.now (map string_bytes (drop l.name-index l.changes.without.now));
}
