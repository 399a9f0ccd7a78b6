-- The invariant of the loop in `places_of`.
use Rattle.std.proofs.Common.{◌≡◌, ◌≤◌, ◌++◌, map, drop}
use Rattle.std.specs.List.{AllByRecursion}
use Rattle.paper.specs.Columns.{max_candidates}
use Rattle.count.specs.declared.placed.Placed.{Placed}
use Rattle.register.specs.Tabulated.{placed_entry, placed_of}
use Rattle.register.proofs.tabulations.places_of.Given as goal

abbrev pub invariant-loop-bundle : goal.invariant-loop-bundle
invariant-loop-bundle l = record {
  made : l.places.items ++ map placed_of (map placed_entry (drop l.bundle-index l.tabulated)) ≡ map placed_of (map placed_entry l.tabulated);
  few : AllByRecursion (λ (at : Placed). at.holder ≤ max_candidates) (map placed_of (map placed_entry l.tabulated))
      → AllByRecursion (λ (at : Placed). at.holder ≤ max_candidates) (map placed_of (map placed_entry (drop l.bundle-index l.tabulated)));
}
