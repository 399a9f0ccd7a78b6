-- The invariant of the loop in `add_bundles`.
use Rattle.std.proofs.Common.{◌≡◌, ◌++◌, ℕ, List, map}
use Rattle.count.specs.Law.Places.{Place}
use Rattle.register.specs.Tabulated.{placed_entry}
use Rattle.register.proofs.AddedLemmas.{lying, tabulated, AreLeft}
use Rattle.register.proofs.tabulations.add_bundles.Given as goal

abbrev pub invariant-loop-list : goal.invariant-loop-list
invariant-loop-list l =
    (at : List ℕ → Place) → l.places ≡ lying at l.bundles → AreLeft l.ward at (map placed_entry l.to.items) (map placed_entry l.fn.to.items ++ tabulated l.ward at l.bundles) l.list-iterator l.rest
