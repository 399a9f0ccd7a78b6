-- The invariant of the loop in `moved_bundles`.
use Rattle.std.proofs.Common.{◌≡◌, ◌++◌, map}
use Rattle.register.specs.Tabulated.{placed_entry}
use Rattle.register.specs.Walks.{moved_bundles}
use Rattle.register.proofs.additions.moved_bundles.Given as goal

abbrev pub invariant-loop-list : goal.invariant-loop-list
invariant-loop-list l = map placed_entry l.moved.items ++ moved_bundles l.ward l.list-iterator l.old_places l.new_places ≡ moved_bundles l.ward l.bundles l.before l.now
