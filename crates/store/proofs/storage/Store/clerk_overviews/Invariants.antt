-- The invariant of the loop in `clerk_overviews`.
use Rattle.std.proofs.Common.{◌≡◌, map, take, Ok}
use Rattle.sqlite.specs.Held.{state}
use Rattle.register.specs.Offices.{batch_entry}
use Rattle.store.specs.Overviews.{clerk_view, clerk_view_of}
use Rattle.store.specs.Loads.{LoadsAt}
use Rattle.store.proofs.storage.Store.clerk_overviews.Given as goal

abbrev pub invariant-loop-clerk : goal.invariant-loop-clerk
invariant-loop-clerk g l = LoadsAt (state g.S.Store l.initial.self) (state g.S.Store l.self) (Ok l.found)
    (λ s found. map clerk_view found.items ≡ map (clerk_view_of s (batch_entry l.batch)) (take l.clerk-index l.clerks))
