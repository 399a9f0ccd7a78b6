-- The invariant of the loop in `find_twin`.
use Rattle.std.proofs.Common.{◌≡◌, true, map, take, find, None, Ok}
use Rattle.sqlite.specs.Held.{state}
use Rattle.register.specs.Agreement.{is_taken}
use Rattle.store.specs.Loads.{LoadsAt}
use Rattle.store.specs.Memories.{AreKnown, IsKnown, row_of}
use Rattle.store.specs.Overviews.{is_twin}
use Rattle.store.proofs.storage.Store.find_twin.Given as goal

abbrev pub invariant-loop-other : goal.invariant-loop-other
invariant-loop-other g l = LoadsAt (state g.S.Store l.initial.self) (state g.S.Store l.self) (Ok (tt {0})) (λ s _. IsKnown s l.one → is_taken s (row_of l.one) ≡ true → AreKnown s l.known
    → find (is_twin s (row_of l.one)) (take l.other-index (map row_of l.known)) ≡ None)
