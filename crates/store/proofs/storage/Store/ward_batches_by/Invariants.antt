-- The invariant of the loop in `ward_batches_by`.
use Rattle.std.proofs.Common.{◌≡◌, ◌==◌, map, take, filter, Ok}
use Rattle.sqlite.specs.Held.{state}
use Rattle.register.specs.Offices.{BatchEntry}
use Rattle.store.specs.Loads.{LoadsAt}
use Rattle.store.specs.Memories.{KnowsAll, row_of}
use Rattle.store.specs.Overviews.{batch_view, batch_view_of}
use Rattle.store.proofs.storage.Store.ward_batches_by.Given as goal

abbrev pub invariant-loop-one : goal.invariant-loop-one
invariant-loop-one g l = LoadsAt (state g.S.Store l.initial.self) (state g.S.Store l.self) (Ok l.found) (λ s found. KnowsAll s l.known
    → map batch_view found.items ≡ map (batch_view_of s) (filter (λ (b : BatchEntry). b.ward == l.ward) (take l.one-index (map row_of l.known))))
