-- The invariant of the loop in `all_doubtful`.
use Rattle.std.proofs.Common.{◌≡◌, map, take, Ok}
use Rattle.std.specs.List.{flat_map}
use Rattle.sqlite.specs.Held.{state}
use Rattle.register.specs.Offices.{batch_entry}
use Rattle.store.specs.Overviews.{doubtful_view, doubtful_in}
use Rattle.store.specs.Loads.{LoadsAt}
use Rattle.store.proofs.storage.Store.all_doubtful.Given as goal

abbrev pub invariant-loop-batch : goal.invariant-loop-batch
invariant-loop-batch g l = LoadsAt (state g.S.Store l.initial.self) (state g.S.Store l.self) (Ok l.found)
    (λ s found. map doubtful_view found.items ≡ flat_map (doubtful_in s l.columns) (take l.batch-index (map batch_entry l.batches)))
