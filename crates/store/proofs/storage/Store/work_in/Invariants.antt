-- The invariant of the loop in `work_in`.
use Rattle.std.proofs.Common.{◌≡◌, map, take, Ok}
use Rattle.sqlite.specs.Held.{state}
use Rattle.register.specs.Offices.{batch_entry}
use Rattle.register.specs.Status.{work_entry}
use Rattle.store.proofs.WorkLemmas.{work_among}
use Rattle.store.specs.Loads.{LoadsAt}
use Rattle.store.proofs.storage.Store.work_in.Given as goal

abbrev pub invariant-loop-batch : goal.invariant-loop-batch
invariant-loop-batch g l = LoadsAt (state g.S.Store l.initial.self) (state g.S.Store l.self) (Ok l.found)
    (λ s found. map work_entry found.items ≡ work_among s l.clerk (take l.batch-index (map batch_entry l.batches)))
