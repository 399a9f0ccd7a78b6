-- The invariant of the loop in `read_batches`.
use Rattle.std.proofs.Common.{◌≡◌, map, Ok}
use Rattle.sqlite.specs.Held.{state}
use Rattle.register.specs.Offices.{batch_entry}
use Rattle.store.specs.Piles.{read_view, read_view_of}
use Rattle.store.specs.Loads.{LoadsAt}
use Rattle.store.proofs.storage.Store.read_batches.Given as goal

abbrev pub invariant-loop-batch : goal.invariant-loop-batch
invariant-loop-batch g l = record {
  goes : (goal.iterator-loop-batch g).can_next l.batch-iterator × (goal.iterator-loop-batch g).is_finite l.batch-iterator;
  reads : LoadsAt (state g.S.Store l.initial.self) (state g.S.Store l.self) (Ok l.found) (λ s found. map read_view found.items ≡ map (read_view_of s l.ward) (map batch_entry l.yielded));
}
