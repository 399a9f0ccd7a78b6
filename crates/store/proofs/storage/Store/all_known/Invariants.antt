-- The invariant of the loop in `all_known`.
use Rattle.std.proofs.Common.{◌≡◌, map, Ok}
use Rattle.sqlite.specs.Held.{state}
use Rattle.register.specs.Offices.{batch_entry}
use Rattle.store.specs.Loads.{LoadsAt}
use Rattle.store.specs.Memories.{AreKnown, known_of, known_view}
use Rattle.store.proofs.storage.Store.all_known.Given as goal

abbrev pub invariant-loop-batch : goal.invariant-loop-batch
invariant-loop-batch g l = record {
  goes : (goal.iterator-loop-batch g).can_next l.batch-iterator × (goal.iterator-loop-batch g).is_finite l.batch-iterator;
  reads : LoadsAt (state g.S.Store l.initial.self) (state g.S.Store l.self) (Ok l.found) (λ s found. AreKnown s l.known
      → map known_view found.items ≡ map (known_of s) (map batch_entry l.yielded));
}
