-- The invariant of the loop in `ward_overviews_by`.
use Rattle.std.proofs.Common.{◌≡◌, map, Ok}
use Rattle.sqlite.specs.Held.{state}
use Rattle.register.specs.declared.wards.Ward.{Ward}
use Rattle.register.specs.Offices.{ward_entry}
use Rattle.store.specs.Overviews.{ward_view, ward_view_of}
use Rattle.store.specs.Loads.{LoadsAt}
use Rattle.store.specs.Memories.{KnowsAll}
use Rattle.store.proofs.storage.Store.ward_overviews_by.Given as goal

abbrev pub invariant-loop-ward : goal.invariant-loop-ward
invariant-loop-ward g l = record {
  goes : (goal.iterator-loop-ward g).can_next l.ward-iterator × (goal.iterator-loop-ward g).is_finite l.ward-iterator;
  reads : LoadsAt (state g.S.Store l.initial.self) (state g.S.Store l.self) (Ok l.found) (λ s found. map ward_entry l.fn.wards.items ≡ s.wards → KnowsAll s l.known
      → map ward_view found.items ≡ map (λ (w : Ward). ward_view_of s (ward_entry w)) l.yielded);
}
