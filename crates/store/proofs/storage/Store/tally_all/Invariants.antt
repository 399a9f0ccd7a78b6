-- The invariant of the loop in `tally_all`.
use Rattle.std.proofs.Common.{map, take, Ok}
use Rattle.sqlite.specs.Held.{state}
use Rattle.register.specs.Offices.{batch_entry}
use Rattle.store.specs.Tallies.{IsTally}
use Rattle.store.specs.Loads.{LoadsAt}
use Rattle.store.proofs.storage.Store.tally_all.Given as goal

abbrev pub invariant-loop-batch : goal.invariant-loop-batch
invariant-loop-batch g l = LoadsAt (state g.S.Store l.initial.self) (state g.S.Store l.self) (Ok l.tally) (λ s. IsTally s (take l.batch-index (map batch_entry l.batches)))
