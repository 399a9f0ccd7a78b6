-- The invariant of the loop in `ballots_of`.
use Rattle.std.proofs.Common.{map, take, Ok}
use Rattle.sqlite.specs.Held.{state}
use Rattle.register.specs.Offices.{batch_entry}
use Rattle.register.specs.Polls.{pile_of, ballots_in, StandFor}
use Rattle.store.specs.Loads.{LoadsAt}
use Rattle.store.proofs.storage.Store.ballots_of.Given as goal

abbrev pub invariant-loop-batch : goal.invariant-loop-batch
invariant-loop-batch g l = LoadsAt (state g.S.Store l.initial.self) (state g.S.Store l.self) (Ok l.ballots)
    (λ s ballots. StandFor g.P.KeepsPapers.holds ballots (ballots_in l.columns (map (pile_of s) (take l.batch-index (map batch_entry l.batches)))))
