-- The invariant of the loop in `settled_ballots`.
use Rattle.std.proofs.Common.{map, take, Ok}
use Rattle.sqlite.specs.Held.{state}
use Rattle.register.specs.Offices.{batch_entry}
use Rattle.register.specs.Polls.{settled_judgements, ballots_by, StandFor}
use Rattle.store.specs.Loads.{LoadsAt}
use Rattle.store.proofs.storage.Store.settled_ballots.Given as goal

abbrev pub invariant-loop-batch : goal.invariant-loop-batch
invariant-loop-batch g l = LoadsAt (state g.S.Store l.initial.self) (state g.S.Store l.self) (Ok l.ballots)
    (λ s ballots. StandFor g.P.KeepsPapers.holds ballots (ballots_by (settled_judgements s l.columns (take l.batch-index (map batch_entry l.batches)))))
