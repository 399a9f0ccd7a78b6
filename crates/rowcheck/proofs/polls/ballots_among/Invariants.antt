-- The invariant of the loop in `ballots_among`.
use Rattle.std.proofs.Common.{map, take}
use Rattle.register.specs.Offices.{batch_entry}
use Rattle.register.specs.Polls.{ballots_in, StandFor, are_bundled}
use Rattle.rowcheck.specs.States.{state_of}
use Rattle.rowcheck.specs.Walks.Polls.{piles_in}
use Rattle.rowcheck.proofs.polls.ballots_among.Given as goal

abbrev pub invariant-loop-batch : goal.invariant-loop-batch
invariant-loop-batch l = StandFor are_bundled l.ballots (ballots_in l.columns (piles_in (state_of l.rows) l.ward (map batch_entry (take l.batch-index l.batches))))
