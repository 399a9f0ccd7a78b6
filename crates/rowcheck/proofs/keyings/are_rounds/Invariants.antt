-- The invariant of the loop in `are_rounds`.
use Rattle.std.proofs.Common.{◌≡◌, ◌-◌}
use Rattle.register.specs.Offices.{batch_entry}
use Rattle.register.specs.BatchConditions.{are_rounds_to}
use Rattle.rowcheck.specs.States.{state_of}
use Rattle.rowcheck.proofs.keyings.are_rounds.Given as goal

abbrev pub invariant-loop-later : goal.invariant-loop-later
invariant-loop-later l = are_rounds_to (state_of l.rows) (batch_entry l.batch) l.batch.round ≡ are_rounds_to (state_of l.rows) (batch_entry l.batch) (l.batch.round - l.later)
