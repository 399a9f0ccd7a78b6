-- The invariant of the loop in `are_numbered`.
use Rattle.std.proofs.Common.{◌≡◌, ◌+◌, map, drop}
use Rattle.register.specs.Offices.{keyed_entry}
use Rattle.register.specs.BatchConditions.{are_numbered}
use Rattle.store.proofs.views.keyings.are_numbered.Given as goal

abbrev pub invariant-loop-place : goal.invariant-loop-place
invariant-loop-place l = are_numbered 1 (map keyed_entry l.papers) ≡ are_numbered (l.place + 1) (map keyed_entry (drop l.place l.papers))
