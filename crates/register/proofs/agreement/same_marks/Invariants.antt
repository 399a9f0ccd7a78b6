-- The invariant of the loop in `same_marks`.
use Rattle.std.proofs.Common.{◌≡◌, map, drop}
use Rattle.register.specs.Offices.{keyed_entry}
use Rattle.register.specs.Agreement.{same_marks}
use Rattle.register.proofs.agreement.same_marks.Given as goal

abbrev pub invariant-loop-place : goal.invariant-loop-place
invariant-loop-place l = same_marks (map keyed_entry l.first) (map keyed_entry l.second) ≡ same_marks (map keyed_entry (drop l.place l.first)) (map keyed_entry (drop l.place l.second))
