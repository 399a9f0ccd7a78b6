-- The invariant of the loop in `agree_along`.
use Rattle.std.proofs.Common.{◌≡◌, map, drop}
use Rattle.register.specs.Offices.{keyed_entry}
use Rattle.store.specs.Overviews.{agree_along}
use Rattle.store.proofs.overviews.differences.agree_along.Given as goal

abbrev pub invariant-loop-place : goal.invariant-loop-place
invariant-loop-place l = agree_along (map keyed_entry l.first) (map keyed_entry l.second) ≡ agree_along (map keyed_entry (drop l.place l.first)) (map keyed_entry (drop l.place l.second))
