-- The invariant of the loop in `apart_in`.
use Rattle.std.proofs.Common.{◌≡◌, map, drop}
use Rattle.register.specs.Offices.{keyed_entry}
use Rattle.store.specs.Overviews.{apart_in}
use Rattle.store.proofs.overviews.differences.apart_in.Given as goal

abbrev pub invariant-loop-place : goal.invariant-loop-place
invariant-loop-place l = apart_in (map keyed_entry l.first) (map keyed_entry l.second) ≡ apart_in (map keyed_entry (drop l.place l.first)) (map keyed_entry (drop l.place l.second))
