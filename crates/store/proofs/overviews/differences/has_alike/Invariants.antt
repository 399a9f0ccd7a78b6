-- The invariant of the loop in `has_alike`.
use Rattle.std.proofs.Common.{◌≡◌, map, drop}
use Rattle.register.specs.Offices.{keyed_entry}
use Rattle.store.specs.Overviews.{has_alike}
use Rattle.store.proofs.overviews.differences.has_alike.Given as goal

abbrev pub invariant-loop-other : goal.invariant-loop-other
invariant-loop-other l = has_alike (keyed_entry l.keyed) (map keyed_entry l.keying) ≡ has_alike (keyed_entry l.keyed) (map keyed_entry (drop l.other-index l.keying))
