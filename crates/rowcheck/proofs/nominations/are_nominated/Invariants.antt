use Rattle.std.proofs.Common.{◌≡◌, drop}
use Rattle.rowcheck.specs.Walks.Nominations.{are_nominated}
use Rattle.rowcheck.proofs.nominations.are_nominated.Given as goal

abbrev pub invariant-loop-ward : goal.invariant-loop-ward
invariant-loop-ward l = are_nominated l.wards l.candidates ≡ are_nominated (drop l.ward-index l.wards) l.left
