-- The invariant of the loop in `no_places`.
use Rattle.std.proofs.Common.{◌≡◌, ◌++◌, map}
use Rattle.count.specs.Bundles.{Bundle}
use Rattle.count.specs.Inside.Placing.{nowhere}
use Rattle.count.proofs.places.no_places.Given as goal

abbrev pub invariant-loop : goal.invariant-loop
invariant-loop l = l.none.items ++ map (λ (b : Bundle). nowhere) l.iterator' ≡ map (λ (b : Bundle). nowhere) l.bundles
