-- The invariant of the loop in `passed_places`.
use Rattle.std.proofs.Common.{◌≡◌, ◌++◌}
use Rattle.std.specs.List.{AllByRecursion}
use Rattle.paper.specs.Standing.{is_continuing}
use Rattle.count.specs.Inside.Placing.{IsSound, passed_places}
use Rattle.count.proofs.places.passed_places.Given as goal

abbrev pub invariant-loop-list : goal.invariant-loop-list
invariant-loop-list l = record {
  sound : AllByRecursion IsSound l.rest;
  all : l.passed.items ++ passed_places (is_continuing l.standing) l.rule l.c l.rest l.list-iterator ≡ passed_places (is_continuing l.standing) l.rule l.c l.places l.bundles;
}
