-- The invariant of the loop in `settled`: the remaining lists, added to the bundles so far, give all bundles.
use Rattle.std.proofs.Common.{◌≡◌, drop}
use Rattle.std.specs.List.{AllByRecursion}
use Rattle.count.specs.Bundles.{IsBundle}
use Rattle.checker.specs.Tallies.{settled}
use Rattle.checker.proofs.tally.settled.Given as goal

abbrev pub invariant-loop-bundle : goal.invariant-loop-bundle
invariant-loop-bundle l = record {
  each : AllByRecursion IsBundle (drop l.bundle-index l.recent);
  same : settled l.all (drop l.bundle-index l.recent) ≡ settled l.fn.bundles l.recent;
}
