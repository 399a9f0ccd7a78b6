-- The invariant of the loop in `bundles_of`.
use Rattle.std.proofs.Common.{◌≡◌, ◌++◌, map, drop}
use Rattle.count.specs.Bundles.{AreBundles}
use Rattle.register.specs.Tabulated.{placed_entry, bundle_of}
use Rattle.register.proofs.tabulations.bundles_of.Given as goal

abbrev pub invariant-loop-bundle : goal.invariant-loop-bundle
invariant-loop-bundle l =
    AreBundles (map bundle_of (map placed_entry l.tabulated)) → map bundle_of (map placed_entry l.tabulated) ≡ l.bundles ++ map bundle_of (map placed_entry (drop l.bundle-index l.tabulated))
