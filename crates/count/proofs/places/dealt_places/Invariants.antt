-- The invariant of the loop in `dealt_places`.
use Rattle.std.proofs.Common.{◌≡◌, ◌++◌}
use Rattle.count.specs.Inside.Placing.{first_places}
use Rattle.count.proofs.places.dealt_places.Given as goal

abbrev pub invariant-loop-prefs : goal.invariant-loop-prefs
invariant-loop-prefs l = l.dealt.items ++ first_places l.prefs-iterator ≡ first_places l.bundles
