-- The invariant of the loop in `clerks_words`: the clerks so far, followed by the remaining ones, are all the clerks.
use Rattle.std.proofs.Common.{◌≡◌, ◌++◌, drop, map, string_bytes}
use Rattle.std.specs.List.{flat_map}
use Rattle.store.specs.Overviews.{clerk_view}
use Rattle.desk.specs.Overviews.{clerk_words}
use Rattle.desk.proofs.overviews.clerks_words.Given as goal

abbrev pub invariant-loop-clerk : goal.invariant-loop-clerk
invariant-loop-clerk l = string_bytes l.text ++ flat_map clerk_words (map clerk_view (drop l.clerk-index l.clerks)) ≡ flat_map clerk_words (map clerk_view l.clerks)
