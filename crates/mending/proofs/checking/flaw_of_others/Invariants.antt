-- The invariant of the loop in `flaw_of_others`: each order so far is the only one in its place, so the remaining orders decide.
use Rattle.std.proofs.Common.{◌≡◌, ◌==◌, drop}
use Rattle.std.specs.List.{list_all}
use Rattle.mending.specs.Changes.{first_unplaced, places_for}
use Rattle.mending.proofs.checking.flaw_of_others.Given as goal

abbrev pub invariant-loop-other : goal.invariant-loop-other
invariant-loop-other l = record {
  all : list_all (λ other. places_for l.changes.instead.now other == 1) l.changes.instead.now
      ≡ list_all (λ other. places_for l.changes.instead.now other == 1) (drop l.other-index l.changes.instead.now);
  first : first_unplaced l.changes.instead.now l.changes.instead.now ≡ first_unplaced l.changes.instead.now (drop l.other-index l.changes.instead.now);
}
