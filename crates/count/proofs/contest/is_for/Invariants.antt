-- The invariant of the loop in `is_for`.
use Rattle.std.proofs.Common.{◌≡◌, true, take}
use Rattle.std.specs.List.{AllByRecursion}
use Rattle.paper.specs.Standing.{is_continuing}
use Rattle.count.proofs.contest.is_for.Given as goal

abbrev pub invariant-loop-c : goal.invariant-loop-c
invariant-loop-c l = AllByRecursion (λ c. is_continuing l.standing c ≡ true) (take l.c-index l.preferences)
