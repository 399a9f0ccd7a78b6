-- The invariant of the loop in `are_for_candidates`.
use Rattle.std.proofs.Common.{◌≡◌, true, take}
use Rattle.std.specs.List.{AllByRecursion}
use Rattle.paper.specs.Standing.{is_continuing}
use Rattle.count.proofs.contest.are_for_candidates.Given as goal

abbrev pub invariant-loop-paper : goal.invariant-loop-paper
invariant-loop-paper l = AllByRecursion (λ paper. AllByRecursion (λ c. is_continuing l.standing c ≡ true) paper) (take l.paper-index l.papers)
