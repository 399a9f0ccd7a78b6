-- The invariant and the variant of the loop in `is_ranking`.
use Rattle.std.proofs.Common.{◌↔◌, length}
use Rattle.paper.specs.Ranking.{IsRanking}
use Rattle.paper.proofs.prefs.is_ranking.Given as goal

abbrev pub invariant-loop-c : goal.invariant-loop-c
invariant-loop-c l = IsRanking l.rest ↔ IsRanking l.list

abbrev pub decreases-loop-c : goal.decreases-loop-c
decreases-loop-c l = length l.rest
