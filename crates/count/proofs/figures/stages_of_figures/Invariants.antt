-- The invariant and the variant of the loop in `stages_of_figures`.
use Rattle.std.proofs.Common.{◌≡◌, length}
use Rattle.count.specs.Law.Contest.{Contest, History, IsContest}
use Rattle.count.specs.Law.Right.{IsRightForSome}
use Rattle.count.specs.Marks.{all_figures}
use Rattle.count.proofs.ReadBackLemmas.{AreRead}
use Rattle.count.proofs.figures.stages_of_figures.Given as goal

abbrev pub invariant-loop-rest : goal.invariant-loop-rest
invariant-loop-rest l = (contest : Contest) (history : History) → IsContest contest → IsRightForSome contest history → contest.candidates ≡ l.candidates
    → l.figures ≡ all_figures l.candidates history →
    AreRead contest history l.stages.items l.elected l.rest

abbrev pub decreases-loop-rest : goal.decreases-loop-rest
decreases-loop-rest l = length l.rest
