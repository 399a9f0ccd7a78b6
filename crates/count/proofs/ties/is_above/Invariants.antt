-- The invariant and the variant of the loop in `is_above`.
use Rattle.std.proofs.Common.{◌≡◌, reverse, length}
use Rattle.count.specs.Law.Due.{is_above}
use Rattle.count.proofs.ties.is_above.Given as goal

abbrev pub invariant-loop-newest : goal.invariant-loop-newest
invariant-loop-newest l = is_above (reverse l.rest) l.c l.d ≡ is_above (reverse l.stages) l.c l.d

abbrev pub decreases-loop-newest : goal.decreases-loop-newest
decreases-loop-newest l = length l.rest
