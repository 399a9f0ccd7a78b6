-- The invariant of the loop in `most_votes`.
use Rattle.std.proofs.Common.{◌≡◌, drop}
use Rattle.sheet.specs.Chart.{most_votes}
use Rattle.sheet.proofs.chart.most_votes.Given as goal

abbrev pub invariant-loop-stage : goal.invariant-loop-stage
invariant-loop-stage l = most_votes l.top (drop l.stage-index l.stages) l.c ≡ most_votes 0 l.stages l.c
