-- The invariant of the loop in `greatest_of_stages`.
use Rattle.std.proofs.Common.{◌≡◌, drop}
use Rattle.sheet.specs.Chart.{greatest_at}
use Rattle.sheet.proofs.chart.greatest_of_stages.Given as goal

abbrev pub invariant-loop-stage : goal.invariant-loop-stage
invariant-loop-stage l = greatest_at l.top (drop l.stage-index l.stages) ≡ greatest_at l.most l.stages
