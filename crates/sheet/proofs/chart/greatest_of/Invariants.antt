-- The invariant of the loop in `greatest_of`.
use Rattle.std.proofs.Common.{◌≡◌, drop}
use Rattle.sheet.specs.Chart.{greatest}
use Rattle.sheet.proofs.chart.greatest_of.Given as goal

abbrev pub invariant-loop-value : goal.invariant-loop-value
invariant-loop-value l = greatest l.top (drop l.value-index l.votes) ≡ greatest l.most l.votes
