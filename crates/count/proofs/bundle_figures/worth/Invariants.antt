-- The invariant of the loop in `worth`.
use Rattle.std.proofs.Common.{◌≡◌, ◌+◌}
use Rattle.count.specs.Inside.Placing.{value_of, worth_placed}
use Rattle.count.proofs.bundle_figures.worth.Given as goal

abbrev pub invariant-loop-papers : goal.invariant-loop-papers
invariant-loop-papers l = l.sum + worth_placed value_of l.rest l.papers-iterator ≡ worth_placed value_of l.places l.bundles
