-- The invariant of the loop in `lists_are_for_candidates`.
use Rattle.std.proofs.Common.{◌↔◌}
use Rattle.std.specs.List.{AllByRecursion}
use Rattle.count.specs.Bundles.{IsBundle}
use Rattle.count.specs.Law.Contest.{In}
use Rattle.count.proofs.contest.lists_are_for_candidates.Given as goal

abbrev pub invariant-loop-list : goal.invariant-loop-list
invariant-loop-list l = record {
  each : AllByRecursion IsBundle l.bundles;
  rest : AllByRecursion (λ b. AllByRecursion (λ c. In c l.candidates) b.0) l.bundles ↔ AllByRecursion (λ b. AllByRecursion (λ c. In c l.candidates) b.0) l.list-iterator;
}
