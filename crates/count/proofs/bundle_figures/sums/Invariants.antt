-- The invariant of the loop in `sums`.
use Rattle.std.proofs.Common.{◌≡◌, ℕ, ◌+◌, ◌≤◌, length, slice_index}
use Rattle.std.specs.List.{AllByRecursion}
use Rattle.paper.specs.Columns.{max_candidates}
use Rattle.count.specs.Inside.Holdings.{holder_count}
use Rattle.count.specs.Inside.Placing.{IsSound, value_to, worth_placed}
use Rattle.count.proofs.bundle_figures.sums.Given as goal

abbrev pub invariant-loop-papers : goal.invariant-loop-papers
invariant-loop-papers l = record {
  size : length l.sums ≡ holder_count;
  sound : AllByRecursion IsSound l.rest;
  all : (h : ℕ) → h ≤ max_candidates → slice_index l.sums h + worth_placed (value_to h) l.rest l.papers-iterator ≡ worth_placed (value_to h) l.places l.bundles;
}
