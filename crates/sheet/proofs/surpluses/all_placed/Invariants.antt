-- The invariant of the loop in `all_placed`: the papers so far, with those of the remaining bundles, are all.
use Rattle.std.proofs.Common.{◌≡◌, ◌+◌, ◌≤◌, [], length}
use Rattle.votes.specs.Units.{max_papers}
use Rattle.count.specs.Bundles.{papers_of}
use Rattle.sheet.specs.Surpluses.{all_placed, papers_in}
use Rattle.sheet.proofs.surpluses.all_placed.Given as goal

abbrev pub invariant-loop-papers : goal.invariant-loop-papers
invariant-loop-papers l = record {
  few : papers_in l.groups.items + length (papers_of l.papers-iterator) ≤ max_papers;
  all : all_placed l.of l.groups.items l.rest l.later l.papers-iterator ≡ all_placed l.of [] l.before l.after l.bundles;
}
