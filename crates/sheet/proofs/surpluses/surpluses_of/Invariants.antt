-- The invariant of the loop in `surpluses_of`.
use Rattle.std.proofs.Common.{◌≡◌}
use Rattle.count.specs.Bundles.{papers_of}
use Rattle.count.specs.Law.Contest.{contest_for}
use Rattle.count.specs.Law.Count.{stages_to}
use Rattle.sheet.specs.Surpluses.{passed_to}
use Rattle.sheet.proofs.surpluses.surpluses_of.Given as goal

abbrev pub invariant-loop : goal.invariant-loop
invariant-loop l = record {
  same : l.book.contest ≡ contest_for l.fn.candidates l.seats (papers_of l.bundles);
  counted : l.book.history ≡ stages_to (contest_for l.fn.candidates l.seats (papers_of l.bundles)) l.lots l.counter;
  all : l.found.items ≡ passed_to (contest_for l.fn.candidates l.seats (papers_of l.bundles)) l.lots l.bundles l.counter;
}
