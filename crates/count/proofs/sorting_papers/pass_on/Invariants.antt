-- The invariant of the loop in `pass_on`.
use Rattle.std.proofs.Common.{◌≡◌, ℕ, List, take, vec_len}
use Rattle.paper.specs.Standing.{is_continuing}
use Rattle.count.specs.Inside.Holdings.{holder_count, total, total_passed, AreNumbered}
use Rattle.count.proofs.sorting_papers.pass_on.Given as goal

abbrev pub invariant-loop-holding : goal.invariant-loop-holding
invariant-loop-holding l = record {
  len : vec_len l.moved ≡ holder_count;
  numbered : AreNumbered 0 l.moved.items;
  passed : (f : ℕ → List ℕ → ℕ → ℕ) → total f l.moved.items ≡ total_passed f l.c (is_continuing l.standing) l.rule (take l.holding-index l.holdings);
}
