-- The invariant of the loop in `pass_papers`.
use Rattle.std.proofs.Common.{◌≡◌, ℕ, ◌+◌, List, take, vec_len}
use Rattle.std.specs.List.{sum_by}
use Rattle.count.specs.Law.Places.{first_of}
use Rattle.paper.specs.Standing.{is_continuing}
use Rattle.count.specs.Inside.Holdings.{holder_count, total, AreNumbered, passed_to}
use Rattle.count.proofs.sorting_papers.pass_papers.Given as goal

abbrev pub invariant-loop-paper : goal.invariant-loop-paper
invariant-loop-paper l = record {
  len : vec_len l.holdings ≡ holder_count;
  numbered : AreNumbered 0 l.holdings.items;
  passed : (f : ℕ → List ℕ → ℕ → ℕ) → total f l.holdings.items
      ≡ total f l.fn.holdings.items + sum_by (λ rest. f (first_of (passed_to (is_continuing l.standing) rest.now)) (passed_to (is_continuing l.standing) rest.now) l.value)
      (take l.paper-index l.papers);
}
