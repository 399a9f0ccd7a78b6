-- The invariant of the loop in `empty_holdings`.
use Rattle.std.proofs.Common.{◌≡◌, ℕ, List, vec_len}
use Rattle.count.specs.Inside.Holdings.{total, AreNumbered}
use Rattle.count.proofs.sorting_papers.empty_holdings.Given as goal

abbrev pub invariant-loop-holder : goal.invariant-loop-holder
invariant-loop-holder l = record {
  len : vec_len l.holdings ≡ l.holder;
  numbered : AreNumbered 0 l.holdings.items;
  empty : (f : ℕ → List ℕ → ℕ → ℕ) → total f l.holdings.items ≡ 0;
}
