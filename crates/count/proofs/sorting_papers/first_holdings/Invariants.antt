-- The invariant of the loop in `first_holdings`.
use Rattle.std.proofs.Common.{◌≡◌, ℕ, List, take, vec_len}
use Rattle.std.specs.List.{sum_by}
use Rattle.votes.specs.Units.{one_vote}
use Rattle.count.specs.Law.Places.{first_of}
use Rattle.count.specs.Inside.Holdings.{holder_count, total, AreNumbered}
use Rattle.count.specs.Books.{AreRankings}
use Rattle.count.proofs.sorting_papers.first_holdings.Given as goal

abbrev pub invariant-loop-prefs : goal.invariant-loop-prefs
invariant-loop-prefs l = record {
  len : vec_len l.holdings ≡ holder_count;
  numbered : AreNumbered 0 l.holdings.items;
  dealt : (f : ℕ → List ℕ → ℕ → ℕ) → total f l.holdings.items ≡ sum_by (λ paper. f (first_of paper) paper one_vote) (take l.prefs-index l.papers);
  rankings : AreRankings (take l.prefs-index l.papers);
}
