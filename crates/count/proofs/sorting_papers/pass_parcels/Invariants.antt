-- The invariant of the loop in `pass_parcels`.
use Rattle.std.proofs.Common.{◌≡◌, ℕ, ◌+◌, List, take, vec_len}
use Rattle.paper.specs.Standing.{is_continuing}
use Rattle.count.specs.Inside.Holdings.{holder_count, total, total_of, at_passed, AreNumbered}
use Rattle.count.proofs.sorting_papers.pass_parcels.Given as goal

abbrev pub invariant-loop-parcel : goal.invariant-loop-parcel
invariant-loop-parcel l = record {
  len : vec_len l.holdings ≡ holder_count;
  numbered : AreNumbered 0 l.holdings.items;
  passed : (f : ℕ → List ℕ → ℕ → ℕ) → total f l.holdings.items
      ≡ total f l.fn.holdings.items + total_of (at_passed f (is_continuing l.standing) l.rule) (take l.parcel-index l.parcels);
}
