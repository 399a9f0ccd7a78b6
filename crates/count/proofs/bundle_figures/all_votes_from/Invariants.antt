-- The invariant of the loop in `all_votes_from`.
use Rattle.std.proofs.Common.{◌≡◌, map, take, length, reverse}
use Rattle.std.specs.List.{range_with_len}
use Rattle.paper.specs.Columns.{max_candidates}
use Rattle.count.specs.Inside.Placing.{votes_from}
use Rattle.count.proofs.bundle_figures.all_votes_from.Given as goal

abbrev pub invariant-loop-i : goal.invariant-loop-i
invariant-loop-i l = record {
  size : length l.votes ≡ max_candidates;
  made : take l.i l.votes ≡ map (votes_from l.quota (reverse l.stages) l.action l.sums) (range_with_len 1 l.i);
}
