-- The invariant of the loop in `all_votes`.
use Rattle.std.proofs.Common.{◌≡◌, map, take, length, reverse}
use Rattle.std.specs.List.{range_with_len}
use Rattle.paper.specs.Columns.{max_candidates}
use Rattle.count.specs.Inside.Holdings.{votes_with}
use Rattle.count.proofs.parcel_figures.all_votes.Given as goal

abbrev pub invariant-loop-i : goal.invariant-loop-i
invariant-loop-i l = record {
  size : length l.votes ≡ max_candidates;
  made : take l.i l.votes ≡ map (votes_with l.quota (reverse l.stages) l.action l.moved) (range_with_len 1 l.i);
}
