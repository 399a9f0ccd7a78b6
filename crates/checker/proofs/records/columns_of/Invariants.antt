-- The invariant of the loop in `columns_of`: the set contains the numbers so far.
use Rattle.std.proofs.Common.{◌≡◌}
use Rattle.std.specs.List.{range_with_len}
use Rattle.checker.proofs.records.columns_of.Given as goal

abbrev pub invariant-loop-below : goal.invariant-loop-below
invariant-loop-below l = l.columns ≡ range_with_len 1 l.below
