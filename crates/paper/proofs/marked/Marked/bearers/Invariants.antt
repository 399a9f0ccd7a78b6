-- The invariant of the loop in `bearers`.
use Rattle.std.proofs.Common.{◌≡◌, ◌+◌, take, length}
use Rattle.std.specs.List.{zip}
use Rattle.paper.specs.Bearers.{AreBearers}
use Rattle.paper.specs.Columns.{max_candidates}
use Rattle.paper.proofs.marked.Marked.bearers.Given as goal

abbrev pub invariant-loop-i : goal.invariant-loop-i
invariant-loop-i l = record {
  size : length l.bearers ≡ max_candidates + 1;
  so_far : AreBearers (take l.i (zip l.c-items l.self-inside.marks)) l.bearers;
}
