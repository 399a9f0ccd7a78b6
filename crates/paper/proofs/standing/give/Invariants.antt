-- The invariant of the loop in `give`.
use Rattle.std.proofs.Common.{◌+◌, ◌≡◌, ℕ, nat_eq, cond, length, take}
use Rattle.std.specs.List.{list_any}
use Rattle.paper.specs.Columns.{max_candidates}
use Rattle.paper.specs.Standing.{status_of}
use Rattle.paper.proofs.standing.give.Given as goal

abbrev pub invariant-loop-c : goal.invariant-loop-c
invariant-loop-c l = record {
  size : length l.statuses ≡ max_candidates + 1;
  given : (c : ℕ) → status_of l.statuses c ≡ cond (list_any (nat_eq c) (take l.c-index l.c-items)) l.status (status_of l.initial.statuses c);
  none : status_of l.statuses 0 ≡ status_of l.initial.statuses 0;
}
