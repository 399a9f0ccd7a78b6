-- The invariant of the loop in `those`.
use Rattle.std.proofs.Common.{◌≡◌, ℕ, ◌≤◌, Bool, take}
use Rattle.std.specs.List.{filter}
use Rattle.paper.specs.Columns.{max_candidates}
use Rattle.count.proofs.elected.those.Given as goal

abbrev pub invariant-loop-c : goal.invariant-loop-c
invariant-loop-c g l =
    (test : ℕ → Bool) → ((c : ℕ) (passed : Bool) → 1 ≤ c → c ≤ max_candidates → goal.F-post g l.passes c passed → passed ≡ test c) → l.chosen ≡ filter test (take l.c-index l.c-items)
