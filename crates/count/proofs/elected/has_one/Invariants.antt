-- The invariant of the loop in `has_one`.
use Rattle.std.proofs.Common.{◌≡◌, ℕ, ◌≤◌, Bool, false, take}
use Rattle.std.specs.List.{list_any}
use Rattle.paper.specs.Columns.{max_candidates}
use Rattle.count.proofs.elected.has_one.Given as goal

abbrev pub invariant-loop-c : goal.invariant-loop-c
invariant-loop-c g l =
    (test : ℕ → Bool) → ((c : ℕ) (passed : Bool) → 1 ≤ c → c ≤ max_candidates → goal.F-post g l.passes c passed → passed ≡ test c) → list_any test (take l.c-index l.c-items) ≡ false
