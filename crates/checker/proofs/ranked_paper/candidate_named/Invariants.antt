-- The invariant of the loop in `candidate_named`: the candidate found so far and the remaining names determine the result.
use Rattle.std.proofs.Common.{◌≡◌, ◌+◌, ◌≤◌, Option, Some, None, drop, map}
use Rattle.std.specs.Prelude.{ℕ, string_bytes, ⊤}
use Rattle.paper.specs.Columns.{max_candidates}
use Rattle.checker.specs.RankFields.{candidate_from, candidate_named}
use Rattle.checker.proofs.ranked_paper.candidate_named.Given as goal

-- a candidate found so far is in range
abbrev pub InRange : Option ℕ → Type 0
InRange None = ⊤
InRange (Some c) = (1 ≤ c) × (c ≤ max_candidates)

abbrev pub invariant-loop-i : goal.invariant-loop-i
invariant-loop-i l = record {
  same : candidate_from l.field l.found (l.i + 1) (map string_bytes (drop l.i l.names)) ≡ candidate_named (map string_bytes l.names) l.field;
  range : InRange l.found;
}
