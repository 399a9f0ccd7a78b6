-- The invariant of the loop in `name_at`.
use Rattle.std.proofs.Common.{◌≡◌, map, drop, string_bytes}
use Rattle.sheet.specs.Ballots.{name_at}
use Rattle.sheet.proofs.ballots.name_at.Given as goal

abbrev pub invariant-loop-candidate : goal.invariant-loop-candidate
invariant-loop-candidate l =
    name_at (map (λ candidate. (candidate.0, string_bytes candidate.1)) (drop l.candidate-index l.candidate-items)) l.c
    ≡ name_at (map (λ candidate. (candidate.0, string_bytes candidate.1)) l.candidate-items) l.c
