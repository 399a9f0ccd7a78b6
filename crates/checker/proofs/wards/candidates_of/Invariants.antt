-- The invariant of the loop in `candidates_of`: the candidates so far, followed by those with the remaining names, are all candidates.
use Rattle.std.proofs.Common.{◌≡◌, ◌+◌, ◌++◌, map, drop}
use Rattle.std.specs.Prelude.{string_bytes}
use Rattle.checker.specs.Wards.{candidates_from, candidates_of}
use Rattle.checker.proofs.wards.candidates_of.Given as goal

abbrev pub invariant-loop-i : goal.invariant-loop-i
invariant-loop-i l =
    map (λ candidate. (candidate.0, string_bytes candidate.1)) l.candidates.items ++ candidates_from l.withdrawn (1 + l.i) (map string_bytes (drop l.i l.names))
    ≡ candidates_of l.withdrawn (map string_bytes l.names)
