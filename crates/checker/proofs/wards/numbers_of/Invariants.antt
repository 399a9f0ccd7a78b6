-- The invariant of the loop in `numbers_of`: the set contains the numbers so far.
use Rattle.std.proofs.Common.{◌≡◌, map, take}
use Rattle.checker.proofs.wards.numbers_of.Given as goal

abbrev pub invariant-loop-candidate : goal.invariant-loop-candidate
invariant-loop-candidate l = l.columns ≡ take l.candidate-index (map (λ candidate. candidate.0) l.ward.candidates.now)
