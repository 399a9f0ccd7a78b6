-- The invariant of the loop in `ascend_above`.
use Rattle.std.proofs.Common.{◌↔◌, map, drop}
use Rattle.sheet.specs.Wards.{Ascend}
use Rattle.sheet.proofs.fitness.ascend_above.Given as goal

abbrev pub invariant-loop-candidate : goal.invariant-loop-candidate
invariant-loop-candidate l = Ascend l.below (map (λ candidate. candidate.0) (drop l.candidate-index l.candidates)) ↔ Ascend l.low (map (λ candidate. candidate.0) l.candidates)
