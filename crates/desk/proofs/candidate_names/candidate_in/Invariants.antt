-- The invariant of the loop in `candidate_in`: none of the candidates so far has the number.
use Rattle.std.proofs.Common.{◌≡◌, drop, map}
use Rattle.register.specs.Offices.{candidate_entry}
use Rattle.desk.specs.CandidateNames.{candidate_in}
use Rattle.desk.proofs.candidate_names.candidate_in.Given as goal

abbrev pub invariant-loop-candidate : goal.invariant-loop-candidate
invariant-loop-candidate l = candidate_in (map candidate_entry (drop l.candidate-index l.candidates)) l.number ≡ candidate_in (map candidate_entry l.candidates) l.number
