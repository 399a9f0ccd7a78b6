-- The invariant of the loop in `candidates_of`: the candidates so far, followed by the remaining ones, are all candidates.
use Rattle.std.proofs.Common.{◌≡◌, ◌++◌, drop, map}
use Rattle.register.specs.Offices.{candidate_entry}
use Rattle.forms.specs.Lots.{candidate_shown}
use Rattle.desk.specs.Forms.{candidate_of}
use Rattle.desk.proofs.ward_forms.candidates_of.Given as goal

abbrev pub invariant-loop-candidate : goal.invariant-loop-candidate
invariant-loop-candidate l = map candidate_shown l.shown.items ++ map candidate_of (map candidate_entry (drop l.candidate-index l.candidates)) ≡ map candidate_of (map candidate_entry l.candidates)
