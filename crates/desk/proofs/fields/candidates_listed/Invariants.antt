-- The invariant of the loop in `candidates_listed`: the candidates so far, followed by the remaining ones, are all the candidates.
use Rattle.std.proofs.Common.{◌≡◌, ◌++◌, drop, map, string_bytes}
use Rattle.std.specs.List.{flat_map}
use Rattle.register.specs.Offices.{candidate_entry}
use Rattle.desk.specs.Fields.{candidate_behind, candidates_listed}
use Rattle.desk.proofs.fields.candidates_listed.Given as goal

abbrev pub invariant-loop-candidate : goal.invariant-loop-candidate
invariant-loop-candidate l = string_bytes l.text ++ flat_map candidate_behind (map candidate_entry (drop l.candidate-index l.others)) ≡ candidates_listed (map candidate_entry l.candidates)
