-- The invariant of the loop in `columns_of`.
use Rattle.std.proofs.Common.{◌≡◌, [], map, take, fold}
use Rattle.register.specs.Offices.{candidate_entry}
use Rattle.register.specs.Marks.{and_column}
use Rattle.register.proofs.marks.columns_of.Given as goal

abbrev pub invariant-loop-candidate : goal.invariant-loop-candidate
invariant-loop-candidate l = l.columns ≡ fold and_column [] (map candidate_entry (take l.candidate-index l.candidates))
