-- The invariant of the loop in `NamesByNumber::new`: the table contains the names for the numbers so far.
use Rattle.std.proofs.Common.{◌≡◌, map}
use Rattle.std.specs.List.{range_with_len}
use Rattle.register.specs.Offices.{candidate_entry}
use Rattle.desk.specs.CandidateNames.{name_of}
use Rattle.desk.proofs.candidate_names.NamesByNumber.new.Given as goal

abbrev pub invariant-loop-number : goal.invariant-loop-number
invariant-loop-number l = map (λ name. name.now) l.places.items ≡ map (name_of (map candidate_entry l.candidates)) (range_with_len 0 l.number)
