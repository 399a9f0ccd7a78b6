-- The invariant of the loop in `all_named`: the candidates so far, followed by the remaining ones, are all the candidates.
use Rattle.std.proofs.Common.{◌≡◌, ◌++◌, drop, map, string_bytes}
use Rattle.std.specs.List.{flat_map}
use Rattle.register.specs.Offices.{candidate_entry}
use Rattle.desk.specs.Steps.{all_named, named_behind}
use Rattle.desk.proofs.steps.all_named.Given as goal

abbrev pub invariant-loop-number : goal.invariant-loop-number
invariant-loop-number l = string_bytes l.text ++ flat_map (named_behind (map candidate_entry l.candidates)) (drop l.number-index l.others) ≡ all_named (map candidate_entry l.candidates) l.numbers
