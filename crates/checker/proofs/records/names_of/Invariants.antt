-- The invariant of the loop in `names_of`: the names so far, followed by the remaining ones, are all names.
use Rattle.std.proofs.Common.{◌≡◌, ◌++◌, map, drop}
use Rattle.std.specs.Prelude.{string_bytes}
use Rattle.checker.proofs.records.names_of.Given as goal

abbrev pub invariant-loop-name : goal.invariant-loop-name
invariant-loop-name l = map string_bytes l.names.items ++ map (λ c. c.now) (drop l.name-index l.candidates) ≡ map (λ c. c.now) l.candidates
