-- The invariant of the loop in `push_later_results`.
use Rattle.std.proofs.Common.{◌≡◌, ◌++◌, codes, map, drop, string_bytes}
use Rattle.std.specs.List.{flat_map}
use Rattle.publication.specs.Election.{ward_entry}
use Rattle.publication.proofs.results.push_later_results.Given as goal

abbrev pub invariant-loop-ward : goal.invariant-loop-ward
invariant-loop-ward l = string_bytes l.text ++ flat_map (λ ward. codes "," ++ ward.results) (map ward_entry (drop l.ward-index l.wards))
    ≡ string_bytes l.fn.text ++ flat_map (λ ward. codes "," ++ ward.results) (map ward_entry l.wards)
