-- The invariant of the loop in `are_in_order`.
use Rattle.std.proofs.Common.{◌≡◌, ◌≤◌, map, drop}
use Rattle.publication.specs.Election.{ascend_from, numbers, ward_entry}
use Rattle.publication.proofs.election.are_in_order.Given as goal

abbrev pub invariant-loop-ward : goal.invariant-loop-ward
invariant-loop-ward l =
    (l.least ≤ 256) × (ascend_from l.least (numbers (map ward_entry (drop l.ward-index l.wards))) ≡ ascend_from 0 (numbers (map ward_entry l.wards)))
