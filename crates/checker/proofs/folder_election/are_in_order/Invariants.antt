-- The invariant of the loop in `are_in_order`.
use Rattle.std.proofs.Common.{◌≡◌, ◌≤◌, map, drop}
use Rattle.publication.specs.Election.{ascend_from}
use Rattle.sheet.specs.Index.{listed}
use Rattle.checker.proofs.folder_election.are_in_order.Given as goal

abbrev pub invariant-loop-ward : goal.invariant-loop-ward
invariant-loop-ward l =
    (l.least ≤ 256) × (ascend_from l.least (map (λ ward. (listed ward).number) (drop l.ward-index l.wards)) ≡ ascend_from 0 (map (λ ward. (listed ward).number) l.wards))
