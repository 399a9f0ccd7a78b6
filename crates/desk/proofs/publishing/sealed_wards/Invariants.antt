-- The invariant of the loop in `sealed_wards`: what was read of the wards so far, followed by what is published of the remaining ones, is all that is published.
use Rattle.std.proofs.Common.{◌≡◌, ◌++◌, Ok, drop, map}
use Rattle.std.specs.List.{flat_map}
use Rattle.sqlite.specs.Held.{state}
use Rattle.desk.specs.Publications.{Reads, sealed_entry, ward_of_overview, ward_published}
use Rattle.desk.proofs.publishing.sealed_wards.Given as goal

abbrev pub invariant-loop-overview : goal.invariant-loop-overview
invariant-loop-overview g l = Reads (state g.S.Store) l.initial.office l.office (Ok (map sealed_entry l.wards.items)) (λ s done. map ward_of_overview l.overviews ≡ s.wards
    → done ++ flat_map (ward_published l.asked.title.now l.asked.with_ballots s) (map ward_of_overview (drop l.overview-index l.overviews))
    ≡ flat_map (ward_published l.asked.title.now l.asked.with_ballots s) (map ward_of_overview l.overviews))
