-- The invariant of the loop in `all_listed`: the wards so far, followed by the remaining ones, are all the wards.
use Rattle.std.proofs.Common.{◌≡◌, ◌++◌, map, drop}
use Rattle.sheet.specs.Index.{listed}
use Rattle.store.specs.Overviews.{ward_view}
use Rattle.office.specs.Index.{listed_shown}
use Rattle.office.proofs.index.all_listed.Given as goal

abbrev pub invariant-loop-overview : goal.invariant-loop-overview
invariant-loop-overview l = map listed l.wards.items ++ map listed_shown (map ward_view (drop l.overview-index l.overviews)) ≡ map listed_shown (map ward_view l.overviews)
