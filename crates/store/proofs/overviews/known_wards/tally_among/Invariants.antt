-- The invariant of the loop in `tally_among`.
use Rattle.std.proofs.Common.{◌≡◌, List, map, take}
use Rattle.register.specs.Offices.{BatchEntry, OfficeState}
use Rattle.store.specs.Overviews.{batch_view}
use Rattle.store.specs.Memories.{views_of}
use Rattle.store.specs.Tallies.{IsTally}
use Rattle.store.proofs.overviews.known_wards.tally_among.Given as goal

abbrev pub invariant-loop-overview : goal.invariant-loop-overview
invariant-loop-overview l = (s : OfficeState) (bs : List BatchEntry) → map batch_view l.overviews ≡ views_of s bs → IsTally s (take l.overview-index bs) l.tally
