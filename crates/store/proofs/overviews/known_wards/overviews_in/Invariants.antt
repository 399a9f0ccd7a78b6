-- The invariant of the loop in `overviews_in`.
use Rattle.std.proofs.Common.{◌≡◌, map, take}
use Rattle.store.specs.Overviews.{batch_view}
use Rattle.store.specs.Memories.{views_in}
use Rattle.store.proofs.overviews.known_wards.overviews_in.Given as goal

abbrev pub invariant-loop-one : goal.invariant-loop-one
invariant-loop-one l = map batch_view l.found.items ≡ views_in (take l.one-index l.known) l.ward
