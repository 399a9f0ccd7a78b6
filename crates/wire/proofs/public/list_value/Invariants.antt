-- The loop invariant of `list_value`.
use Rattle.std.proofs.Common.{◌≡◌, map, take}
use Rattle.serde_json.specs.View.{view}
use Rattle.store.specs.Overviews.{ward_view}
use Rattle.wire.specs.PublicReplies.{screen_ward_data}
use Rattle.wire.proofs.public.list_value.Given as goal

abbrev pub invariant-loop-ward : goal.invariant-loop-ward
invariant-loop-ward l = map view l.values.items ≡ map screen_ward_data (map (λ v. v.ward) (map ward_view (take l.ward-index l.wards)))
