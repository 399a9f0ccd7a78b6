-- The loop invariant of `list_value`.
use Rattle.std.proofs.Common.{◌≡◌, map, take}
use Rattle.serde_json.specs.View.{view}
use Rattle.store.specs.Overviews.{ward_view}
use Rattle.wire.specs.OfficeReplies.{ward_data}
use Rattle.wire.proofs.read_responses.wards.list_value.Given as goal

abbrev pub invariant-loop-ward : goal.invariant-loop-ward
invariant-loop-ward l = map view l.values.items ≡ map ward_data (map ward_view (take l.ward-index l.wards))
